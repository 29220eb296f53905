-- A state's weight counts: after n inserts it is the float of n, and the weight of two states combined is the float of the sum
-- of their counts, up to 2 ^ 53. One law over the state; each of the five states cites it. Assumes nothing.
use Rattle.std.proofs.Common.{◌≡◌, ℕ, suc, ◌+◌, ◌^◌, ◌<◌, ◌≤◌, Bool, true, false, cond, T, eqb, leb, List, [], ◌∷◌, length, sym, refl, ap, ◌∙◌, subst, add-zero, arith, eqb→eq, ne_eqb}
use mathlib.Core.List.{foldl, foldr}
use borrow.Author.Tests.{eqb-false}
use lib.Ieee.{Float, eq, le}
use Rattle.float.specs.Operators.{◌⊕◌, zero64, one64, of_nat64}
use Rattle.float.proofs.Counts.{count_one, count_add, count-zero, count-le, zero_is}
use Rattle.moment.specs.declared.var_state.VarState.{VarState}
use Rattle.moment.specs.declared.cov_state.CovState.{CovState}
use Rattle.moment.specs.declared.pearson_state.PearsonState.{PearsonState}
use Rattle.moment.specs.declared.skew_state.SkewState.{SkewState}
use Rattle.moment.specs.declared.kurtosis_state.KurtosisState.{KurtosisState}
use Rattle.moment.specs.Var.{var_empty, var_clear, var_inserted, var_insert, var_merged, var_merge, var_combine}
use Rattle.moment.specs.Cov.{cov_insert, cov_merge, cov_combine}
use Rattle.moment.specs.Pearson.{pearson_insert, pearson_merge, pearson_combine}
use Rattle.moment.specs.Skew.{skew_clear, skew_inserted, skew_insert, skew_merged, skew_merge, skew_combine}
use Rattle.moment.specs.Kurtosis.{kurtosis_clear, kurtosis_insert, kurtosis_merge, kurtosis_combine}

-- ---- a weight that is the float of a count, compared
-- it is zero exactly where the count is
pub at_zero : (w : Float) (n : ℕ) → n ≤ 2 ^ 53 → w ≡ of_nat64 n → eq w zero64 ≡ eqb n 0
at_zero w n h e = ap (λ (w : Float). eq w zero64) e ∙ count-zero n h

-- it is at most ddof exactly where the count is
pub at_most_ddof : (w : Float) (n ddof : ℕ) → n ≤ 2 ^ 53 → ddof < 256 → w ≡ of_nat64 n → le w (of_nat64 ddof) ≡ leb n ddof
at_most_ddof w n ddof h k e = ap (λ (w : Float). le w (of_nat64 ddof)) e ∙ count-le n ddof h (omega arith)

-- ---- the law
-- one reading more
raised : (w : Float) (n : ℕ) → n < 2 ^ 53 → w ≡ of_nat64 n → w ⊕ one64 ≡ of_nat64 (n + 1)
raised w n h e = ap (λ (w : Float). w ⊕ one64) e ∙ count_one n (omega arith)

-- what is shown of a state: that inserts count, and that `combine` adds counts
abbrev pub InsertsCount : {S A : Type 0} → (S → Float) → (S → A → S) → Type 0
InsertsCount {S} {A} weight insert = (xs : List A) (s : S) (a : ℕ) → weight s ≡ of_nat64 a → a + length xs ≤ 2 ^ 53 → weight (foldl insert s xs) ≡ of_nat64 (a + length xs)

abbrev pub CombineCounts : {S : Type 0} → (S → Float) → (S → S → S) → Type 0
CombineCounts {S} weight combine = (s o : S) (a b : ℕ) → a ≤ 2 ^ 53 → b ≤ 2 ^ 53 → weight s ≡ of_nat64 a → weight o ≡ of_nat64 b → weight (combine s o) ≡ of_nat64 (a + b)

-- an insert raises a weight that counts by one
abbrev pub OneMore : {S A : Type 0} → (S → Float) → (S → A → S) → Type 0
OneMore {S} {A} weight insert = (s : S) (x : A) (n : ℕ) → n < 2 ^ 53 → weight s ≡ of_nat64 n → weight (insert s x) ≡ of_nat64 (n + 1)

-- so does one that raises every weight by 1.0 ..
pub raising : {S A : Type 0} (weight : S → Float) (insert : S → A → S) → ((s : S) (x : A) → weight (insert s x) ≡ weight s ⊕ one64)
    → OneMore weight insert
raising weight insert raises s x n h e = raises s x ∙ raised _ n h e

-- .. and one that combines with a state of weight one
pub combining : {S A : Type 0} (weight : S → Float) (combine : S → S → S) (new : A → S) → CombineCounts weight combine
    → ((x : A) → weight (new x) ≡ of_nat64 1) → OneMore weight (λ s x. combine s (new x))
combining weight combine new adds one s x n h e = adds s (new x) n 1 (omega arith) (omega arith) e (one x)

module _ {S A : Type 0} (weight : S → Float) (insert : S → A → S) (more : OneMore weight insert) where
  -- n entries put into a state of weight a give one of weight a + n
  pub inserts-count : InsertsCount weight insert
  inserts-count [] s a e h = e ∙ ap of_nat64 (sym (add-zero a))
  inserts-count (x ∷ xs) s a e h =
      inserts-count xs (insert s x) (a + 1) (more s x a (omega arith) e) (omega arith)
      ∙ ap of_nat64 (let k : a + 1 + length xs ≡ a + suc (length xs) = omega arith in k)

  -- the same in falling order
  pub falls-count : (xs : List A) (s : S) → weight s ≡ of_nat64 0 → length xs ≤ 2 ^ 53 → weight (foldr (λ x t. insert t x) s xs) ≡ of_nat64 (length xs)
  falls-count [] s e h = e
  falls-count (x ∷ xs) s e h =
      more _ x (length xs) (omega arith) (falls-count xs s e (omega arith))
      ∙ ap of_nat64 (let k : length xs + 1 ≡ suc (length xs) = omega arith in k)

  -- a window: one part inserted in rising order, combined with another inserted in falling order
  pub parts-count : (combine : S → S → S) → CombineCounts weight combine → (empty : S) → weight empty ≡ of_nat64 0 → (xs ys : List A) → length xs + length ys ≤ 2 ^ 53
      → weight (combine (foldl insert empty xs) (foldr (λ x t. insert t x) empty ys)) ≡ of_nat64 (length xs + length ys)
  parts-count combine adds empty e xs ys h =
      let k : 0 + length xs ≡ length xs = omega arith in
      adds _ _ (length xs) (length ys) (omega arith) (omega arith) (inserts-count xs empty 0 e (omega arith) ∙ ap of_nat64 k) (falls-count ys empty e (omega arith))

-- what `combine` answers: the first where the other's weight is zero, the other where its own is zero, else the two merged
module _ {S : Type 0} (weight : S → Float) (s o m : S) (a b : ℕ) (h : a ≤ 2 ^ 53) (k : b ≤ 2 ^ 53) (p : weight s ≡ of_nat64 a) (q : weight o ≡ of_nat64 b) (adds : weight m ≡ weight s ⊕ weight o) where
  merged : weight m ≡ of_nat64 (a + b)
  merged = adds ∙ ap (λ (w : Float). w ⊕ weight o) p ∙ ap (λ (w : Float). of_nat64 a ⊕ w) q ∙ count_add a b h k

  none_other : T (eqb b 0) → a ≡ a + b
  none_other t = let z : b ≡ 0 = eqb→eq b 0 t in omega arith

  none-own : T (eqb a 0) → b ≡ a + b
  none-own t = let z : a ≡ 0 = eqb→eq a 0 t in omega arith

  other-tested : (t : Bool) (n : S) → t ≡ eqb b 0 → weight n ≡ of_nat64 (a + b) → weight (cond t s n) ≡ of_nat64 (a + b)
  other-tested true n e f = p ∙ ap of_nat64 (none_other (subst T e tt))
  other-tested false n e f = f

  own-tested : (t : Bool) → t ≡ eqb a 0 → weight (cond t o m) ≡ of_nat64 (a + b)
  own-tested true e = q ∙ ap of_nat64 (none-own (subst T e tt))
  own-tested false e = merged

  -- variance's combine, which does not test its own weight
  pub merged-count : weight (cond (eq (weight o) zero64) s m) ≡ of_nat64 (a + b)
  merged-count = other-tested _ m (at_zero (weight o) b k q) merged

  -- the other states' combine
  pub combined-count : weight (cond (eq (weight o) zero64) s (cond (eq (weight s) zero64) o m)) ≡ of_nat64 (a + b)
  combined-count = other-tested _ _ (at_zero (weight o) b k q) (own-tested _ (at_zero (weight s) a h p))

-- clearing keeps the weight
cleared : {S : Type 0} (weight : S → Float) (t : Bool) (s z : S) → weight z ≡ weight s → weight (cond t z s) ≡ weight s
cleared weight true s z e = e
cleared weight false s z e = refl

-- a state of one or more readings: its weight is not zero, so nothing is cleared
uncleared : {S : Type 0} (weight : S → Float) (s z : S) (n : ℕ) → 0 < n → n ≤ 2 ^ 53 → weight s ≡ of_nat64 n → s ≡ cond (eq (weight s) zero64) z s
uncleared weight s z n k h e = rw (at_zero (weight s) n h e, ne_eqb n 0 (λ y. omega arith))

-- ---- clearing keeps the weight
abbrev pub var_weight : VarState → Float
var_weight s = s.weight

var_cleared : (s : VarState) → (var_clear s).weight ≡ s.weight
unfolding var_clear
var_cleared s = cleared var_weight (eq s.weight zero64) s _ refl

abbrev pub skew_weight : SkewState → Float
skew_weight s = s.weight

skew_cleared : (s : SkewState) → (skew_clear s).weight ≡ s.weight
unfolding skew_clear
skew_cleared s = cleared skew_weight (eq s.weight zero64) s _ refl

abbrev pub kurtosis_weight : KurtosisState → Float
kurtosis_weight s = s.weight

kurtosis_cleared : (s : KurtosisState) → (kurtosis_clear s).weight ≡ s.weight
unfolding kurtosis_clear
kurtosis_cleared s = cleared kurtosis_weight (eq s.weight zero64) s _ refl

abbrev pub cov_weight : CovState → Float
cov_weight s = s.weight

abbrev pub pearson_weight : PearsonState → Float
pearson_weight s = s.weight

-- ---- inserts count
pub var_raises : (s : VarState) (x : Float) → (var_insert s x).weight ≡ s.weight ⊕ one64
var_raises s x = var_cleared _

pub var_inserts_count : InsertsCount var_weight var_insert
var_inserts_count = inserts-count var_weight var_insert (raising var_weight var_insert var_raises)

pub skew_raises : (s : SkewState) (x : Float) → (skew_insert s x).weight ≡ s.weight ⊕ one64
skew_raises s x = skew_cleared _

pub skew_inserts_count : InsertsCount skew_weight skew_insert
skew_inserts_count = inserts-count skew_weight skew_insert (raising skew_weight skew_insert skew_raises)

pub kurtosis_inserts_count : InsertsCount kurtosis_weight kurtosis_insert
kurtosis_inserts_count =
    inserts-count kurtosis_weight kurtosis_insert (raising kurtosis_weight kurtosis_insert (λ s x. kurtosis_cleared _))

pub cov_inserts_count : InsertsCount cov_weight (λ s (p : Float × Float). cov_insert s p.0 p.1)
cov_inserts_count =
    inserts-count cov_weight (λ s p. cov_insert s p.0 p.1)
    (raising cov_weight (λ s (p : Float × Float). cov_insert s p.0 p.1) (λ s p. refl))

pub pearson_inserts_count : InsertsCount pearson_weight (λ s (p : Float × Float). pearson_insert s p.0 p.1)
pearson_inserts_count =
    inserts-count pearson_weight (λ s p. pearson_insert s p.0 p.1)
    (raising pearson_weight (λ s (p : Float × Float). pearson_insert s p.0 p.1) (λ s p. refl))

-- ---- `combine` adds counts
pub var_combine_count : CombineCounts var_weight var_combine
unfolding var_combine
var_combine_count s o a b h k p q = merged-count var_weight s o (var_merge s o) a b h k p q (var_cleared _)

pub var_parts_count : (xs ys : List Float) → length xs + length ys ≤ 2 ^ 53
    → (var_combine (foldl var_insert var_empty xs) (foldr (λ x s. var_insert s x) var_empty ys)).weight ≡ of_nat64 (length xs + length ys)
var_parts_count = parts-count var_weight var_insert (raising var_weight var_insert var_raises) var_combine var_combine_count var_empty zero_is

pub skew_combine_count : CombineCounts skew_weight skew_combine
unfolding skew_combine
skew_combine_count s o a b h k p q = combined-count skew_weight s o (skew_merge s o) a b h k p q (skew_cleared _)

pub kurtosis_combine_count : CombineCounts kurtosis_weight kurtosis_combine
unfolding kurtosis_combine
kurtosis_combine_count s o a b h k p q = combined-count kurtosis_weight s o (kurtosis_merge s o) a b h k p q (kurtosis_cleared _)

pub cov_combine_count : CombineCounts cov_weight cov_combine
unfolding cov_combine
cov_combine_count s o a b h k p q = combined-count cov_weight s o (cov_merge s o) a b h k p q refl

pub pearson_combine_count : CombineCounts pearson_weight pearson_combine
unfolding pearson_combine
pearson_combine_count s o a b h k p q = combined-count pearson_weight s o (pearson_merge s o) a b h k p q refl

-- ---- a state of readings has nothing to clear, and which state `combine` answers is told by the counts
pub var_inserted_lem : (s : VarState) (x : Float) (n : ℕ) → n < 2 ^ 53 → s.weight ≡ of_nat64 n → var_inserted s x ≡ var_insert s x
unfolding var_clear
var_inserted_lem s x n h e = uncleared var_weight (var_inserted s x) _ (n + 1) (omega arith) (omega arith) (raised s.weight n h e)

pub skew_inserted_lem : (s : SkewState) (x : Float) (n : ℕ) → n < 2 ^ 53 → s.weight ≡ of_nat64 n → skew_inserted s x ≡ skew_insert s x
unfolding skew_clear
skew_inserted_lem s x n h e = uncleared skew_weight (skew_inserted s x) _ (n + 1) (omega arith) (omega arith) (raised s.weight n h e)

pub var_by_counts : (s o : VarState) (a b : ℕ) → a + b ≤ 2 ^ 53 → s.weight ≡ of_nat64 a → o.weight ≡ of_nat64 b → var_combine s o ≡ cond (eqb b 0) s (var_merged s o)
unfolding var_combine var_clear
var_by_counts s o a b h p q = rw (at_zero o.weight b (omega arith) q) (go (eqb b 0) refl)
  where
    go : (t : Bool) → eqb b 0 ≡ t → cond t s (var_merge s o) ≡ cond t s (var_merged s o)
    go true e = refl
    go false e =
        let n = eqb-false b 0 e in
        sym (uncleared var_weight (var_merged s o) _ (a + b) (omega arith) h (merged var_weight s o (var_merged s o) a b (omega arith) (omega arith) p q refl))

pub skew_by_counts : (s o : SkewState) (a b : ℕ) → a ≤ 2 ^ 53 → b ≤ 2 ^ 53 → s.weight ≡ of_nat64 a → o.weight ≡ of_nat64 b
    → skew_combine s o ≡ cond (eqb b 0) s (cond (eqb a 0) o (skew_merge s o))
unfolding skew_combine
skew_by_counts s o a b h k p q = rw (at_zero o.weight b k q, at_zero s.weight a h p)

pub skew_merged_lem : (s o : SkewState) (a b : ℕ) → a ≤ 2 ^ 53 → b ≤ 2 ^ 53 → a + b ≤ 2 ^ 53 → 0 < a + b → s.weight ≡ of_nat64 a → o.weight ≡ of_nat64 b → skew_merged s o ≡ skew_merge s o
unfolding skew_clear
skew_merged_lem s o a b h k l m p q = uncleared skew_weight (skew_merged s o) _ (a + b) m l (merged skew_weight s o (skew_merged s o) a b h k p q refl)
