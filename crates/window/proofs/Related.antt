-- What empty states share, and inserts and combines preserve, every history of two moments preserves, and every window of them over the
-- same places, whatever its account is: the parts of a window are folds of inserts, and a row's state is their combine. Assumes nothing.
use Prim.Native.Nat.{ℕ, zero, suc, ◌+◌, ◌≤◌}
use mathlib.Core.Path.{◌≡◌, refl, sym, ap, subst}
use mathlib.Core.Bool.{Bool, true, false, cond}
use mathlib.Core.List.{List, [], ◌∷◌}
use native.Mathlib.Nat.{add-zero, zero-add}
use native.Mathlib.Omega.{arith}
use lib.Dec.{leb, eqb}
use lib.ListN.{length}
use Rattle.moment.specs.declared.Figure.{Figure}
use Rattle.moment.specs.declared.Figure.TheVariants.{Missing}
use Rattle.plan.specs.Plan.{Plan, row_start, row_end}
use Rattle.window.specs.Places.{Places, Series, entries_from, entries, nonfinite_count}
use Rattle.window.specs.Window.{Account, Moment, front, back, rising, falling, as_nan, or_nan, figure_of}
use Rattle.window.specs.Histories.{History, empty, inserted, combined, after}
use Rattle.window.specs.Rows.{account_at, counted, answer_of, answer_at}

-- two lists, place by place
pub data Paired (A B : Type 0) (E : A → B → Type 0) : List A → List B → Type 0 where
  none : Paired A B E [] []
  more : {x : A} {y : B} {xs : List A} {ys : List B} → E x y → Paired A B E xs ys → Paired A B E (x ∷ xs) (y ∷ ys)

module _ {A B : Type 0} (E : A → B → Type 0) where
  pub paired_long : {xs : List A} {ys : List B} → Paired A B E xs ys → length xs ≡ length ys
  paired_long none = refl
  paired_long (more e p) = ap suc (paired_long p)

  -- the entries of the same places
  from-paired : (v : ℕ → Bool) (r : ℕ → A) (r' : ℕ → B) (k a : ℕ) → ((i : ℕ) → a ≤ i → suc i ≤ a + k → v i ≡ true → E (r i) (r' i))
      → Paired A B E (entries_from v r k a) (entries_from v r' k a)
  unfolding entries_from
  from-paired v r r' zero a f = none
  from-paired v r r' (suc k) a f =
      go (v a) (f a (omega arith) (omega arith)) (from-paired v r r' k (suc a) (λ i p q. f i (omega arith) (omega arith)))
    where
      go : (t : Bool) → (t ≡ true → E (r a) (r' a)) → Paired A B E (entries_from v r k (suc a)) (entries_from v r' k (suc a))
          → Paired A B E (cond t (r a ∷ entries_from v r k (suc a)) (entries_from v r k (suc a)))
          (cond t (r' a ∷ entries_from v r' k (suc a)) (entries_from v r' k (suc a)))
      go true e l = more (e refl) l
      go false e l = l

  pub entries-paired : (v : ℕ → Bool) (r : ℕ → A) (r' : ℕ → B) (a b : ℕ) → ((i : ℕ) → a ≤ i → suc i ≤ b → v i ≡ true → E (r i) (r' i))
      → Paired A B E (entries v r a b) (entries v r' a b)
  entries-paired v r r' a b f = from-paired v r r' _ a (λ i p q. f i p (omega arith))

-- what two moments keep alike, of states of n entries; `Small` says which n are meant
pub record Related {A B : Type 0} (M : Moment A) (N : Moment B) (Small : ℕ → Type 0) (E : A → B → Type 0)
    (S : ℕ → M.State → N.State → Type 0) : Type 0 where
  pub smaller : (a b : ℕ) → a ≤ b → Small b → Small a
  pub empties : S 0 M.empty N.empty
  pub inserts : (n : ℕ) (s : M.State) (s' : N.State) (x : A) (x' : B) → Small (suc n) → S n s s' → E x x'
      → S (suc n) (M.insert s x) (N.insert s' x')
  pub combines : (a b : ℕ) (s o : M.State) (s' o' : N.State) → Small (a + b) → S a s s' → S b o o'
      → S (a + b) (M.combine s o) (N.combine s' o')

module _ {A B : Type 0} {M : Moment A} {N : Moment B} {Small : ℕ → Type 0} {E : A → B → Type 0} {S : ℕ → M.State → N.State → Type 0}
    (R : Related M N Small E S) where
  rising-from : (n : ℕ) (s : M.State) (s' : N.State) {xs : List A} {ys : List B} → Paired A B E xs ys
      → Small (n + length xs) → S n s s' → S (n + length xs) (rising M s xs) (rising N s' ys)
  rising-from n s s' none h p = subst (λ (k : ℕ). S k s s') (sym (add-zero n)) p
  rising-from n s s' (more {x = x} {y = y} {xs = xs} {ys = ys} e l) h p =
      let k : suc n + length xs ≡ n + suc (length xs) = omega arith in
      subst (λ (k : ℕ). S k (rising M (M.insert s x) xs) (rising N (N.insert s' y) ys)) k
      (rising-from (suc n) (M.insert s x) (N.insert s' y) l (subst Small (sym k) h)
      (R.inserts n s s' x y (R.smaller (suc n) _ (omega arith) h) p e))

  falling-all : {xs : List A} {ys : List B} → Paired A B E xs ys
      → Small (length xs) → S (length xs) (falling M xs) (falling N ys)
  falling-all none h = R.empties
  falling-all (more {x = x} {y = y} {xs = xs} {ys = ys} e l) h =
      R.inserts (length xs) _ _ x y h (falling-all l (R.smaller (length xs) _ (omega arith) h)) e

  -- the state of a window of two parts
  pub parts : {xs ys : List A} {xs' ys' : List B} → Paired A B E xs xs' → Paired A B E ys ys'
      → Small (length xs + length ys)
      → S (length xs + length ys) (M.combine (rising M M.empty xs) (falling M ys)) (N.combine (rising N N.empty xs') (falling N ys'))
  parts {xs} {ys} {xs'} {ys'} p q h =
      let z = zero-add (length xs) in
      R.combines (length xs) (length ys) _ _ _ _ h
      (subst (λ (k : ℕ). S k (rising M M.empty xs) (rising N N.empty xs')) z
      (rising-from 0 M.empty N.empty p (subst Small (sym z) (R.smaller (length xs) _ (omega arith) h)) R.empties))
      (falling-all q (R.smaller (length ys) _ (omega arith) h))

  -- a row's figure: F is what the two figures are to have alike
  pub figures : (F : Figure → Figure → Type 0) (final : M.State → Figure) (final' : N.State → Figure)
      (t : Series A) (t' : Series B) (a : Account)
      → Paired A B E (front t a) (front t' a) → Paired A B E (back t a) (back t' a)
      → Small (length (back t a) + length (front t a))
      → ((s : M.State) (s' : N.State) → S (length (back t a) + length (front t a)) s s'
      → F (or_nan (nonfinite_count t.places a.start a.end) (final s))
      (or_nan (nonfinite_count t'.places a.start a.end) (final' s')))
      → F (figure_of M final t a) (figure_of N final' t' a)
  unfolding figure_of
  figures F final final' t t' a p q h f = f _ _ (parts q p h)

-- two histories, made alike
pub data Alike (A B : Type 0) (E : A → B → Type 0) : History A → History B → Type 0 where
  both_empty : Alike A B E empty empty
  both_inserted : {h : History A} {g : History B} {x : A} {y : B} → Alike A B E h g → E x y → Alike A B E (inserted h x) (inserted g y)
  both_combined : {h i : History A} {g j : History B} → Alike A B E h g → Alike A B E i j → Alike A B E (combined h i) (combined g j)

-- one beside itself
pub itself : {A : Type 0} (h : History A) → Alike A A (◌≡◌ {A = A}) h h
itself empty = both_empty
itself (inserted h x) = both_inserted (itself h) refl
itself (combined h g) = both_combined (itself h) (itself g)

-- where every number of entries is meant
pub histories : {A B : Type 0} {M : Moment A} {N : Moment B} {E : A → B → Type 0} {S : M.State → N.State → Type 0}
    → Related M N (λ n. Unit {0}) E (λ n. S) → {h : History A} {g : History B} → Alike A B E h g → S (after M h) (after N g)
unfolding after
histories R both_empty = R.empties
histories R (both_inserted h e) = R.inserts 0 _ _ _ _ tt (histories R h) e
histories R (both_combined h g) = R.combines 0 0 _ _ _ _ tt (histories R h) (histories R g)

-- the account after row k's part in it
abbrev moved_to : {A : Type 0} → Series A → ℕ → Plan → ℕ → Account
moved_to t min_periods p k = account_at t.places.valid t.places.mapped min_periods p (suc k)

-- a row's answer, with the account after its move
module _ {A B : Type 0} (F : Figure → Figure → Type 0) (M : Moment A) (N : Moment B) (final : M.State → Figure) (final' : N.State → Figure)
    (t : Series A) (t' : Series B) (min_periods : ℕ) (p : Plan) (k : ℕ) where
  abbrev Same : Type 0
  Same = F (figure_of M final t (moved_to t min_periods p k)) (figure_of N final' t' (moved_to t' min_periods p k))

  either-alike : (b : Bool) → F Missing Missing → (b ≡ true → Same) →
      F (cond b (figure_of M final t (moved_to t min_periods p k)) Missing) (cond b (figure_of N final' t' (moved_to t' min_periods p k)) Missing)
  either-alike true missing f = f refl
  either-alike false missing f = missing

  pub answers : counted t.places (row_start p k) (row_end p k) ≡ counted t'.places (row_start p k) (row_end p k) → F Missing Missing →
      (leb min_periods (counted t.places (row_start p k) (row_end p k)) ≡ true → Same) →
      F (answer_at M final t min_periods p k) (answer_at N final' t' min_periods p k)
  unfolding answer_at answer_of
  answers e missing f = rw (← e) (either-alike _ missing f)

-- two series over the same places, whose entries are alike at every valid one, and any account
module _ {A B : Type 0} {M : Moment A} {N : Moment B} {Small : ℕ → Type 0} {E : A → B → Type 0} {S : ℕ → M.State → N.State → Type 0}
    (R : Related M N Small E S) (P : Places) (r : ℕ → A) (r' : ℕ → B) (e : (i : ℕ) → P.valid i ≡ true → E (r i) (r' i))
    (small : (n : ℕ) → Small n) where
  abbrev one : Series A
  one = record { places = P; entry = r }

  abbrev other : Series B
  other = record { places = P; entry = r' }

  alike : (a b : ℕ) → Paired A B E (entries P.valid r a b) (entries P.valid r' a b)
  alike a b = entries-paired E P.valid r r' a b (λ i l u v. e i v)

  pub related-states : (a : Account) →
      S (length (back one a) + length (front one a)) (M.combine (rising M M.empty (back one a)) (falling M (front one a)))
      (N.combine (rising N N.empty (back other a)) (falling N (front other a)))
  related-states a = parts R (alike _ _) (alike _ _) (small _)

  -- what the figures of such states have alike, the rows' answers have
  module _ (F : Figure → Figure → Type 0) (missing : F Missing Missing) (nans : (x y : Figure) → F x y → F (as_nan x) (as_nan y))
      (final : M.State → Figure) (final' : N.State → Figure)
      (finals : (n : ℕ) (s : M.State) (s' : N.State) → S n s s' → F (final s) (final' s')) where
    or-nan : (n : ℕ) (x y : Figure) → F x y → F (or_nan n x) (or_nan n y)
    unfolding or_nan
    or-nan n x y f = go (eqb n 0)
      where
        go : (b : Bool) → F (cond b x (as_nan x)) (cond b y (as_nan y))
        go true = f
        go false = nans x y f

    related-figures : (a : Account) → F (figure_of M final one a) (figure_of N final' other a)
    related-figures a =
        figures R F final final' one other a (alike _ _) (alike _ _) (small _) (λ s s' f. or-nan _ _ _ (finals _ s s' f))

    pub related-rows : (min_periods : ℕ) (p : Plan) (k : ℕ) → F (answer_at M final one min_periods p k) (answer_at N final' other min_periods p k)
    related-rows min_periods p k = answers F M N final final' one other min_periods p k refl missing (λ _. related-figures _)
