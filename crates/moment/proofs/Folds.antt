-- A loop over the places of a list that folds the valid ones from the left: what is folded so far, carried on over what is left, is the
-- whole fold. Assumes nothing.
use Rattle.std.proofs.Common.{◌≡◌, ℕ, zero, suc, ◌+◌, ◌<◌, ◌≤◌, Bool, true, false, List, [], ◌∷◌, ◌++◌, length, get_or, drop, sym, refl, ap}
use Rattle.std.proofs.Common.{◌∙◌, append_assoc, append-nil, add-zero, add-one, arith, drop_of_length-le, drop-cons}
use mathlib.Core.List.{foldl}
use Rattle.trace.specs.Trace.{valid_from}

-- the valid ones of a list from its place i on
abbrev pub rest : {A : Type 0} → (ℕ → Bool) → List A → ℕ → List A
rest valid xs i = valid_from valid i (drop i xs)

module _ {A : Type 0} (valid : ℕ → Bool) where
  pub from-valid : (xs : List A) (d : A) (i : ℕ) → i < length xs → valid i ≡ true → rest valid xs i ≡ get_or xs i d ∷ rest valid xs (i + 1)
  unfolding valid_from
  from-valid xs d i h v = rw (add-one i, drop-cons xs i d h, v)

  past_missing : (k : ℕ) (xs : List A) (i : ℕ) → i < length xs → valid k ≡ false
      → valid_from valid k (drop i xs) ≡ valid_from valid (suc k) (drop (suc i) xs)
  unfolding valid_from
  past_missing k [] i h v = absurd (omega arith)
  past_missing k (x ∷ xs) zero h v = rw v
  past_missing k (x ∷ xs) (suc i) h v = past_missing k xs i (omega arith) v

  pub from-missing : (xs : List A) (i : ℕ) → i < length xs → valid i ≡ false → rest valid xs i ≡ rest valid xs (i + 1)
  from-missing xs i h v = rw add-one (past_missing i xs i h v)

pub from_end : {A : Type 0} (valid : ℕ → Bool) (xs : List A) (i : ℕ) → length xs ≤ i → rest valid xs i ≡ []
unfolding valid_from
from_end valid xs i h = rw (drop_of_length-le xs h)

-- where nothing is missing
pub all_valid : {A : Type 0} (i : ℕ) (xs : List A) → valid_from (λ j. true) i xs ≡ xs
unfolding valid_from
all_valid i [] = refl
all_valid i (x ∷ xs) = ap (λ l. x ∷ l) (all_valid (suc i) xs)

-- what is folded so far, with what is left folded, is the whole fold
pub record Folded {A B : Type 0} (f : B → A → B) (b : B) (valid : ℕ → Bool) (xs : List A) (t : B) (i : ℕ) : Type 0 where
  pub with_rest : foldl f t (rest valid xs i) ≡ foldl f b (rest valid xs 0)

module _ {A B : Type 0} {f : B → A → B} {b : B} {valid : ℕ → Bool} {xs : List A} where
  pub folded_start : {t : B} → t ≡ b → Folded f b valid xs t 0
  folded_start e = record { with_rest = rw e }

  -- a valid place, whose entry x is folded
  pub folded_valid : {t u : B} {i : ℕ} {x : A} {v : Bool} → Folded f b valid xs t i → i < length xs → x ≡ get_or xs i x → u ≡ f t x
      → v ≡ valid i → v ≡ true → Folded f b valid xs u (i + 1)
  folded_valid {i = i} {x} k h r e v w =
      record { with_rest = rw (e, r) (rw (from-valid valid xs x i h (sym v ∙ w)) at k.with_rest) }

  pub folded_missing : {t : B} {i : ℕ} {v : Bool} → Folded f b valid xs t i → i < length xs → v ≡ valid i → v ≡ false
      → Folded f b valid xs t (i + 1)
  folded_missing {i = i} k h v w = record { with_rest = rw (from-missing valid xs i h (sym v ∙ w)) at k.with_rest }

  -- no place is left
  pub folded_end : {t : B} {i : ℕ} → Folded f b valid xs t i → length xs ≤ i → t ≡ foldl f b (valid_from valid 0 xs)
  folded_end {i = i} k h = rw (from_end valid xs i h) at k.with_rest

-- ---- a count as a fold
abbrev pub one_more : {A : Type 0} → ℕ → A → ℕ
one_more n x = n + 1

counted_from : {A : Type 0} (k : ℕ) (xs : List A) → foldl one_more k xs ≡ k + length xs
counted_from k [] = sym (add-zero k)
counted_from k (x ∷ xs) = omega (arith, counted_from (k + 1) xs)

pub counted : {A : Type 0} (n : ℕ) (xs : List A) → n ≡ foldl one_more 0 xs → n ≡ length xs
counted n xs e = omega (arith, counted_from 0 xs)

-- ---- what is made of a list is what is made of the first of it, with one entry more at a time
module _ {E S : Type 0} (make : List E → S) (more : S → E → S) (law : (xs : List E) (x : E) → make (xs ++ x ∷ []) ≡ more (make xs) x) where
  made_on : (ys xs : List E) → foldl more (make ys) xs ≡ make (ys ++ xs)
  made_on ys [] = ap make (sym (append-nil ys))
  made_on ys (x ∷ xs) = rw (← law ys x) (made_on (ys ++ x ∷ []) xs ∙ ap make (append_assoc ys (x ∷ []) xs))

  pub one_by_one : (xs : List E) → foldl more (make []) xs ≡ make xs
  one_by_one xs = made_on [] xs

-- what a loop over the places of a list cites
pub ruleset folding = (folded_start, folded_valid, folded_missing, folded_end, counted)
