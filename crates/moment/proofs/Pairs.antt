-- Two lists as one list of pairs: its places are those of both. Assumes nothing.
use Rattle.std.proofs.Common.{◌≡◌, ℕ, zero, suc, ◌<◌, min, Bool, true, false, cond, List, [], ◌∷◌, length, get_or, take, drop, set, sym, refl, ap, arith}
use mathlib.Core.List.{zip, zip_with}
use lib.Ieee.{Float}
use Rattle.trace.specs.Trace.{valid_from}

pub zip_min : {A B : Type 0} (xs : List A) (ys : List B) → length (zip xs ys) ≡ min (length xs) (length ys)
unfolding zip zip_with
zip_min [] ys = omega arith
zip_min (x ∷ xs) [] = omega arith
zip_min (x ∷ xs) (y ∷ ys) = omega (arith, zip_min xs ys)

pub in_x : {A B : Type 0} (xs : List A) (ys : List B) (i : ℕ) → i < length (zip xs ys) → i < length xs
in_x xs ys i h = omega (arith, zip_min xs ys)

pub in_y : {A B : Type 0} (xs : List A) (ys : List B) (i : ℕ) → i < length (zip xs ys) → i < length ys
in_y xs ys i h = omega (arith, zip_min xs ys)

pub zip_at : {A B : Type 0} (xs : List A) (ys : List B) (i : ℕ) (x : A) (y : B) (d : A × B) → i < length (zip xs ys)
    → get_or (zip xs ys) i d ≡ (get_or xs i x, get_or ys i y)
unfolding zip zip_with
zip_at [] ys i x y d h = absurd (omega arith)
zip_at (a ∷ xs) [] i x y d h = absurd (omega arith)
zip_at (a ∷ xs) (b ∷ ys) zero x y d h = refl
zip_at (a ∷ xs) (b ∷ ys) (suc i) x y d h = zip_at xs ys i x y d (omega arith)

pub length-zip : (xs ys : List Float) → length xs ≡ length ys → length (zip xs ys) ≡ length xs
length-zip xs ys h = omega (arith, zip_min xs ys)

-- ---- parts of pairs, which no code needs any more
pub take_zip : {A B : Type 0} (n : ℕ) (xs : List A) (ys : List B) → take n (zip xs ys) ≡ zip (take n xs) (take n ys)
unfolding zip zip_with
take_zip zero xs ys = refl
take_zip (suc n) [] ys = refl
take_zip (suc n) (x ∷ xs) [] = refl
take_zip (suc n) (x ∷ xs) (y ∷ ys) = rw (take_zip n xs ys)

zip-nil : {A B : Type 0} (xs : List A) → zip {B = B} xs [] ≡ []
unfolding zip zip_with
zip-nil [] = refl
zip-nil (x ∷ xs) = refl

pub drop_zip : {A B : Type 0} (n : ℕ) (xs : List A) (ys : List B) → drop n (zip xs ys) ≡ zip (drop n xs) (drop n ys)
unfolding zip zip_with
drop_zip zero xs ys = refl
drop_zip (suc n) [] ys = refl
drop_zip (suc n) (x ∷ xs) [] = sym (zip-nil (drop n xs))
drop_zip (suc n) (x ∷ xs) (y ∷ ys) = drop_zip n xs ys

pub zip-set : {A B : Type 0} (n : ℕ) (xs : List A) (ys : List B) (x : A) (y : B) → zip (set xs n x) (set ys n y) ≡ set (zip xs ys) n (x, y)
unfolding zip zip_with
zip-set n [] ys x y = refl
zip-set zero (a ∷ xs) [] x y = refl
zip-set (suc n) (a ∷ xs) [] x y = refl
zip-set zero (a ∷ xs) (b ∷ ys) x y = refl
zip-set (suc n) (a ∷ xs) (b ∷ ys) x y = rw (zip-set n xs ys x y)

-- the valid ones of two lists, paired, are the valid pairs
pub zip_valid : {A B : Type 0} (valid : ℕ → Bool) (i : ℕ) (xs : List A) (ys : List B) → zip (valid_from valid i xs) (valid_from valid i ys) ≡ valid_from valid i (zip xs ys)
unfolding valid_from zip zip_with
zip_valid valid i [] ys = refl
zip_valid valid i (x ∷ xs) [] = zip-nil (valid_from valid i (x ∷ xs))
zip_valid valid i (x ∷ xs) (y ∷ ys) = by (valid i) (zip_valid valid (suc i) xs ys)
  where
    by : (t : Bool) → zip (valid_from valid (suc i) xs) (valid_from valid (suc i) ys) ≡ valid_from valid (suc i) (zip xs ys) → zip (cond t (x ∷ valid_from valid (suc i) xs) (valid_from valid (suc i) xs)) (cond t (y ∷ valid_from valid (suc i) ys) (valid_from valid (suc i) ys)) ≡ cond t ((x, y) ∷ valid_from valid (suc i) (zip xs ys)) (valid_from valid (suc i) (zip xs ys))
    by true e = ap (λ l. (x, y) ∷ l) e
    by false e = e
