-- What is read of a map: the bits at the places of the trace, and no other. Assumes nothing.
use Prim.Native.Nat.{ℕ, suc, ◌+◌, ◌/◌, ◌%◌, ◌^◌, ◌≤◌, ◌<◌}
use mathlib.Core.Path.{◌≡◌, refl, sym, ap}
use mathlib.Core.Bool.{Bool, true, false}
use mathlib.Core.List.{List, [], ◌∷◌, ◌++◌}
use native.Mathlib.Omega.{arith}
use lib.Dec.{eqb}
use lib.ListN.{length, get_or-append}
use Rattle.trace.specs.Trace.{bytes_for, valid_at, valid_from}

-- entries from place p on, of which the same are valid
pub valid_same : {A : Type 0} (v w : ℕ → Bool) (p : ℕ) (xs : List A) → ((i : ℕ) → p ≤ i → i < p + length xs → v i ≡ w i)
    → valid_from v p xs ≡ valid_from w p xs
unfolding valid_from
valid_same v w p [] h = refl
valid_same v w p (x ∷ xs) h =
    rw (h p (omega arith) (omega arith), valid_same v w (suc p) xs (λ i k l. h i (omega arith) (omega arith)))

every_valid : {A : Type 0} (p : ℕ) (xs : List A) → valid_from (λ i. true) p xs ≡ xs
unfolding valid_from
every_valid p [] = refl
every_valid p (x ∷ xs) = rw (every_valid (suc p) xs)

-- where none is missing the valid ones are all
pub none_missing_lem : {A : Type 0} (valid : ℕ → Bool) (p : ℕ) (xs : List A) → ((i : ℕ) → p ≤ i → i < p + length xs → valid i ≡ true)
    → valid_from valid p xs ≡ xs
none_missing_lem valid p xs h = rw (valid_same valid (λ i. true) p xs h) (every_valid p xs)

-- the bytes behind are not read for a place that the map reaches
pub behind_unread : (has : Bool) (map behind : List ℕ) (n i : ℕ) → (has ≡ true → bytes_for n ≤ length map) → i < n
    → valid_at has map i ≡ valid_at has (map ++ behind) i
unfolding valid_at
behind_unread true map behind n i h l =
    let k = h refl in
    ap (λ (byte : ℕ). eqb (byte / 2 ^ (i % 8) % 2) 1) (sym (get_or-append map behind 0 _ (omega arith)))
behind_unread false map behind n i h l = refl
