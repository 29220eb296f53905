-- A list by its values from a place on: its length, its parts, that from place 0 it is a table, and that a table has every place. Assumes nothing.
use Prim.Native.Nat.{ℕ, zero, suc, ◌+◌, ◌-◌, ◌≤◌, ◌<◌}
use mathlib.Core.Path.{◌≡◌, refl, sym, ap, ◌∙◌}
use mathlib.Core.List.{List, [], ◌∷◌, ◌++◌}
use native.Mathlib.Nat.{add-zero, zero-add, sub-zero}
use native.Mathlib.Omega.{arith}
use lib.ListN.{length, take, drop, get_or}
use Rattle.float.specs.Tables.{table}
use Rattle.float.proofs.Tables.{table-place}

-- the k values of f from i on
unfoldable pub span : {A : Type 0} → (ℕ → A) → ℕ → ℕ → List A
span f zero i = []
span f (suc k) i = f i ∷ span f k (suc i)

span_snoc : {A : Type 0} (f : ℕ → A) (k i : ℕ) → span f (suc k) i ≡ span f k i ++ (f (i + k) ∷ [])
unfolding span
span_snoc f zero i = rw add-zero
span_snoc f (suc k) i = let z : i + suc k ≡ suc i + k = omega arith in ap (λ (l : List _). f i ∷ l) (span_snoc f k (suc i)) ∙ rw z

pub span_table : {A : Type 0} (f : ℕ → A) (k : ℕ) → span f k 0 ≡ table f k
unfolding span table
span_table f zero = refl
span_table f (suc k) = span_snoc f k 0 ∙ rw (zero-add, span_table f k)

pub span_length : {A : Type 0} (f : ℕ → A) (k i : ℕ) → length (span f k i) ≡ k
unfolding span
span_length f zero i = refl
span_length f (suc k) i = ap suc (span_length f k (suc i))

span_take : {A : Type 0} (f : ℕ → A) (a k i : ℕ) → a ≤ k → take a (span f k i) ≡ span f a i
unfolding span
span_take f zero k i h = refl
span_take f (suc a) zero i h = absurd (omega arith)
span_take f (suc a) (suc k) i h = ap (λ (l : List _). f i ∷ l) (span_take f a k (suc i) (omega arith))

span_drop : {A : Type 0} (f : ℕ → A) (a k i : ℕ) → a ≤ k → drop a (span f k i) ≡ span f (k - a) (i + a)
unfolding span
span_drop f zero k i h = rw (sub-zero, add-zero)
span_drop f (suc a) zero i h = absurd (omega arith)
span_drop f (suc a) (suc k) i h =
    let m : suc k - suc a ≡ k - a = omega arith in
    let n : i + suc a ≡ suc i + a = omega arith in
    rw (m, n) (span_drop f a k (suc i) (omega arith))

-- a part of the values from place 0 on
pub span_part : {A : Type 0} (f : ℕ → A) (n a k : ℕ) → a + k ≤ n → take k (drop a (span f n 0)) ≡ span f k a
span_part f n a k h = rw (span_drop f a n 0 (omega arith), zero-add) (span_take f k (n - a) a (omega arith))

-- what two tables have alike their functions have at each place
pub each_place : {A : Type 0} (f g : ℕ → A) (n : ℕ) → table f n ≡ table g n → (i : ℕ) → i < n → f i ≡ g i
each_place f g n e i h =
    sym (table-place f n i (f i) h) ∙ ap (λ (l : List _). get_or l i (f i)) e ∙ table-place g n i (f i) h
