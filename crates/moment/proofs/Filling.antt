-- A chunk is filled place by place: what it holds, with the valid entries that are left, is all of them. Assumes nothing.
use Rattle.std.proofs.Common.{◌≡◌, ℕ, ◌+◌, ◌<◌, ◌≤◌, Bool, true, false, List, ◌∷◌, ◌++◌, length, get_or, take, set, sym, ◌∙◌}
use Rattle.std.proofs.Common.{append_assoc, append-nil, add-zero, add-one, arith, length-set, drop_of_length-le, length-take}
use Rattle.std.proofs.Common.{take_all, take-suc-set, take_at, drop_at}
use lib.Seq.{take-set-le}
use Rattle.std.specs.Int.{from_bool}
use Rattle.moment.specs.Code.Filling.{Filled}
use Rattle.moment.proofs.Folds.{rest, from-valid, from-missing, from_end}

-- an entry put at the end of the part of a chunk that is filled
pushed : {A : Type 0} (chunk : List A) (n : ℕ) (x : A) (ys all : List A) → n < length chunk → take n chunk ++ x ∷ ys ≡ all
    → take (n + 1) (set chunk n x) ++ ys ≡ all
pushed chunk n x ys all h e = rw (add-one, take-suc-set chunk n x h, append_assoc) e

-- a chunk being filled from place i on: place j is next, the chunk holds n entries, and these with the rest are all
pub record Filling {A : Type 0} (valid : ℕ → Bool) (entries : List A) (i : ℕ) (chunk : List A) (j n : ℕ) : Type 0 where
  pub within : n ≤ 128
  pub passed : i + n ≤ j
  pub room : length chunk ≡ 128
  pub with_rest : take n chunk ++ rest valid entries j ≡ rest valid entries i

module _ {A : Type 0} {valid : ℕ → Bool} {entries : List A} {i : ℕ} {chunk : List A} where
  -- a place of either kind: its entry is put past those held, and is held if it is valid
  pub filling_step : {j n : ℕ} {x : A} (t : Bool) → Filling valid entries i chunk j n → j < length entries → (n ≡ 128 → ⊥)
      → x ≡ get_or entries j x → t ≡ valid j → Filling valid entries i (set chunk n x) (j + 1) (n + from_bool t)
  filling_step {j} {n} {x} true inv h f r e =
      let k = rw (from-valid valid entries x j h (sym e), ← r) at inv.with_rest in
      record {
        within = omega arith;
        passed = omega arith;
        room = simp length-set inv.room;
        with_rest = pushed chunk n x _ _ (omega arith) k;
      }
  filling_step {j} {n} {x} false inv h f r e =
      let k = rw (from-missing valid entries j h (sym e)) at inv.with_rest in
      rw add-zero record {
        within = inv.within;
        passed = omega arith;
        room = simp length-set inv.room;
        with_rest = rw (take-set-le n chunk n x (omega arith)) k;
      }

  -- the chunk is full
  pub filled_full : {j n : ℕ} → Filling valid entries i chunk j n → n ≡ 128 → Filled valid entries i j n chunk
  filled_full {j} {n} inv f =
      let len : length (take n chunk) ≡ 128 = simp length-take (omega arith) in
      record {
        room = inv.room;
        within = inv.within;
        taken = rw (← inv.with_rest) (sym (take_at (take n chunk) _ 128 len));
        remains = rw (← inv.with_rest) (sym (drop_at (take n chunk) _ 128 len));
        further = λ g. omega arith;
      }

  -- no place is left, and filling stops at the last
  pub filled_end : {j k n : ℕ} → Filling valid entries i chunk j n → length entries ≤ j → k ≡ length entries
      → Filled valid entries i k n chunk
  filled_end {j} {k} {n} inv g e =
      let len : length (take n chunk) ≤ 128 = simp length-take (omega arith) in
      let all : take n chunk ≡ rest valid entries i =
      sym (append-nil (take n chunk)) ∙ (rw (from_end valid entries j g) at inv.with_rest) in
      record {
        room = inv.room;
        within = inv.within;
        taken = rw (← all) (sym (take_all 128 (take n chunk) len));
        remains = rw (from_end valid entries k (omega arith), ← all) (sym (drop_of_length-le (take n chunk) len));
        further = λ f. omega arith;
      }
