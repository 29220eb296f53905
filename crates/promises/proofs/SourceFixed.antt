-- The source's fixed windows are the plan of the bounds: at every row the Rust's arithmetic stays in range, so that its offsets are
-- the row's bounds; and the drivers ask for the offsets of the call's rows alone. Assumes nothing.
use Prim.Native.Nat.{ℕ, zero, suc, ◌+◌, ◌-◌, ◌/◌, ◌%◌, ◌^◌, ◌≤◌, ◌<◌, min}
use mathlib.Core.Path.{◌≡◌, refl, sym, ◌∙◌}
use mathlib.Core.Bool.{Bool, true, false, cond}
use mathlib.Core.List.{List}
use native.Mathlib.Omega.{arith}
use lib.Dec.{ltb, eqb}
use lib.ListN.{length}
use lib.Ieee.{Float}
use borrow.Author.Tests.{ltb-true, ltb-false, eqb-false}
use Rattle.float.proofs.Tables.{table-place}
use Rattle.trace.specs.Trace.{Trace}
use Rattle.moment.specs.declared.Figure.{Figure}
use Rattle.plan.specs.Bounds.{bounds_at, bounds}
use Rattle.plan.proofs.FixedWindows.{bounds-rows}
use Rattle.window.specs.Window.{Moment}
use Rattle.promises.specs.Rust.{Rust, Bitmap, bitmap_of}
use Rattle.promises.specs.SourceWindow.{MomentWindow, update_no_nulls, update_nulls, is_valid, get_moment}
use Rattle.promises.specs.SourceRows.{out_no_nulls, rolling_no_nulls, head_set, tail_set, create_validity, matched, out_nulls, rolling_nulls, offsets, plan_row}
use Rattle.promises.specs.SourceFixed.{div_ceil, offset_fn, fixed_row}

-- ---- the offsets
half_up : (size : ℕ) → div_ceil size 2 ≡ (size + 1) / 2
half_up size = go (ltb 0 (size % 2)) refl
  where
    go : (b : Bool) → ltb 0 (size % 2) ≡ b → cond b (size / 2 + 1) (size / 2) ≡ (size + 1) / 2
    go true e = let h = ltb-true 0 (size % 2) e in omega arith
    go false e = let h = ltb-false 0 (size % 2) e in omega arith

module _ (rust : Rust) (center : Bool) (size n : ℕ) (fits : size < 2 ^ 64) (few : n ≤ 16777216) where
  pub offsets_are : (i : ℕ) → i < n → offset_fn rust center size n i ≡ bounds_at center size n i
  unfolding offset_fn
  offsets_are i h = go center (eqb size 0) refl
    where
      go : (c b : Bool) → eqb size 0 ≡ b
          → ◌≡◌ {A = ℕ × ℕ}
          (cond c (cond b (i, i) (i - rust.minus size (div_ceil size 2), min n (rust.plus i (div_ceil size 2)))) (cond b (i, i) (i - rust.minus size 1, rust.plus i 1)))
          (cond c (cond b (i, i) (i - (size - (size + 1) / 2), min n (i + (size + 1) / 2))) (cond b (i, i) (i - (size - 1), i + 1)))
      go true true e = refl
      go true false e = rw (half_up size, rust.minus_is size ((size + 1) / 2) (omega arith), rust.plus_is i ((size + 1) / 2) (omega arith))
      go false true e = refl
      go false false e = let z = eqb-false size 0 e in rw (rust.minus_is size 1 (omega arith), rust.plus_is i 1 (omega arith))

  -- the plan's rows are the same
  plan-offsets : (i : ℕ) → i < n → offset_fn rust center size n i ≡ offsets (bounds center size n) i
  unfolding bounds
  plan-offsets i h =
      offsets_are i h
      ∙ rw (table-place (λ j. (bounds_at center size n j).0) n i 0 h, table-place (λ j. (bounds_at center size n j).1) n i 0 h)

-- ---- two offset functions that are the same at n rows
module _ (rust : Rust) (min_periods : ℕ) (f g : ℕ → ℕ × ℕ) (n : ℕ) (same : (i : ℕ) → i < n → f i ≡ g i) where
  head-same : (k i : ℕ) (l : List Bool) → i + k ≤ n → head_set rust min_periods f k i l ≡ head_set rust min_periods g k i l
  unfolding head_set
  head-same zero i l h = refl
  head-same (suc k) i l h = rw (same i (omega arith), head-same k (suc i) (rust.unset l i) (omega arith))

  tail-same : (k : ℕ) (l : List Bool) → k ≤ n → tail_set rust min_periods f k l ≡ tail_set rust min_periods g k l
  unfolding tail_set
  tail-same zero l h = refl
  tail-same (suc k) l h = rw (same k (omega arith), tail-same k (rust.unset l k) (omega arith))

  validity-same : create_validity rust min_periods f n ≡ create_validity rust min_periods g n
  unfolding create_validity
  validity-same = rw (head-same n 0 _ (omega arith), tail-same n _ (omega arith))

  module _ (M : Moment Float) (final : M.State → Figure) (xs : List Float) (some : 0 < n) where
    out-no-same : (k i : ℕ) (w : MomentWindow M) → i + k ≤ n → out_no_nulls M rust final xs min_periods f k i w ≡ out_no_nulls M rust final xs min_periods g k i w
    unfolding out_no_nulls
    out-no-same zero i w h = refl
    out-no-same (suc k) i w h =
        rw (
          same i (omega arith),
          out-no-same k (suc i) w (omega arith),
          out-no-same k (suc i) (update_no_nulls rust xs w (g i).0 (g i).1) (omega arith),
        )

    rows-no-nulls : rolling_no_nulls M rust final xs min_periods f n ≡ rolling_no_nulls M rust final xs min_periods g n
    unfolding rolling_no_nulls
    rows-no-nulls = rw (same 0 some, out-no-same n 0 _ (omega arith))

    module _ (map : Bitmap) where
      out-yes-same : (k i : ℕ) (w : MomentWindow M) (l : List Bool) → i + k ≤ n
          → out_nulls M rust final xs map min_periods f k i w l ≡ out_nulls M rust final xs map min_periods g k i w l
      unfolding out_nulls
      out-yes-same zero i w l h = refl
      out-yes-same (suc k) i w l h =
          let u = update_nulls rust map xs w (g i).0 (g i).1 in
          rw (same i (omega arith), out-yes-same k (suc i) u (matched rust i (get_moment final u) (is_valid rust u min_periods) l).1 (omega arith))

      rows-nulls : rolling_nulls M rust final xs map min_periods f n ≡ rolling_nulls M rust final xs map min_periods g n
      unfolding rolling_nulls
      rows-nulls = rw (same 0 some, validity-same, out-yes-same n 0 _ _ (omega arith))

-- ---- a row
pub fixed_row_lem : (M : Moment Float) (rust : Rust) (final : M.State → Figure) (t : Trace) (min_periods : ℕ) (center : Bool) (size k : ℕ) → size < 2 ^ 64 → length t.readings ≤ 16777216
    → k < length t.readings → plan_row M rust final t min_periods (bounds center size (length t.readings)) k ≡ fixed_row M rust final t min_periods center size k
fixed_row_lem M rust final t min_periods center size k fits few h =
    let n = length t.readings in
    let f = offsets (bounds center size n) in
    let g = offset_fn rust center size n in
    let same : (i : ℕ) → i < n → f i ≡ g i = λ i o. sym (plan-offsets rust center size n fits few i o) in
    rw (
      bounds-rows center size n,
      rows-no-nulls rust min_periods f g n same M final t.readings (omega arith),
      rows-nulls rust min_periods f g n same M final t.readings (omega arith) (bitmap_of t),
    )
