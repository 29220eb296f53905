-- Demand 2, for windows: the two `rolling_apply_agg_window`, 002 without a map and 003 with one, and 006's `create_validity`, as
-- functions on values. `det_offsets` is `det_offsets_fn` at the call's window size and length, of a plan the row's bounds ("The oracle
-- drives the Rust window with the plan's rows"), and `len` the number of rows. Assumes nothing.
use Prim.Native.Nat.{ℕ, zero, suc}
use Rattle.std.specs.Prelude.{Bool, true, false, ltb, get_or, replicate, Float}
use Rattle.std.proofs.Math.Bool.{cond}
use mathlib.Core.List.{List, [], ◌∷◌}
use Rattle.std.proofs.Math.Option
use Rattle.std.proofs.Math.Option.{Option, none, some}
use Rattle.std.specs.Float.{nan}
use Rattle.float.specs.Operators.{zero64}
use Rattle.trace.specs.Trace.{Trace}
use Rattle.moment.specs.declared.Figure.{Figure}
use Rattle.moment.specs.declared.Figure.TheVariants.{Missing, Present}
use Rattle.plan.specs.Plan.{Plan, rows, row_start, row_end}
use Rattle.window.specs.Window.{Moment}
use Rattle.promises.specs.Rust.{Rust, Bitmap, bitmap_of}
use Rattle.promises.specs.SourceWindow.{MomentWindow, update_no_nulls, new_no_nulls, update_nulls, new_nulls, get_moment, is_valid}

-- ---- 002
module _ (M : Moment Float) (rust : Rust) (finalize : M.State → Figure) (values : List Float) (min_periods : ℕ)
    (det_offsets : ℕ → ℕ × ℕ) where
  -- `out`: the k rows from idx on, with the window as the row before left it
  unfoldable pub out_no_nulls : ℕ → ℕ → MomentWindow M → List Figure
  unfolding update_no_nulls get_moment
  out_no_nulls zero idx agg_window = []
  out_no_nulls (suc k) idx agg_window =
      let (start, end) = det_offsets idx in
      let updated = update_no_nulls rust values agg_window start end in
      cond (ltb (rust.minus end start) min_periods) (Missing ∷ out_no_nulls k (suc idx) agg_window)
      (get_moment finalize updated ∷ out_no_nulls k (suc idx) updated)

  -- `rolling_apply_agg_window`: its array as the options that it is made of
  unfoldable pub rolling_no_nulls : ℕ → List Figure
  unfolding out_no_nulls update_no_nulls
  rolling_no_nulls len =
      let (start, end) = det_offsets 0 in
      out_no_nulls len 0 (new_no_nulls rust values start end)

-- ---- 006
module _ (rust : Rust) (min_periods : ℕ) (det_offsets : ℕ → ℕ × ℕ) where
  abbrev pub too_short : ℕ → Bool
  too_short i = let (start, end) = det_offsets i in ltb (rust.minus end start) min_periods

  -- "Head.": the k rows from i on, up to the first that is not too short
  unfoldable pub head_set : ℕ → ℕ → List Bool → List Bool
  head_set zero i validity = validity
  head_set (suc k) i validity = cond (too_short i) (head_set k (suc i) (rust.unset validity i)) validity

  -- "Tail.": the first rows, from the last of them down
  unfoldable pub tail_set : ℕ → List Bool → List Bool
  tail_set zero validity = validity
  tail_set (suc i) validity = cond (too_short i) (tail_set i (rust.unset validity i)) validity

  -- `create_validity`
  unfoldable pub create_validity : ℕ → Option (List Bool)
  unfolding head_set tail_set
  create_validity len = cond (ltb 1 min_periods) (some (tail_set len (head_set len 0 (replicate len true)))) none

-- ---- 003
-- `PrimitiveArray`: the values, and which of them are there
pub record Array : Type 0 where
  pub values : List Float
  pub validity : List Bool

-- row k of an array
abbrev pub row_of : Array → ℕ → Figure
row_of array k = cond (get_or array.validity k false) (Present (get_or array.values k nan)) Missing

-- the `match` on `get_agg(idx)`, whose guard is `is_valid`: the row's value, and the validity after it
abbrev pub matched : Rust → ℕ → Figure → Bool → List Bool → Float × List Bool
matched rust idx (Present val) true validity = (val, validity)
matched rust idx (Present val) false validity = (zero64, rust.unset validity idx)
matched rust idx Missing valid validity = (zero64, rust.unset validity idx)

module _ (M : Moment Float) (rust : Rust) (finalize : M.State → Figure) (values : List Float) (map : Bitmap) (min_periods : ℕ)
    (det_offsets : ℕ → ℕ × ℕ) where
  -- `out`: the k rows from idx on, with the window and the validity as the row before left them
  unfoldable pub out_nulls : ℕ → ℕ → MomentWindow M → List Bool → Array
  unfolding update_nulls get_moment
  out_nulls zero idx agg_window validity = record { values = []; validity = validity }
  out_nulls (suc k) idx agg_window validity =
      let (start, end) = det_offsets idx in
      let updated = update_nulls rust map values agg_window start end in
      let (value, after) = matched rust idx (get_moment finalize updated) (is_valid rust updated min_periods) validity in
      let rest = out_nulls k (suc idx) updated after in
      record { values = value ∷ rest.values; validity = rest.validity }

  -- `rolling_apply_agg_window`
  unfoldable pub rolling_nulls : ℕ → Array
  unfolding out_nulls update_nulls create_validity
  rolling_nulls len =
      let (start, end) = det_offsets 0 in
      out_nulls len 0 (new_nulls rust map values start end)
      (Option.get_or (create_validity rust min_periods det_offsets len) (replicate len true))

-- ---- driven with a plan
-- a plan's rows as `det_offsets_fn`
abbrev pub offsets : Plan → ℕ → ℕ × ℕ
offsets p k = (row_start p k, row_end p k)

-- row k of the Rust's `rolling_apply_agg_window`, driven with the plan's rows: 003 with a map, 002 without one
abbrev pub plan_row : (M : Moment Float) → Rust → (M.State → Figure) → Trace → ℕ → Plan → ℕ → Figure
plan_row M rust finalize t min_periods p k =
    cond t.mapped
    (row_of (rolling_nulls M rust finalize t.readings (bitmap_of t) min_periods (offsets p) (rows p)) k)
    (get_or (rolling_no_nulls M rust finalize t.readings min_periods (offsets p) (rows p)) k Missing)
