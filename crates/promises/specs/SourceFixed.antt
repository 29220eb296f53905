-- Demand 2, for fixed windows: 006's `det_offsets` and `det_offsets_center` with the Rust's own arithmetic, and `rolling_var`,
-- `rolling_skew` and `rolling_kurtosis`, 004 without a map and 005 with one. Assumes nothing.
use Rattle.std.specs.Prelude.{ℕ, ◌+◌, ◌-◌, ◌/◌, ◌%◌, min, Bool, cond, List, eqb, ltb, length, get_or, Float}
use Rattle.trace.specs.Trace.{Trace}
use Rattle.moment.specs.declared.Figure.{Figure}
use Rattle.moment.specs.declared.Figure.TheVariants.{Missing}
use Rattle.window.specs.Window.{Moment}
use Rattle.promises.specs.Rust.{Rust, Bitmap, bitmap_of}
use Rattle.promises.specs.SourceRows.{rolling_no_nulls, Array, row_of, rolling_nulls}

-- ---- of the Rust's library
-- `a.saturating_sub(b)`
abbrev pub saturating_sub : ℕ → ℕ → ℕ
saturating_sub a b = a - b

-- `a.div_ceil(b)`
abbrev pub div_ceil : ℕ → ℕ → ℕ
div_ceil a b = cond (ltb 0 (a % b)) (a / b + 1) (a / b)

-- ---- 006
-- `det_offsets`
abbrev pub det_offsets : Rust → ℕ → ℕ → ℕ → ℕ × ℕ
det_offsets rust i window_size len =
    cond (eqb window_size 0) (i, i) (saturating_sub i (rust.minus window_size 1), rust.plus i 1)

-- `det_offsets_center`
abbrev pub det_offsets_center : Rust → ℕ → ℕ → ℕ → ℕ × ℕ
det_offsets_center rust i window_size len =
    let right_window = div_ceil window_size 2 in
    cond (eqb window_size 0) (i, i)
    (saturating_sub i (rust.minus window_size right_window), min len (rust.plus i right_window))

-- ---- 004 and 005
-- `offset_fn`, by `center`, at the call's window size and length
unfoldable pub offset_fn : Rust → Bool → ℕ → ℕ → ℕ → ℕ × ℕ
offset_fn rust center window_size len i =
    cond center (det_offsets_center rust i window_size len) (det_offsets rust i window_size len)

-- 004: `rolling_var` without weights, `rolling_skew` and `rolling_kurtosis` differ in nothing but the moment M, whose `finalize` has
-- its part of `params`. "Without weights the Rust panics on an empty trace with a trailing window of 1 or more; here that has no
-- rows."
abbrev pub fixed_no_nulls : (M : Moment Float) → Rust → (M.State → Figure) → List Float → ℕ → ℕ → Bool → List Figure
fixed_no_nulls M rust finalize values window_size min_periods center =
    rolling_no_nulls M rust finalize values min_periods (offset_fn rust center window_size (length values)) (length values)

-- 005, the same three with the array's map
abbrev pub fixed_nulls : (M : Moment Float) → Rust → (M.State → Figure) → List Float → Bitmap → ℕ → ℕ → Bool → Array
fixed_nulls M rust finalize values map window_size min_periods center =
    rolling_nulls M rust finalize values map min_periods (offset_fn rust center window_size (length values)) (length values)

-- row k of the Rust's `rolling_var`, `rolling_skew` or `rolling_kurtosis`: "005 with a map, 004 without"
abbrev pub fixed_row : (M : Moment Float) → Rust → (M.State → Figure) → Trace → ℕ → Bool → ℕ → ℕ → Figure
fixed_row M rust finalize t min_periods center window_size k =
    cond t.mapped
    (row_of (fixed_nulls M rust finalize t.readings (bitmap_of t) window_size min_periods center) k)
    (get_or (fixed_no_nulls M rust finalize t.readings window_size min_periods center) k Missing)
