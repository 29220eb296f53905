-- Document 01, "Weights (002, 004)": a weighted variance over fixed windows, what refuses a call for it and what the call leaves. Its
-- contract is `CallsWeights`. Assumes nothing.
use Rattle.std.specs.Prelude.{ℕ, ◌+◌, ◌-◌, ◌/◌, min, ◌≡◌, Bool, cond, not, eqb, ltb, length, get_or, Float}
use mathlib.Core.List.{List, foldl}
use Rattle.std.specs.Float.{nan}
use Rattle.std.specs.Float.Ieee.{eq}
use Rattle.float.specs.Operators.{◌⊕◌, ◌⊖◌, ◌⊗◌, ◌⊘◌, zero64}
use Rattle.float.specs.Tables.{table}
use Rattle.trace.specs.Slices.{Slice, MutSlice, entering, entering_mut, leaving}
use Rattle.trace.specs.Trace.{Trace}
use Rattle.trace.specs.Refusals.{refusal, ◌or_else◌, trace_refusal}
use Rattle.moment.specs.Sums.{sum_of, itself}
use Rattle.moment.specs.declared.Figure.{Figure}
use Rattle.moment.specs.declared.Figure.TheVariants.{Missing, Present}
use Rattle.plan.specs.Bounds.{bounds_at}
use Rattle.window.specs.Readings.{reading_of}
use Rattle.window.specs.Outputs.{Column, column, column_after}

-- "their sum, added left to right from +0.0"
abbrev pub total_of : List Float → Float
total_of weights = sum_of itself weights

-- 002, `compute_var_weights`: the three sums of its fold
pub record Sums : Type 0 where
  pub wssq : Float
  pub wsum : Float
  pub wtot : Float

-- where the fold starts
abbrev pub no_sums : Sums
no_sums = record { wssq = zero64; wsum = zero64; wtot = zero64 }

-- its closure: a reading and its weight
abbrev pub plus : Sums → Float × Float → Sums
plus s (v, w) = record { wssq = s.wssq ⊕ ((v ⊗ v) ⊗ w); wsum = s.wsum ⊕ (v ⊗ w); wtot = s.wtot ⊕ w }

-- what it makes of the sums: "a zero total yields 0.0", "Negative figures are not clamped."
unfoldable pub variance_of : Sums → Float
variance_of s =
    let mean = s.wsum ⊘ s.wtot in
    cond (eq s.wtot zero64) zero64 ((s.wssq ⊘ s.wtot) ⊖ (mean ⊗ mean))

-- 002, `compute_var_weights`, of readings with their weights
unfoldable pub compute_var_weights : List (Float × Float) → Float
unfolding variance_of
compute_var_weights pairs = variance_of (foldl plus no_sums pairs)

-- 002, `rolling_apply_weights`: where "the aligned part" of the weights starts, for row i from start up to end
abbrev pub weights_start : Bool → ℕ → ℕ → ℕ → ℕ → ℕ
weights_start center window_size i start end =
    cond center (window_size / 2 - (i - start)) (cond (eqb start 0) (window_size - (end - start)) 0)

-- the readings from start up to end, each with its weight "Divided by their sum", the first with weight `first`
abbrev pub aligned : List Float → List Float → ℕ → ℕ → ℕ → List (Float × Float)
aligned values weights start end first =
    table (λ i. (reading_of values (start + i), get_or weights (first + i) nan ⊘ total_of weights)) (end - start)

-- row i's answer: "A row is missing exactly when its window is shorter than the minimum."
unfoldable pub weighted_at : Bool → ℕ → ℕ → List Float → List Float → ℕ → Figure
unfolding table compute_var_weights
weighted_at center window_size min_periods weights values i =
    let (start, end) = bounds_at center window_size (length values) i in
    cond (ltb (end - start) min_periods) Missing
    (Present (compute_var_weights (aligned values weights start end (weights_start center window_size i start end))))

-- A call over n places: `given` is the number of its trace, then "8 weights with a map; 9 sum equal to zero, either sign; 10 count other
-- than the window size", and "12 an output list shorter than the rows" with `outputs` the length of the shorter. "This call is lent no
-- work slice, so 13 never applies to it."
unfoldable pub weights_refusal : ℕ → Bool → ℕ → ℕ → ℕ → Float → ℕ → ℕ
unfolding refusal ◌or_else◌
weights_refusal given mapped n window_size count total outputs =
    given
    or_else refusal 8 mapped
    or_else refusal 9 (eq total zero64)
    or_else refusal 10 (not (eqb count window_size))
    or_else refusal 12 (ltb outputs n)

-- a weighted call: its number, and what it leaves in the two lists that it is lent
pub record CalledWeights (center : Bool) (window_size min_periods : ℕ) (weights : List Float) (t : Trace) (c₀ c₁ : Column) (number : ℕ) : Type 0 where
  pub number_is : number
      ≡ weights_refusal (trace_refusal t) t.mapped (length t.readings) window_size (length weights) (total_of weights)
      (min (length c₀.doubles) (length c₀.bytes))
  pub column-is : c₁ ≡ column_after number (weighted_at center window_size min_periods weights t.readings) (length t.readings) c₀

-- ---- the same, of a call's parameters
-- what is lent, before and after
abbrev pub lending_column : MutSlice Float → MutSlice ℕ → Column × Column
lending_column figures present = (column (entering_mut figures) (entering_mut present), column (leaving figures) (leaving present))

-- a weighted call
abbrev pub CallsWeights : Bool → ℕ → ℕ → Slice Float → Trace → Column × Column → ℕ → Type 0
CallsWeights center window_size min_periods weights t c number =
    CalledWeights center window_size min_periods (entering weights) t c.0 c.1 number
