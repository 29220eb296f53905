-- What the rows of a plan of skewness keep between them: for each row that is still to be finalised a slot. Rows are finalised 32 at a
-- time, so that their roots are taken side by side, and rows of one count share a correction. Assumes nothing.
use Rattle.std.specs.Prelude.{◌≡◌, ◌≢◌, ℕ, ◌+◌, ◌-◌, ◌<◌, ◌≤◌, Bool, cond, List, length, ◌==◌, nat_le, slice_index_or, slice_set, Float, Option, Some, None}
use Rattle.std.specs.Float.{nan}
use Rattle.float.specs.Operators.{◌⊗◌, ◌⊘◌, of_nat64}
use Rattle.root.specs.Root.{root}
use Rattle.trace.specs.Trace.{Trace}
use Rattle.moment.specs.Figure.{double_of, byte_of}
use Rattle.moment.specs.Skew.{is_zero, skew_finalize}
use Rattle.moment.specs.declared.Figure.{Figure}
use Rattle.moment.specs.declared.skew_state.SkewState.{SkewState}
use Rattle.plan.specs.declared.bounds.Offsets.{Offsets}
use Rattle.window.specs.Given.{Readings, series_of}
use Rattle.window.specs.Code.Filling.{Fills}
use Rattle.window.specs.Code.Memory.{reading}
use Rattle.window.specs.declared.Window.{Window}
use Rattle.rolling.specs.Moments.{skewness}
use Rattle.rolling.specs.Code.Layouts.{skew_layout, skew_stored}
use Rattle.rolling.specs.Code.Ops.{ops_of, CanTotal}
use Rattle.rolling.specs.Code.Rows.{plan_by, Ahead, row_answer, CanWork, HasWorked}
use Rattle.rolling.specs.declared.row.Rows.{Rows}
use Rattle.rolling.specs.declared.skew.Slots.{Slots}

-- the m2 of `finalize`
abbrev pub m2_of : SkewState → Float
m2_of s = s.m2 ⊘ s.weight

-- the m3 of `finalize` with this m2, and NaN where its is_zero holds or the window has readings that are not finite
abbrev pub m3_of : SkewState → Float → ℕ → Float
m3_of s m2 nonfinite = cond (nonfinite == 0) (cond (is_zero m2 s.mean) nan (s.m3 ⊘ s.weight)) nan

-- the fewest readings that have a figure
abbrev pub least_of : Bool → ℕ
least_of bias = cond bias 1 3

-- a row's state, if the row has one: with a map enough valid places, without one enough length; and enough readings for a figure
unfoldable pub pending_of : Bool → Bool → ℕ → Offsets → Window → SkewState → Option SkewState
pending_of bias mapped min_periods at w state =
    let valid = w.front + w.back in
    cond (nat_le min_periods (cond mapped valid (at.end - at.start))) (cond (nat_le (least_of bias) valid) (Some state) None) None

-- a window whose two states, each of which weighs its readings, may be combined, and a row's bounds
pub record CanPend (w : Window) (agg : SkewState) (work : List Float) (at : Offsets) : Type 0 where
  pub total : CanTotal reading skew_layout (ops_of skewness) (λ z n. z.weight ≡ of_nat64 n) w agg work
  pub rises : at.start ≤ at.end

-- what a slot comes to, by the root of its m2
abbrev pub estimate : Bool → Float → Float → Float → Float → Float
estimate bias m2 m3 factor r = cond bias (m3 ⊘ (m2 ⊗ r)) (factor ⊗ (m3 ⊘ (m2 ⊗ r)))

-- the double that slot i comes to
abbrev pub double_at : Bool → Slots → ℕ → Float
double_at bias s i =
    let m2 = slice_index_or s.m2s i nan in
    estimate bias m2 (slice_index_or s.m3s i nan) (slice_index_or s.factors i nan) (root m2)

-- slot k written
abbrev pub slot_set : Slots → ℕ → Float → Float → Float → Slots
slot_set s k m2 m3 factor = record { m2s = slice_set s.m2s k m2; m3s = slice_set s.m3s k m3; factors = slice_set s.factors k factor }

-- slot k comes to the double of a row's answer, and every other to what it did; byte is the answer's
pub record SlotHolds (bias : Bool) (answer : Figure) (k byte : ℕ) (s₀ s : Slots) : Type 0 where
  pub double_is : double_at bias s k ≡ double_of answer
  pub others_same : (j : ℕ) → j ≢ k → double_at bias s j ≡ double_at bias s₀ j
  pub byte_is : byte ≡ byte_of answer

-- where a block of rows may be worked
pub record CanFill (t : Trace) (r : Rows) (outputs first until : ℕ) (at : Offsets) (w : Window) (agg : SkewState) (work : List Float) :
    Type 0 where
  pub can : CanWork skew_stored (series_of Readings t) (length t.readings) r outputs first until at w agg work
  pub short : until ≤ first + 32

-- row j's answer for a skewness
abbrev pub skew_answer : Bool → Trace → Rows → ℕ → Figure
skew_answer bias t r j = row_answer skew_stored (λ z. skew_finalize z bias) (series_of Readings t) (length t.readings) r j

-- The rows from `first` up to k of a block: the window stands before row k with that row's bounds, their bytes are written, and their
-- slots come to their doubles
pub record BlockFilled (bias : Bool) (t : Trace) (r : Rows) (first k : ℕ) (work₀ : List Float) (present₀ : List ℕ) (at : Offsets)
    (w : Window) (agg : SkewState) (work : List Float) (present : List ℕ) (s : Slots) : Type 0 where
  pub ahead : Ahead (plan_by r (length t.readings)) k at
  pub worked : HasWorked skew_stored (series_of Readings t) (length t.readings) r k work₀ w agg work
  pub bytes : Fills (λ j. byte_of (skew_answer bias t r j)) first k present₀ present
  pub doubles : (j : ℕ) → first ≤ j → j < k → double_at bias s (j - first) ≡ double_of (skew_answer bias t r j)
