-- Demand 1: "Whoever calls a public entry, with traces, maps, plans, weights, states and buffers of any content, gets the answer or the
-- first refusal of document 01 that applies. A refusal changes no buffer." First when each number applies, in the words of document 01's
-- "Who can cause a refusal"; then the checks of each kind of call, in their order; then the demand. Assumes nothing.
use Rattle.std.specs.Prelude.{ℕ, zero, suc, ◌+◌, ◌*◌, ◌%◌, ◌<◌, min, ◌≡◌, Bool, true, List, [], ◌∷◌, ◌++◌, ◌⊎◌, ◌↔◌, length, Float}
use Rattle.std.specs.Float.Ieee.{eq}
use Rattle.float.specs.Operators.{zero64}
use Rattle.trace.specs.Trace.{Trace, bytes_for}
use Rattle.moment.specs.declared.Figure.{Figure}
use Rattle.plan.specs.Plan.{Plan, rows, row_start, row_end}
use Rattle.plan.specs.Refusals.{needed}
use Rattle.window.specs.Given.{Kind, Readings, Pairs, Given, places_of}
use Rattle.window.specs.Outputs.{Column, Outputs, Lent, answer_lengths, count_lengths, column_after}
use Rattle.rolling.specs.Moments.{Statistic, kind_of, work_width}
use Rattle.rolling.specs.Calls.{Query, GivenTo, Left, Called}
use Rattle.rolling.specs.Fixed.{fixed_query, CalledFixed}
use Rattle.weighted.specs.Weights.{total_of, weighted_at, CalledWeights}
use Rattle.moments.specs.HostCall.{ByteTrace, reading_count, Host, decoded_of, ReadingLists, decoded_lists, CalledBytes}
use Rattle.moments.specs.Results.{FigureResult}
use Rattle.promises.specs.Calls.{ArrayCall, of_var, of_skew, of_kurtosis, of_cov, of_pearson, of_skew_range, of_kurtosis_range}
use Rattle.promises.specs.Calls.{CallsArray, members_of}

-- ---- when a number applies
-- "The sender of a trace: 1 more than 16,777,216 readings"
abbrev pub TooManyReadings : ℕ → Type 0
TooManyReadings n = 16777216 < n

-- "2 paired traces differ in length"
abbrev pub LengthsDiffer : ℕ → ℕ → Type 0
LengthsDiffer n n' = ¬ (n ≡ n')

-- "3 a map of the wrong length", and document 02, request 1: "Accept a longer map and ignore the bytes behind. A shorter one is still 3"
abbrev pub MapOfWrongLength : Trace → Type 0
MapOfWrongLength t = (t.mapped ≡ true) × (length t.map < bytes_for (length t.readings))

-- "The writer of a plan: 4 lists differ in length or exceed 16,777,216 rows"
abbrev pub WrongLists : Plan → Type 0
WrongLists p = (¬ (length p.starts ≡ length p.ends)) ⊎ (16777216 < rows p)

-- "5 start > end", in row k
abbrev pub StartPastEnd : Plan → ℕ → Type 0
StartPastEnd p k = row_end p k < row_start p k

-- "6 end > n"
abbrev pub EndPastTrace : ℕ → Plan → ℕ → Type 0
EndPastTrace n p k = n < row_end p k

-- "7 start or end below the row before"; row 0 has none before it
abbrev pub BelowRowBefore : Plan → ℕ → Type 0
BelowRowBefore p zero = ⊥
BelowRowBefore p (suc k) = (row_start p (suc k) < row_start p k) ⊎ (row_end p (suc k) < row_end p k)

-- "The chooser of weights: 8 weights with a map"
abbrev pub WeightsWithMap : Trace → Type 0
WeightsWithMap t = t.mapped ≡ true

-- "9 sum equal to zero, either sign"
abbrev pub SumIsZero : List Float → Type 0
SumIsZero weights = eq (total_of weights) zero64 ≡ true

-- "10 count other than the window size"
abbrev pub OtherCount : List Float → ℕ → Type 0
OtherCount weights window_size = ¬ (length weights ≡ window_size)

-- "The asker of a range: 11 start + length > n, added without a limit of width"
abbrev pub RangePastTrace : ℕ → ℕ → ℕ → Type 0
RangePastTrace n start len = n < start + len

-- some of these lengths are below the rows
abbrev pub SomeShorter : List ℕ → ℕ → Type 0
SomeShorter [] rows = ⊥
SomeShorter (a ∷ lengths) rows = (a < rows) ⊎ SomeShorter lengths rows

-- "The host's programmer: 12 an output list shorter than the rows"
abbrev pub OutputShorter : Outputs → ℕ → Type 0
OutputShorter l rows = SomeShorter (answer_lengths l.answers ++ count_lengths l.counts) rows

-- "or in the host call a reading list shorter than n"
abbrev pub ListShorter : ByteTrace → List Float → Type 0
ListShorter h readings = length readings < reading_count h

-- of two traces either list
abbrev pub ReadingsShorter : (kind : Kind) → Host kind → ReadingLists kind → Type 0
ReadingsShorter Readings h readings = ListShorter h readings
ReadingsShorter Pairs h readings = ListShorter h.x readings.0 ⊎ ListShorter h.y readings.1

-- "13 work slice too short": "times the widest window of the plan"
abbrev pub WorkTooShort : Query → Lent → Type 0
WorkTooShort q l = length l.work < needed (work_width q.statistic) q.plan

-- the same with fixed windows: "Widest window: the smaller of size and n."
abbrev pub FixedWorkTooShort : Statistic → ℕ → ℕ → Lent → Type 0
FixedWorkTooShort a window_size n l = length l.work < work_width a * min window_size n

-- "14 trace bytes not a multiple of 8"
abbrev pub NoMultiple : ByteTrace → Type 0
NoMultiple h = ¬ (length h.bytes % 8 ≡ 0)

-- of two traces either
abbrev pub NoWholeReadings : (kind : Kind) → Host kind → Type 0
NoWholeReadings Readings h = NoMultiple h
NoWholeReadings Pairs h = NoMultiple h.x ⊎ NoMultiple h.y

-- ---- the checks of each kind of call
-- a number, and when it applies to the call
pub record Check : Type 1 where
  pub number : ℕ
  pub Applies : Type 0

infix 80 ◌when◌
-- a check as document 01 lists it: the number, then its condition
abbrev pub ◌when◌ : ℕ → Type 0 → Check
number when condition = record { number = number; Applies = condition }

-- one trace
abbrev pub trace_checks : Trace → List Check
trace_checks t =
    1 when TooManyReadings (length t.readings)
    ∷ 3 when MapOfWrongLength t
    ∷ []

-- two traces
abbrev pub pair_checks : Trace → Trace → List Check
pair_checks x y =
    1 when (TooManyReadings (length x.readings) ⊎ TooManyReadings (length y.readings))
    ∷ 2 when LengthsDiffer (length x.readings) (length y.readings)
    ∷ 3 when (MapOfWrongLength x ⊎ MapOfWrongLength y)
    ∷ []

-- a range of a trace
abbrev pub range_checks : Trace → ℕ → ℕ → List Check
range_checks t start len =
    1 when TooManyReadings (length t.readings)
    ∷ 3 when MapOfWrongLength t
    ∷ 11 when RangePastTrace (length t.readings) start len
    ∷ []

-- of each call that hands out a state
abbrev pub checks_of : ArrayCall → List Check
checks_of (of_var t) = trace_checks t
checks_of (of_skew t) = trace_checks t
checks_of (of_kurtosis t) = trace_checks t
checks_of (of_cov x y) = pair_checks x y
checks_of (of_pearson x y) = pair_checks x y
checks_of (of_skew_range t start len) = range_checks t start len
checks_of (of_kurtosis_range t start len) = range_checks t start len

-- what a window is given, by the kind of its entries
abbrev pub given_checks : (kind : Kind) → Given kind → List Check
given_checks Readings t = trace_checks t
given_checks Pairs t = pair_checks t.x t.y

-- "each row tested for 5, 6, 7"
abbrev pub row_checks : ℕ → Plan → ℕ → List Check
row_checks n p k =
    5 when StartPastEnd p k
    ∷ 6 when EndPastTrace n p k
    ∷ 7 when BelowRowBefore p k
    ∷ []

-- "in a plan from row 0": the first k rows
unfoldable pub rows_checks : ℕ → Plan → ℕ → List Check
rows_checks n p zero = []
rows_checks n p (suc k) = rows_checks n p k ++ row_checks n p k

-- what is given, then a plan over n places, then the lists: Short says when 12 applies
abbrev pub planned_checks : List Check → ℕ → Type 0 → Query → Lent → List Check
planned_checks given n Short q l =
    given
    ++ (4 when WrongLists q.plan ∷ [])
    ++ rows_checks n q.plan (rows q.plan)
    ++ (12 when Short ∷ 13 when WorkTooShort q l ∷ [])

-- a plan call
abbrev pub plan_checks : (q : Query) → GivenTo q → Lent → List Check
plan_checks q t l =
    planned_checks (given_checks (kind_of q.statistic) t) (places_of (kind_of q.statistic) t)
    (OutputShorter l.outputs (rows q.plan)) q l

-- a host call: "14 before all"
abbrev pub host_checks : (q : Query) → (h : Host (kind_of q.statistic)) → ReadingLists (kind_of q.statistic) → Lent → List Check
host_checks q h readings l =
    let kind = kind_of q.statistic in
    (14 when NoWholeReadings kind h ∷ [])
    ++ planned_checks (given_checks kind (decoded_of kind h)) (places_of kind (decoded_of kind h))
    (ReadingsShorter kind h readings ⊎ OutputShorter l.outputs (rows q.plan)) q l

-- a call with fixed windows: "they refuse nothing more"
abbrev pub fixed_checks : ℕ → (a : Statistic) → Given (kind_of a) → Lent → List Check
fixed_checks window_size a t l =
    given_checks (kind_of a) t
    ++ (12 when OutputShorter l.outputs (places_of (kind_of a) t) ∷ 13 when FixedWorkTooShort a window_size (places_of (kind_of a) t) l ∷ [])

-- a call with weights: "lent no work slice, so 13 never applies to it"
abbrev pub weights_checks : ℕ → List Float → Trace → Column → List Check
weights_checks window_size weights t c =
    1 when TooManyReadings (length t.readings)
    ∷ 3 when MapOfWrongLength t
    ∷ 8 when WeightsWithMap t
    ∷ 9 when SumIsZero weights
    ∷ 10 when OtherCount weights window_size
    ∷ 12 when ((length c.doubles < length t.readings) ⊎ (length c.bytes < length t.readings))
    ∷ []

-- ---- their order
-- "in a plan from row 0, each row tested for 5, 6, 7": the numbers of so many rows
unfoldable pub row_numbers : ℕ → List ℕ
row_numbers zero = []
row_numbers (suc k) = row_numbers k ++ (5 ∷ 6 ∷ 7 ∷ [])

-- "Checks run in number order, 14 before all": those that there are of a plan of so many rows
abbrev pub order : ℕ → List ℕ
order rows = (14 ∷ 1 ∷ 2 ∷ 3 ∷ 4 ∷ []) ++ row_numbers rows ++ (8 ∷ 9 ∷ 10 ∷ 11 ∷ 12 ∷ 13 ∷ [])

-- checks whose numbers stand in a list in the list's order; others may stand between
abbrev pub InOrder : List Check → List ℕ → Type 0
InOrder [] numbers = Unit {0}
InOrder (c ∷ checks) [] = ⊥
InOrder (c ∷ checks) (n ∷ numbers) = ((c.number ≡ n) × InOrder checks numbers) ⊎ InOrder (c ∷ checks) numbers

-- ---- the demand
-- no number applies
abbrev pub NoneApplies : List Check → Type 0
NoneApplies [] = Unit {0}
NoneApplies (c ∷ checks) = (¬ c.Applies) × NoneApplies checks

-- "the first refusal of document 01 that applies": this number applies, and nothing earlier does
abbrev pub FirstApplies : List Check → ℕ → Type 0
FirstApplies [] number = ⊥
FirstApplies (c ∷ checks) number = ((number ≡ c.number) × c.Applies) ⊎ ((¬ c.Applies) × FirstApplies checks number)

-- The demand's two sentences, of a call with these checks that answers `number`: what it is lent holds `before` and then `after`, and
-- Answer says what an accepted call leaves
pub record Answered (checks : List Check) (number : ℕ) {A : Type 0} (before after : A) (Answer : Type 0) : Type 0 where
  pub accepted : (number ≡ 0) ↔ NoneApplies checks
  pub refused : ¬ (number ≡ 0) → FirstApplies checks number
  pub answer : number ≡ 0 → Answer
  pub unchanged : ¬ (number ≡ 0) → after ≡ before

-- what an accepted host call leaves: the readings decoded, and what the plan call on them leaves
pub record HostLeft (q : Query) (h : Host (kind_of q.statistic)) (r₀ r : ReadingLists (kind_of q.statistic))
    (l₀ l : Lent) : Type 0 where
  pub readings_are : r ≡ decoded_lists (kind_of q.statistic) 0 h r₀
  pub left : Left q (decoded_of (kind_of q.statistic) h) l₀ l 0

-- Demand 1, for every entry: of a call of each kind, whatever it is given and lent
pub record DemandOne : Type 1 where
  -- whole arrays, pairs and ranges
  pub arrays : (a : ArrayCall) (before after : List Float) (r : ℕ) → CallsArray a before after r
      → Answered (checks_of a) r before after (after ≡ members_of a)
  -- plans, the trace or the two traces as doubles
  pub plans : (q : Query) (t : GivenTo q) (l₀ l : Lent) (r : ℕ) → Called q t l₀ l r → Answered (plan_checks q t l₀) r l₀ l (Left q t l₀ l 0)
  -- host calls, the trace or the two traces as bytes
  pub hosts : (q : Query) (h : Host (kind_of q.statistic)) (r₀ r : ReadingLists (kind_of q.statistic)) (l₀ l : Lent) (number : ℕ)
      → CalledBytes q h r₀ r l₀ l number
      → Answered (host_checks q h r₀ l₀) number {A = ReadingLists (kind_of q.statistic) × Lent} (r₀, l₀) (r, l)
      (HostLeft q h r₀ r l₀ l)
  -- fixed windows
  pub fixed : (center : Bool) (window_size min_periods : ℕ) (a : Statistic) (t : Given (kind_of a)) (l₀ l : Lent) (r : ℕ)
      → CalledFixed center window_size min_periods a t l₀ l r
      → Answered (fixed_checks window_size a t l₀) r l₀ l (Left (fixed_query center window_size min_periods a t) t l₀ l 0)
  -- weights
  pub weights : (center : Bool) (window_size min_periods : ℕ) (weights : List Float) (t : Trace) (c₀ c : Column) (r : ℕ)
      → CalledWeights center window_size min_periods weights t c₀ c r
      → Answered (weights_checks window_size weights t c₀) r c₀ c
      (c ≡ column_after 0 (weighted_at center window_size min_periods weights t.readings) (length t.readings) c₀)
  -- states and root: they have no check, so the demand asks of them what their contract says, here in its form
  pub states : {A : Type 0} (definition r : A) → r ≡ definition → Answered [] 0 {A = Unit {0}} tt tt (r ≡ definition)
  -- a state's figure, with the double that is lent for it
  pub figures : (figure : Figure) (byte : ℕ) (before after : Float) → FigureResult figure byte after
      → Answered [] 0 before after (FigureResult figure byte after)
  -- the checks of every kind run in the order of document 01
  pub trace_order : (t : Trace) → InOrder (trace_checks t) (order 0)
  pub pair_order : (x y : Trace) → InOrder (pair_checks x y) (order 0)
  pub range_order : (t : Trace) (start len : ℕ) → InOrder (range_checks t start len) (order 0)
  pub plan_order : (q : Query) (t : GivenTo q) (l : Lent) → InOrder (plan_checks q t l) (order (rows q.plan))
  pub host_order : (q : Query) (h : Host (kind_of q.statistic)) (r : ReadingLists (kind_of q.statistic)) (l : Lent)
      → InOrder (host_checks q h r l) (order (rows q.plan))
  pub fixed_order : (window_size : ℕ) (a : Statistic) (t : Given (kind_of a)) (l : Lent) → InOrder (fixed_checks window_size a t l) (order 0)
  pub weights_order : (window_size : ℕ) (weights : List Float) (t : Trace) (c : Column)
      → InOrder (weights_checks window_size weights t c) (order 0)
