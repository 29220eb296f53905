-- What the three demands, the statement for pairs of traces, that of a window's lowest and highest reading and the law of maps say of
-- calls, each as the contract of a function of this crate that makes them: demands 1, 2 and 3 of a call without weights, 3 also of two such
-- calls, or for 2 and 3 the statement for pairs, where the figure is of two traces; of a variance the other statement too; 1 and 2 of the
-- others, and the law of any two that are lent maps; what is shown of a step from row to row, and of a skewness state beside a kurtosis
-- state. What they mean is in `promises` DemandOne, DemandTwo, DemandThree, TwoTraces, LowestHighest, Maps, KeptBounds and SkewInKurtosis.
-- Beside them stands the entry's own contract, `called`: of two calls what is said of each is enough for what is said of both. Lists that
-- are lent come as (before, after). Assumes nothing.
use Rattle.std.specs.Prelude.{ℕ, ◌+◌, ◌<◌, ◌≡◌, Bool, List, [], ◌∷◌, length, Float}
use Rattle.root.specs.Root.{root}
use Rattle.trace.specs.Trace.{Trace}
use Rattle.moment.specs.declared.Figure.{Figure}
use Rattle.moment.specs.Kurtosis.{skew_part}
use Rattle.moment.specs.declared.skew_state.SkewState.{SkewState}
use Rattle.moment.specs.declared.kurtosis_state.KurtosisState.{KurtosisState}
use Rattle.plan.specs.Plan.{rows}
use Rattle.plan.specs.Bounds.{bounds_at, offsets_at, next_offsets}
use Rattle.plan.specs.Code.Reaching.{StepsTo}
use Rattle.plan.specs.declared.bounds.Offsets.{Offsets}
use Rattle.window.specs.Given.{Given}
use Rattle.window.specs.Outputs.{Column, Lent, column_after}
use Rattle.window.specs.Histories.{History, inserted, combined, after}
use Rattle.rolling.specs.Moments.{Statistic, kind_of, skewness, kurtosis as kurtosis_moment}
use Rattle.rolling.specs.Calls.{Query, GivenTo, Left, Calls}
use Rattle.rolling.specs.Fixed.{fixed_query, CallsFixed}
use Rattle.weighted.specs.Weights.{weighted_at, CalledWeights}
use Rattle.moments.specs.HostCall.{Host, decoded_of, ReadingLists, CallsBytes}
use Rattle.moments.specs.Results.{FigureResult}
use Rattle.demands.specs.declared.states.Both.{Both}
use Rattle.promises.specs.Rust.{Rust}
use Rattle.promises.specs.Calls.{ArrayCall, CallsArray, members_of, OfOneTrace, OfTwoTraces}
use Rattle.promises.specs.DemandOne.{checks_of, plan_checks, host_checks, fixed_checks, weights_checks}
use Rattle.promises.specs.DemandOne.{Answered, HostLeft}
use Rattle.promises.specs.DemandTwo.{source_of, RowsEqual, FixedRowsEqual, WeightedRowsEqual, CorrectRoot}
use Rattle.promises.specs.DemandThree.{Alike, SameAnswers, Yielded}
use Rattle.promises.specs.LowestHighest.{WhereExtremes, SameExtremes}
use Rattle.promises.specs.TwoTraces.{PairYielded}
use Rattle.promises.specs.KeptBounds.{left_window, RaisesEach}
use Rattle.promises.specs.Maps.{SameMaps, SameArrays, SameGiven, SameHost, SameRoom, SameReadingRoom, SameColumnRoom, SameAnswer, SameColumns, SameRows}

-- ---- host calls
-- one
pub record MeetsHost (q : Query) (h : Host (kind_of q.statistic))
    (r : ReadingLists (kind_of q.statistic) × ReadingLists (kind_of q.statistic)) (l : Lent × Lent) (number : ℕ) : Type 0 where
  pub called : CallsBytes q h r l number
  pub one : Answered (host_checks q h r.0 l.0) number {A = ReadingLists (kind_of q.statistic) × Lent} (r.0, l.0) (r.1, l.1)
      (HostLeft q h r.0 r.1 l.0 l.1)
  pub two : number ≡ 0 → (rust : Rust) (one : OfOneTrace q.statistic) → RowsEqual rust q one (decoded_of (kind_of q.statistic) h) l.1
  pub three : number ≡ 0 → OfOneTrace q.statistic → (k : ℕ) → k < rows q.plan
      → Yielded q (decoded_of (kind_of q.statistic) h) l.1 k
  pub pairs : number ≡ 0 → OfTwoTraces q.statistic → (k : ℕ) → k < rows q.plan
      → PairYielded q (decoded_of (kind_of q.statistic) h) l.1 k
  pub extremes : number ≡ 0 → (k : ℕ) → k < rows q.plan → WhereExtremes q.statistic (decoded_of (kind_of q.statistic) h) q.plan
      q.min_periods k l.1

-- two, with the same plan, the same setting and the same figure: of each what is said of one, of both demand 3 or the statement for pairs
-- of traces, of a variance also that its lowest and highest reading are the same, and the law of maps
pub record MeetTwoHosts (q : Query) (h h' : Host (kind_of q.statistic))
    (r r' : ReadingLists (kind_of q.statistic) × ReadingLists (kind_of q.statistic)) (l l' : Lent × Lent)
    (number number' : ℕ) : Type 0 where
  pub first : MeetsHost q h r l number
  pub second : MeetsHost q h' r' l' number'
  pub both : Alike (kind_of q.statistic) (decoded_of (kind_of q.statistic) h) (decoded_of (kind_of q.statistic) h')
      → number ≡ 0 → number' ≡ 0
      → SameAnswers q (decoded_of (kind_of q.statistic) h) (decoded_of (kind_of q.statistic) h') l.1 l'.1
  pub both_extremes : Alike (kind_of q.statistic) (decoded_of (kind_of q.statistic) h) (decoded_of (kind_of q.statistic) h')
      → number ≡ 0 → number' ≡ 0
      → SameExtremes q (decoded_of (kind_of q.statistic) h) (decoded_of (kind_of q.statistic) h') l.1 l'.1
  pub maps : SameHost (kind_of q.statistic) h h' → SameReadingRoom (kind_of q.statistic) h h' r.0 r'.0
      → SameRoom l.0 l'.0 → SameRows (rows q.plan) l.1 l'.1 number number'

-- ---- plan calls, the trace as doubles
-- one
pub record MeetsPlan (q : Query) (t : GivenTo q) (l : Lent × Lent) (number : ℕ) : Type 0 where
  pub called : Calls q t l number
  pub one : Answered (plan_checks q t l.0) number l.0 l.1 (Left q t l.0 l.1 0)
  pub two : number ≡ 0 → (rust : Rust) (one : OfOneTrace q.statistic) → RowsEqual rust q one t l.1
  pub three : number ≡ 0 → OfOneTrace q.statistic → (k : ℕ) → k < rows q.plan → Yielded q t l.1 k
  pub pairs : number ≡ 0 → OfTwoTraces q.statistic → (k : ℕ) → k < rows q.plan → PairYielded q t l.1 k
  pub extremes : number ≡ 0 → (k : ℕ) → k < rows q.plan → WhereExtremes q.statistic t q.plan q.min_periods k l.1

-- two
pub record MeetTwoPlans (q : Query) (t t' : GivenTo q) (l l' : Lent × Lent) (number number' : ℕ) : Type 0 where
  pub first : MeetsPlan q t l number
  pub second : MeetsPlan q t' l' number'
  pub both : Alike (kind_of q.statistic) t t' → number ≡ 0 → number' ≡ 0 → SameAnswers q t t' l.1 l'.1
  pub both_extremes : Alike (kind_of q.statistic) t t' → number ≡ 0 → number' ≡ 0 → SameExtremes q t t' l.1 l'.1
  pub maps : SameGiven (kind_of q.statistic) t t' → SameRoom l.0 l'.0 → SameRows (rows q.plan) l.1 l'.1 number number'

-- ---- fixed windows
-- one
pub record MeetsFixed (center : Bool) (window_size min_periods : ℕ) (a : Statistic) (t : Given (kind_of a)) (l : Lent × Lent)
    (number : ℕ) : Type 0 where
  pub called : CallsFixed center window_size min_periods a t l number
  pub one : Answered (fixed_checks window_size a t l.0) number l.0 l.1
      (Left (fixed_query center window_size min_periods a t) t l.0 l.1 0)
  pub two : number ≡ 0 → (rust : Rust) (one : OfOneTrace a) → FixedRowsEqual rust center window_size min_periods a one t l.1
  pub three : number ≡ 0 → OfOneTrace a → (k : ℕ) → k < rows (fixed_query center window_size min_periods a t).plan
      → Yielded (fixed_query center window_size min_periods a t) t l.1 k
  pub pairs : number ≡ 0 → OfTwoTraces a → (k : ℕ) → k < rows (fixed_query center window_size min_periods a t).plan
      → PairYielded (fixed_query center window_size min_periods a t) t l.1 k
  pub extremes : number ≡ 0 → (k : ℕ) → k < rows (fixed_query center window_size min_periods a t).plan
      → WhereExtremes a t (fixed_query center window_size min_periods a t).plan min_periods k l.1

-- two, over traces of equal length, whose plan is then the same
pub record MeetTwoFixed (center : Bool) (window_size min_periods : ℕ) (a : Statistic) (t t' : Given (kind_of a)) (l l' : Lent × Lent)
    (number number' : ℕ) : Type 0 where
  pub first : MeetsFixed center window_size min_periods a t l number
  pub second : MeetsFixed center window_size min_periods a t' l' number'
  pub both : Alike (kind_of a) t t' → number ≡ 0 → number' ≡ 0
      → SameAnswers (fixed_query center window_size min_periods a t) t t' l.1 l'.1
  pub both_extremes : Alike (kind_of a) t t' → number ≡ 0 → number' ≡ 0
      → SameExtremes (fixed_query center window_size min_periods a t) t t' l.1 l'.1
  pub maps : SameGiven (kind_of a) t t' → SameRoom l.0 l'.0
      → SameRows (rows (fixed_query center window_size min_periods a t).plan) l.1 l'.1 number number'

-- ---- weights
-- one
pub record MeetsWeights (center : Bool) (window_size min_periods : ℕ) (weights : List Float) (t : Trace) (c : Column × Column)
    (number : ℕ) : Type 0 where
  pub called : CalledWeights center window_size min_periods weights t c.0 c.1 number
  pub one : Answered (weights_checks window_size weights t c.0) number c.0 c.1
      (c.1 ≡ column_after 0 (weighted_at center window_size min_periods weights t.readings) (length t.readings) c.0)
  pub two : number ≡ 0 → (rust : Rust) → WeightedRowsEqual rust center window_size min_periods weights t c.1

-- two
pub record MeetTwoWeights (center : Bool) (window_size min_periods : ℕ) (weights : List Float) (t t' : Trace) (c c' : Column × Column)
    (number number' : ℕ) : Type 0 where
  pub first : MeetsWeights center window_size min_periods weights t c number
  pub second : MeetsWeights center window_size min_periods weights t' c' number'
  pub maps : SameMaps t t' → SameColumnRoom c.0 c'.0
      → SameAnswer number number' (SameColumns (length t.readings) (c.1 ∷ []) (c'.1 ∷ []))

-- ---- a step from row i's bounds
-- to those of the next row
pub record ToNextRow (center : Bool) (window_size n i : ℕ) (at next : ℕ × ℕ) : Type 0 where
  pub row : at ≡ bounds_at center window_size n i
  pub next_row : next ≡ bounds_at center window_size n (i + 1)
  pub raises : RaisesEach at next

-- what is asked and what is stepped to, of any row; of a row with a next row what is shown
pub record MeetsStep (center : Bool) (window_size n i : ℕ) (at next : Offsets) : Type 0 where
  pub asked : (at.start, at.end) ≡ offsets_at center window_size n i
  pub stepped : StepsTo (next_offsets i (at.start, at.end) (left_window center window_size) n) next.start next.end
  pub shown : i + 1 < n → ToNextRow center window_size n i (at.start, at.end) (next.start, next.end)

-- ---- whole arrays, pairs and ranges
-- one
pub record MeetsArray (a : ArrayCall) (before after : List Float) (number : ℕ) : Type 0 where
  pub called : CallsArray a before after number
  pub one : Answered (checks_of a) number before after (after ≡ members_of a)
  pub two : number ≡ 0 → (rust : Rust) → after ≡ source_of rust a

-- two, each with its state before and after
pub record MeetTwoArrays (a a' : ArrayCall) (state state' : List Float × List Float) (number number' : ℕ) : Type 0 where
  pub first : MeetsArray a state.0 state.1 number
  pub second : MeetsArray a' state'.0 state'.1 number'
  pub maps : SameArrays a a' → SameAnswer number number' (state.1 ≡ state'.1)

-- ---- states: what is answered, by document 01 and by the Rust
pub record MeetsState {A : Type 0} (definition source r : A) : Type 0 where
  pub one : Answered [] 0 {A = Unit {0}} tt tt (r ≡ definition)
  pub two : r ≡ source

-- a figure, with the double that is lent for it
pub record MeetsFigure (definition source : Figure) (byte : ℕ) (before after : Float) : Type 0 where
  pub one : Answered [] 0 before after (FigureResult definition byte after)
  pub two : FigureResult source byte after

-- ---- a skewness state and a kurtosis state after one list of inserts and combines: the first is in the second
pub record MadeBy (h : History Float) (skew : SkewState) (kurtosis : KurtosisState) : Type 0 where
  pub skew_is : skew ≡ after skewness h
  pub kurtosis_is : kurtosis ≡ after kurtosis_moment h
  pub shares : skew_part kurtosis ≡ skew

-- an insert more on both, whatever list they come from
abbrev pub MeetsInsert : Both → Float → Both → Type 0
MeetsInsert s x r =
    (h : History Float) → MadeBy h s.skew s.kurtosis → MadeBy (inserted h x) r.skew r.kurtosis

-- a combine on both
abbrev pub MeetsCombine : Both → Both → Both → Type 0
MeetsCombine s o r =
    (h g : History Float) → MadeBy h s.skew s.kurtosis → MadeBy g o.skew o.kurtosis
    → MadeBy (combined h g) r.skew r.kurtosis

-- ---- root
pub record MeetsRoot (x r : Float) : Type 0 where
  pub one : Answered [] 0 {A = Unit {0}} tt tt (r ≡ root x)
  pub two : CorrectRoot x r
