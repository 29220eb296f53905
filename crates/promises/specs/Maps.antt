-- Document 02, request 1: "Accept a longer map and ignore the bytes behind." Two calls whose maps have the same bits at the places of the
-- trace give the same in every entry, whatever stands in the spare bits and in the bytes behind, and however many these are. Assumes
-- nothing.
use Rattle.std.specs.Prelude.{ℕ, ◌<◌, min, ◌≡◌, Bool, List, [], ◌∷◌, ◌++◌, length, Float}
use Rattle.trace.specs.Trace.{Trace, trace_of, valid_at}
use Rattle.plan.specs.Plan.{rows}
use Rattle.window.specs.Given.{Kind, Readings, Pairs, Given}
use Rattle.window.specs.Outputs.{Column, Lent, shortest_output, answers_in}
use Rattle.rolling.specs.Moments.{Statistic, kind_of}
use Rattle.rolling.specs.Calls.{Query, GivenTo, Called}
use Rattle.rolling.specs.Fixed.{fixed_query, CalledFixed}
use Rattle.weighted.specs.Weights.{CalledWeights}
use Rattle.moments.specs.HostCall.{ByteTrace, decoded, Host, ReadingLists, short_lists, CalledBytes}
use Rattle.promises.specs.Calls.{ArrayCall, of_var, of_skew, of_kurtosis, of_cov, of_pearson, of_skew_range, of_kurtosis_range}
use Rattle.promises.specs.Calls.{CallsArray}
use Rattle.promises.specs.DemandOne.{MapOfWrongLength}

-- ---- maps that say the same
-- 3 does not apply: a map, where one is lent, has "at least" the bytes that it needs
abbrev pub LongEnough : Trace → Type 0
LongEnough t = ¬ MapOfWrongLength t

-- two traces of the same readings, with maps that are long enough and have the same bit at every place of the trace
pub record SameMaps (t t' : Trace) : Type 0 where
  pub readings : t.readings ≡ t'.readings
  pub mapped : t.mapped ≡ t'.mapped
  pub long : LongEnough t
  pub long' : LongEnough t'
  pub bits : (i : ℕ) → i < length t.readings → valid_at t.mapped t.map i ≡ valid_at t'.mapped t'.map i

-- the same, of what a call is given ..
abbrev pub SameGiven : (kind : Kind) → Given kind → Given kind → Type 0
SameGiven Readings t t' = SameMaps t t'
SameGiven Pairs t t' = SameMaps t.x t'.x × SameMaps t.y t'.y

-- .. of a call that hands out a state ..
pub data SameArrays : ArrayCall → ArrayCall → Type 0 where
  same_var : {t t' : Trace} → SameMaps t t' → SameArrays (of_var t) (of_var t')
  same_skew : {t t' : Trace} → SameMaps t t' → SameArrays (of_skew t) (of_skew t')
  same_kurtosis : {t t' : Trace} → SameMaps t t' → SameArrays (of_kurtosis t) (of_kurtosis t')
  same_cov : {x y x' y' : Trace} → SameMaps x x' → SameMaps y y' → SameArrays (of_cov x y) (of_cov x' y')
  same_pearson : {x y x' y' : Trace} → SameMaps x x' → SameMaps y y' → SameArrays (of_pearson x y) (of_pearson x' y')
  same_skew_range : {t t' : Trace} {start len : ℕ} → SameMaps t t' → SameArrays (of_skew_range t start len) (of_skew_range t' start len)
  same_kurtosis_range : {t t' : Trace} {start len : ℕ} → SameMaps t t'
      → SameArrays (of_kurtosis_range t start len) (of_kurtosis_range t' start len)

-- .. of a trace as bytes ..
abbrev pub SameBytes : ByteTrace → ByteTrace → Type 0
SameBytes h h' = (h.bytes ≡ h'.bytes) × SameMaps (decoded h) (decoded h')

-- .. and of what the host lends
abbrev pub SameHost : (kind : Kind) → Host kind → Host kind → Type 0
SameHost Readings h h' = SameBytes h h'
SameHost Pairs h h' = SameBytes h.x h'.x × SameBytes h.y h'.y

-- a trace with more bytes behind its map
abbrev pub padded : Trace → List ℕ → Trace
padded t behind = trace_of t.readings t.mapped (t.map ++ behind)

-- ---- lists that are lent: for a number only their lengths count
-- the shortest list of outputs and the work slice are as long in both calls
pub record SameRoom (l l' : Lent) : Type 0 where
  pub outputs : shortest_output l.outputs ≡ shortest_output l'.outputs
  pub work : length l.work ≡ length l'.work

-- the lists of readings are long enough in both host calls or in neither
abbrev pub SameReadingRoom : (kind : Kind) → Host kind → Host kind → ReadingLists kind → ReadingLists kind → Type 0
SameReadingRoom kind h h' r r' = short_lists kind h r ≡ short_lists kind h' r'

-- the shorter list of a weighted call, which is lent no work slice
abbrev pub SameColumnRoom : Column → Column → Type 0
SameColumnRoom c c' = min (length c.doubles) (length c.bytes) ≡ min (length c'.doubles) (length c'.bytes)

-- ---- what two such calls give
-- The same number and, where that is 0, Same. Of what a refused call leaves, and of the readings that a host call decodes, demand 1 speaks.
pub record SameAnswer (r r' : ℕ) (Same : Type 0) : Type 0 where
  pub number : r ≡ r'
  pub answer : r ≡ 0 → Same

-- the same answers in every row of two columns' lists
abbrev pub SameColumns : ℕ → List Column → List Column → Type 0
SameColumns rows cs cs' = (k : ℕ) → k < rows → answers_in cs k ≡ answers_in cs' k

-- of windows: the number and every row's answers
abbrev pub SameRows : ℕ → (l l' : Lent) → ℕ → ℕ → Type 0
SameRows rows l l' r r' = SameAnswer r r' (SameColumns rows l.outputs.answers l'.outputs.answers)

-- ---- the law, for every entry that is lent a map
pub record MapLaw : Type 0 where
  -- bytes behind a map leave it the same
  pub behind : (t : Trace) (bytes : List ℕ) → LongEnough t → SameMaps t (padded t bytes)
  -- whole arrays, pairs and ranges: the number and the state, whatever the lent state held before
  pub arrays : {a a' : ArrayCall} → SameArrays a a' → (before after before' after' : List Float) (r r' : ℕ) → CallsArray a before after r
      → CallsArray a' before' after' r' → SameAnswer r r' (after ≡ after')
  -- plans, the trace or the two traces as doubles
  pub plans : (q : Query) (t t' : GivenTo q) → SameGiven (kind_of q.statistic) t t' → (l₀ l l₀' l' : Lent) → SameRoom l₀ l₀' → (r r' : ℕ)
      → Called q t l₀ l r → Called q t' l₀' l' r' → SameRows (rows q.plan) l l' r r'
  -- host calls, the trace or the two traces as bytes
  pub hosts : (q : Query) (h h' : Host (kind_of q.statistic)) → SameHost (kind_of q.statistic) h h'
      → (r₀ r r₀' r' : ReadingLists (kind_of q.statistic)) → SameReadingRoom (kind_of q.statistic) h h' r₀ r₀'
      → (l₀ l l₀' l' : Lent) → SameRoom l₀ l₀' → (number number' : ℕ) → CalledBytes q h r₀ r l₀ l number
      → CalledBytes q h' r₀' r' l₀' l' number' → SameRows (rows q.plan) l l' number number'
  -- fixed windows
  pub fixed : (center : Bool) (window_size min_periods : ℕ) (a : Statistic) (t t' : Given (kind_of a)) → SameGiven (kind_of a) t t'
      → (l₀ l l₀' l' : Lent) → SameRoom l₀ l₀' → (r r' : ℕ) → CalledFixed center window_size min_periods a t l₀ l r
      → CalledFixed center window_size min_periods a t' l₀' l' r'
      → SameRows (rows (fixed_query center window_size min_periods a t).plan) l l' r r'
  -- weights: with a map the number is never 0, and without one nothing is said of maps but that none is looked at
  pub weights : (center : Bool) (window_size min_periods : ℕ) (weights : List Float) (t t' : Trace) → SameMaps t t'
      → (c₀ c c₀' c' : Column) → SameColumnRoom c₀ c₀' → (r r' : ℕ) → CalledWeights center window_size min_periods weights t c₀ c r
      → CalledWeights center window_size min_periods weights t' c₀' c' r'
      → SameAnswer r r' (SameColumns (length t.readings) (c ∷ []) (c' ∷ []))
