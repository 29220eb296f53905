-- Demand 3. "Take two traces of equal length that miss the same places, both by a map or both without one. Let each go through an accepted
-- call without weights, with the same plan, the same setting and the same figure, be it variance, skewness or kurtosis. Whatever the
-- traces hold elsewhere, and whatever the work slices and output lists held before, at every row in whose window both traces hold the same
-- bits at every valid place, both answers have the same bits. In every accepted call without weights for one of these figures, each row's
-- answer is the one that document 01's split account yields. There variance is missing exactly when the row's valid count is at most ddof
-- or below the minimum. Otherwise it is NaN if a valid reading in the row's window isn't finite, else NaN or at least zero." Assumes
-- nothing.
use Rattle.std.specs.Prelude.{ℕ, ◌≤◌, ◌<◌, ◌≡◌, true, false, List, ◌∷◌, ◌⊎◌, ◌↔◌}
use Rattle.std.specs.Float.{nan}
use Rattle.std.specs.Float.Ieee.{is_nan, le}
use Rattle.std.specs.Float.Ieee.Scale.{finite}
use Rattle.float.specs.Operators.{zero64}
use Rattle.trace.specs.Trace.{Trace}
use Rattle.plan.specs.Plan.{Plan, rows, row_start, row_end}
use Rattle.window.specs.Places.{valid_count}
use Rattle.window.specs.Readings.{reading_of}
use Rattle.window.specs.Given.{Kind, Readings, Pairs, Given, series_of, places_of, SameAt}
use Rattle.window.specs.Outputs.{Lent, Answer, answers_in, answers_at}
use Rattle.rolling.specs.Moments.{Statistic, Variance, Skewness, Kurtosis, Covariance, Correlation, kind_of}
use Rattle.rolling.specs.Calls.{Query, GivenTo, figures_of}
use Rattle.promises.specs.Calls.{OfOneTrace, figures_in, AcceptedCall}

-- "Two traces of equal length that miss the same places, both by a map or both without one": of the places of the traces, so that maps of
-- different length are among those that it speaks of
pub record Alike (kind : Kind) (t t' : Given kind) : Type 0 where
  pub long : places_of kind t ≡ places_of kind t'
  pub places : (i : ℕ) → i < places_of kind t → (series_of kind t).places.valid i ≡ (series_of kind t').places.valid i
  pub mapped : (series_of kind t).places.mapped ≡ (series_of kind t').places.mapped

-- "both traces hold the same bits at every valid place" from s up to e. Readings with the same bits are equal here, and so are two NaNs
-- whose bits differ: the hypothesis is the weaker, and the theorem the stronger.
abbrev pub Agree : (kind : Kind) (t t' : Given kind) → ℕ → ℕ → Type 0
Agree kind t t' s e = (i : ℕ) → s ≤ i → i < e → (series_of kind t).places.valid i ≡ true → SameAt kind t t' i

-- "both answers have the same bits", of two calls that leave l and l': at every row in whose window the traces agree
abbrev pub SameAnswers : (q : Query) (t t' : GivenTo q) → Lent → Lent → Type 0
SameAnswers q t t' l l' =
    (k : ℕ) → k < rows q.plan → Agree (kind_of q.statistic) t t' (row_start q.plan k) (row_end q.plan k)
    → figures_in q.statistic l k ≡ figures_in q.statistic l' k

-- "the row's valid count is at most ddof or below the minimum"
abbrev pub TooFew : (kind : Kind) → Given kind → ℕ → ℕ → ℕ → ℕ → Type 0
TooFew kind t s e min_periods ddof =
    (valid_count (series_of kind t).places s e ≤ ddof) ⊎ (valid_count (series_of kind t).places s e < min_periods)

-- the reading at place i "isn't finite"; of a pair of readings, either is not
abbrev pub NotFiniteAt : (kind : Kind) → Given kind → ℕ → Type 0
NotFiniteAt Readings t i = finite (reading_of t.readings i) ≡ false
NotFiniteAt Pairs t i = (finite (reading_of t.x.readings i) ≡ false) ⊎ (finite (reading_of t.y.readings i) ≡ false)

-- "a valid reading in the row's window isn't finite"
abbrev pub SomeNotFinite : (kind : Kind) → Given kind → ℕ → ℕ → Type 0
SomeNotFinite kind t s e = (i : ℕ) × (s ≤ i) × (i < e) × ((series_of kind t).places.valid i ≡ true) × NotFiniteAt kind t i

-- "missing exactly when .. Otherwise it is NaN if ..", over the places from s up to e
pub record FigureRow (kind : Kind) (t : Given kind) (s e min_periods ddof : ℕ) (a : Answer) : Type 0 where
  pub byte-is : (a.byte ≡ 0) ⊎ (a.byte ≡ 1)
  pub missing : (a.byte ≡ 0) ↔ TooFew kind t s e min_periods ddof
  pub not_finite : a.byte ≡ 1 → SomeNotFinite kind t s e → a.double ≡ nan

-- "variance is missing exactly when .. Otherwise it is NaN if .., else NaN or at least zero"
pub record VarianceRow (t : Trace) (s e min_periods ddof : ℕ) (a : Answer) : Type 0 where
  pub figure : FigureRow Readings t s e min_periods ddof a
  pub not-below : a.byte ≡ 1 → (is_nan a.double ≡ true) ⊎ (le zero64 a.double ≡ true)

-- of row k's first answer something is said
pub record FirstAnswer (Said : Answer → Type 0) (k : ℕ) (l : Lent) : Type 0 where
  pub answer : Answer
  pub others : List Answer
  pub stands : answers_in l.outputs.answers k ≡ answer ∷ others
  pub row : Said answer

-- row k's first answer is such a variance
abbrev pub VarianceIn : Trace → Plan → ℕ → ℕ → ℕ → Lent → Type 0
VarianceIn t p min_periods ddof k l = FirstAnswer (VarianceRow t (row_start p k) (row_end p k) min_periods ddof) k l

-- "A setting is .. what the figure's `finalize` takes beside the state (ddof; ..). ddof is a byte."
abbrev pub IsSetting : Statistic → Type 0
IsSetting (Variance ddof) = ddof < 256
IsSetting (Skewness bias) = Unit {0}
IsSetting (Kurtosis fisher bias) = Unit {0}
IsSetting (Covariance ddof) = ddof < 256
IsSetting Correlation = Unit {0}

-- what is said of a variance, by what is asked
abbrev pub WhereVariance : (a : Statistic) → Given (kind_of a) → Plan → ℕ → ℕ → Lent → Type 0
WhereVariance (Variance ddof) t p min_periods k l = VarianceIn t p min_periods ddof k l
WhereVariance (Skewness bias) t p min_periods k l = Unit {0}
WhereVariance (Kurtosis fisher bias) t p min_periods k l = Unit {0}
WhereVariance (Covariance ddof) t p min_periods k l = Unit {0}
WhereVariance Correlation t p min_periods k l = Unit {0}

-- "each row's answer is the one that document 01's split account yields"
abbrev pub ByAccount : (q : Query) → GivenTo q → Lent → ℕ → Type 0
ByAccount q t l k = figures_in q.statistic l k ≡ answers_at (figures_of q t) k

-- row k of a call that leaves l
pub record Yielded (q : Query) (t : GivenTo q) (l : Lent) (k : ℕ) : Type 0 where
  pub account : ByAccount q t l k
  -- "There variance is .."
  pub variance : WhereVariance q.statistic t q.plan q.min_periods k l

-- "one statement about a whole plan, from its first row to its last", for any accepted calls, fixed windows' too, whose plan is their
-- bounds
pub record DemandThree : Type 0 where
  -- of two calls
  pub two : (q : Query) → OfOneTrace q.statistic → (t t' : GivenTo q) (l l' : Lent) → Alike (kind_of q.statistic) t t'
      → AcceptedCall q t l → AcceptedCall q t' l' → SameAnswers q t t' l l'
  -- of every call by itself
  pub one : (q : Query) → OfOneTrace q.statistic → (t : GivenTo q) (l : Lent) → IsSetting q.statistic → AcceptedCall q t l
      → (k : ℕ) → k < rows q.plan → Yielded q t l k
