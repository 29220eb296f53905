-- Document 02, request 4: "Rolling variance without weights shall also give, each as one double and one byte, the lowest and highest finite
-- valid reading of the window, a zero of either sign as +0.0, both missing when there is none. They are given also where the variance is
-- missing, except in a row without a map that is shorter than the minimum, where both are missing." What is said is of the window's places
-- alone: neither the account, nor a 0.0 that is entered for a bad reading, nor a reading that has left the window can show. Assumes
-- nothing.
use Rattle.std.specs.Prelude.{ℕ, ◌-◌, ◌≤◌, ◌<◌, ◌≡◌, Bool, true, false, cond, [], ◌∷◌, ◌⊎◌, ◌↔◌, T, Float}
use Rattle.std.specs.Float.{binary64}
use Rattle.std.specs.Float.Ieee.{fits, eq}
use Rattle.std.specs.Float.Ieee.Scale.{finite}
use Rattle.float.specs.Operators.{zero64}
use Rattle.trace.specs.Trace.{Trace, valid_at}
use Rattle.plan.specs.Plan.{Plan, rows, row_start, row_end}
use Rattle.window.specs.Readings.{reading_of}
use Rattle.window.specs.Given.{Given}
use Rattle.window.specs.Extremes.{lower, higher, unsigned_zero}
use Rattle.window.specs.Outputs.{Lent, Answer, answers_in}
use Rattle.rolling.specs.Moments.{Statistic, Variance, Skewness, Kurtosis, Covariance, Correlation, kind_of}
use Rattle.rolling.specs.Calls.{Query, GivenTo}
use Rattle.promises.specs.Calls.{extremes_in, AcceptedCall}
use Rattle.promises.specs.DemandThree.{Alike, Agree}

-- place i is in the window from s up to e and holds a "finite valid reading"
pub record FiniteIn (t : Trace) (s e i : ℕ) : Type 0 where
  pub from : s ≤ i
  pub below : i < e
  pub valid : valid_at t.mapped t.map i ≡ true
  pub is_finite : finite (reading_of t.readings i) ≡ true

-- "a row without a map that is shorter than the minimum"
pub record Short (t : Trace) (s e min_periods : ℕ) : Type 0 where
  pub without : t.mapped ≡ false
  pub shorter : e - s < min_periods

-- x is "the lowest" or the "highest finite valid reading of the window, a zero of either sign as +0.0": it is one of them, and none is
-- beyond it
pub record IsExtreme (beyond : Float → Float → Bool) (t : Trace) (s e : ℕ) (x : Float) : Type 0 where
  pub place : ℕ
  pub stands : FiniteIn t s e place
  pub is : x ≡ unsigned_zero (reading_of t.readings place)
  pub none_beyond : (i : ℕ) → FiniteIn t s e i → beyond (reading_of t.readings i) (reading_of t.readings place) ≡ false

-- the answer of a row from s up to e
pub record ExtremeRow (beyond : Float → Float → Bool) (t : Trace) (s e min_periods : ℕ) (a : Answer) : Type 0 where
  pub byte-is : (a.byte ≡ 0) ⊎ (a.byte ≡ 1)
  -- "missing when there is none .. except in a row without a map that is shorter than the minimum, where both are missing"
  pub present : (a.byte ≡ 1) ↔ (((i : ℕ) × FiniteIn t s e i) × (¬ Short t s e min_periods))
  -- "a missing row's double is +0.0"
  pub missing : a.byte ≡ 0 → a.double ≡ zero64
  pub extreme : a.byte ≡ 1 → IsExtreme beyond t s e a.double

-- row k's three answers: the variance, and behind it "the lowest and highest"
pub record ExtremesIn (t : Trace) (p : Plan) (min_periods k : ℕ) (l : Lent) : Type 0 where
  pub variance : Answer
  pub lowest : Answer
  pub highest : Answer
  pub stand : answers_in l.outputs.answers k ≡ variance ∷ lowest ∷ highest ∷ []
  pub lowest_is : ExtremeRow lower t (row_start p k) (row_end p k) min_periods lowest
  pub highest_is : ExtremeRow higher t (row_start p k) (row_end p k) min_periods highest

-- by what is asked: of other figures nothing is said
abbrev pub WhereExtremes : (a : Statistic) → Given (kind_of a) → Plan → ℕ → ℕ → Lent → Type 0
WhereExtremes (Variance ddof) t p min_periods k l = ExtremesIn t p min_periods k l
WhereExtremes (Skewness bias) t p min_periods k l = Unit {0}
WhereExtremes (Kurtosis fisher bias) t p min_periods k l = Unit {0}
WhereExtremes (Covariance ddof) t p min_periods k l = Unit {0}
WhereExtremes Correlation t p min_periods k l = Unit {0}

-- what demand 3 says of figures, of the lowest and highest: at every row in whose window both traces hold the same bits at every valid
-- place
abbrev pub SameExtremes : (q : Query) (t t' : GivenTo q) → Lent → Lent → Type 0
SameExtremes q t t' l l' =
    (k : ℕ) → k < rows q.plan → Agree (kind_of q.statistic) t t' (row_start q.plan k) (row_end q.plan k)
    → extremes_in q.statistic l k ≡ extremes_in q.statistic l' k

-- for any accepted calls, fixed windows' too, whose plan is their bounds
pub record LowestHighest : Type 0 where
  -- of every call by itself
  pub one : (q : Query) (t : GivenTo q) (l : Lent) → AcceptedCall q t l → (k : ℕ) → k < rows q.plan
      → WhereExtremes q.statistic t q.plan q.min_periods k l
  -- of two calls
  pub two : (q : Query) (t t' : GivenTo q) (l l' : Lent) → Alike (kind_of q.statistic) t t' → AcceptedCall q t l → AcceptedCall q t' l'
      → SameExtremes q t t' l l'
  -- "a zero of either sign as +0.0", and every other finite double as it is. `fits` says that x is a double, as every f64 is: a float of
  -- the logic need not be one
  pub unsigned : (x : Float) → T (fits binary64 x) → finite x ≡ true → unsigned_zero x ≡ cond (eq x zero64) zero64 x
