-- Document 02, request 2: "The two-trace statement is wanted for pairs of traces that agree inside the window." It is demand 3 with pairs
-- for readings. Take two pairs of traces of equal length that miss the same places, where a place is valid "when both traces have it", both
-- by "the rule for a map" or both not. Let each go through an accepted call for covariance or correlation, with the same plan, the same
-- setting and the same figure. Whatever the traces hold elsewhere, and whatever the work slices and output lists held before, at every row
-- in whose window both pairs hold the same bits at every valid place, both answers have the same bits. In every accepted call for one of
-- these figures, each row's answer is the one that "the split account" yields "with pairs for readings". There "Covariance is missing when
-- the valid count is at most ddof, correlation when it is 0; the minimum applies to both", and exactly then. Otherwise it is NaN if a valid
-- pair in the row's window has "a non-finite member". Assumes nothing.
use Rattle.std.specs.Prelude.{ℕ, ◌<◌}
use Rattle.plan.specs.Plan.{Plan, rows, row_start, row_end}
use Rattle.window.specs.Given.{Pairs, Given}
use Rattle.window.specs.Outputs.{Lent}
use Rattle.rolling.specs.Moments.{Statistic, Variance, Skewness, Kurtosis, Covariance, Correlation, kind_of}
use Rattle.rolling.specs.Calls.{Query, GivenTo}
use Rattle.promises.specs.Calls.{OfTwoTraces, AcceptedCall}
use Rattle.promises.specs.DemandThree.{Alike, SameAnswers, FigureRow, FirstAnswer, IsSetting, ByAccount}

-- row k's first answer is missing where the valid count is at most `few` or below the minimum, and exactly there; otherwise it is NaN if ..
abbrev pub PairFigureIn : Given Pairs → Plan → ℕ → ℕ → ℕ → Lent → Type 0
PairFigureIn t p min_periods few k l = FirstAnswer (FigureRow Pairs t (row_start p k) (row_end p k) min_periods few) k l

-- "Covariance is missing when the valid count is at most ddof, correlation when it is 0": at most 0
abbrev pub WherePairs : (a : Statistic) → Given (kind_of a) → Plan → ℕ → ℕ → Lent → Type 0
WherePairs (Variance ddof) t p min_periods k l = Unit {0}
WherePairs (Skewness bias) t p min_periods k l = Unit {0}
WherePairs (Kurtosis fisher bias) t p min_periods k l = Unit {0}
WherePairs (Covariance ddof) t p min_periods k l = PairFigureIn t p min_periods ddof k l
WherePairs Correlation t p min_periods k l = PairFigureIn t p min_periods 0 k l

-- row k of a call that leaves l
pub record PairYielded (q : Query) (t : GivenTo q) (l : Lent) (k : ℕ) : Type 0 where
  -- "The split account holds with pairs for readings"
  pub account : ByAccount q t l k
  -- "Covariance is missing when .., correlation when .."
  pub figure : WherePairs q.statistic t q.plan q.min_periods k l

-- one statement about a whole plan, as demand 3 is, for any accepted calls of two traces, fixed windows' too
pub record PairStatement : Type 0 where
  -- of two calls
  pub two : (q : Query) → OfTwoTraces q.statistic → (t t' : GivenTo q) (l l' : Lent) → Alike (kind_of q.statistic) t t'
      → AcceptedCall q t l → AcceptedCall q t' l' → SameAnswers q t t' l l'
  -- of every call by itself
  pub one : (q : Query) → OfTwoTraces q.statistic → (t : GivenTo q) (l : Lent) → IsSetting q.statistic → AcceptedCall q t l
      → (k : ℕ) → k < rows q.plan → PairYielded q t l k
