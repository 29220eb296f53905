-- Document 01, "three sets of associated functions over one shared lemma": the three moments of windows. "`State`, `insert_one` and
-- `combine` of each moment forward to the state's own". Document 02, request 2: the two of pairs. What is asked of them, and what that
-- asks for. Assumes nothing.
use Rattle.std.specs.Prelude.{ℕ, Bool, cond, List, [], ◌∷◌, Float}
use Rattle.std.specs.Float.Ieee.{eq}
use Rattle.float.specs.Operators.{zero64}
use Rattle.moment.specs.declared.var_state.VarState.{VarState}
use Rattle.moment.specs.declared.skew_state.SkewState.{SkewState}
use Rattle.moment.specs.declared.kurtosis_state.KurtosisState.{KurtosisState}
use Rattle.moment.specs.declared.pearson_state.PearsonState.{PearsonState}
use Rattle.moment.specs.declared.Figure.{Figure}
use Rattle.moment.specs.declared.Figure.TheVariants.{Missing, Present}
use Rattle.moment.specs.Var.{var_empty, var_insert, var_combine, var_finalize}
use Rattle.moment.specs.Skew.{skew_empty, skew_insert, skew_combine, skew_finalize}
use Rattle.moment.specs.Kurtosis.{kurtosis_empty, kurtosis_insert, kurtosis_combine, kurtosis_finalize}
use Rattle.moment.specs.Cov.{cov_empty, cov_new, cov_combine, cov_finalize}
use Rattle.moment.specs.Pearson.{pearson_empty, pearson_new, pearson_combine, pearson_finalize}
use Rattle.window.specs.Window.{Moment}
use Rattle.window.specs.Given.{Kind, Readings, Pairs, Entry}

-- 001, `VarianceMoment`
abbrev pub variance : Moment Float
variance = record { State = VarState; empty = var_empty; insert = var_insert; combine = var_combine }

-- 001, `SkewMoment`
abbrev pub skewness : Moment Float
skewness = record { State = SkewState; empty = skew_empty; insert = skew_insert; combine = skew_combine }

-- 001, `KurtosisMoment`
abbrev pub kurtosis : Moment Float
kurtosis = record { State = KurtosisState; empty = kurtosis_empty; insert = kurtosis_insert; combine = kurtosis_combine }

-- A moment of pairs: "inserting a pair is combining the state, as the first, with the one `new` makes of that pair"
abbrev pub pair_moment : {S : Type 0} → S → (List (Float × Float) → S) → (S → S → S) → Moment (Float × Float)
pair_moment {S} empty new combine = record { State = S; empty = empty; insert = λ s p. combine s (new (p ∷ [])); combine = combine }

-- "rolling covariance"
abbrev pub covariance : Moment (Float × Float)
covariance = pair_moment cov_empty cov_new cov_combine

-- "and rolling correlation"
abbrev pub correlation : Moment (Float × Float)
correlation = pair_moment pearson_empty pearson_new pearson_combine

-- "Covariance is missing when the valid count is at most ddof, correlation when it is 0": the weight is the valid count. A `finalize` that
-- is NaN is present
abbrev pub correlation_finalize : PearsonState → Figure
correlation_finalize s = cond (eq s.weight zero64) Missing (Present (pearson_finalize s))

-- Which figure is asked, with "what the figure's `finalize` takes beside the state (ddof; biased or not; `fisher`)"
pub data Statistic : Type 0 where
  Variance : (ddof : ℕ) → Statistic
  Skewness : (bias : Bool) → Statistic
  Kurtosis : (fisher bias : Bool) → Statistic
  Covariance : (ddof : ℕ) → Statistic
  Correlation : Statistic

-- the kind of its entries
abbrev pub kind_of : Statistic → Kind
kind_of (Variance ddof) = Readings
kind_of (Skewness bias) = Readings
kind_of (Kurtosis fisher bias) = Readings
kind_of (Covariance ddof) = Pairs
kind_of Correlation = Pairs

-- which moment keeps its states
abbrev pub moment_of : (a : Statistic) → Moment (Entry (kind_of a))
moment_of (Variance ddof) = variance
moment_of (Skewness bias) = skewness
moment_of (Kurtosis fisher bias) = kurtosis
moment_of (Covariance ddof) = covariance
moment_of Correlation = correlation

-- 001, `finalize` of each moment: one for each figure that the call gives
abbrev pub finals_of : (a : Statistic) → List ((moment_of a).State → Figure)
finals_of (Variance ddof) = (λ s. var_finalize s ddof) ∷ []
finals_of (Skewness bias) = (λ s. skew_finalize s bias) ∷ []
finals_of (Kurtosis fisher bias) = (λ s. kurtosis_finalize s fisher bias) ∷ []
finals_of (Covariance ddof) = (λ s. cov_finalize s ddof) ∷ []
finals_of Correlation = correlation_finalize ∷ []

-- Work slice: "skewness 5, kurtosis 6 doubles", "6 doubles for covariance and 8 for correlation", and of request 4 "work becomes 6 doubles
-- a place for variance"
abbrev pub work_width : Statistic → ℕ
work_width (Variance ddof) = 6
work_width (Skewness bias) = 5
work_width (Kurtosis fisher bias) = 6
work_width (Covariance ddof) = 6
work_width Correlation = 8
