-- Demand 2: "For traces of up to 16,777,216 readings, any missing places and any accepted plan, every state and figure equals the Rust's
-- with the stand-ins that document 01 lists, save the empty trace on which the Rust panics and we give no rows, and the square root is
-- IEEE 754's correctly rounded one." The Rust is transcribed in the files Source*; what it defines for some arguments only is any `Rust`.
-- Document 02, request 2: "Demand 2 leaves out what the Rust lacks, here and below", which is rolling covariance and rolling correlation,
-- and a window's lowest and highest reading: of windows it speaks of the figures of one trace. Assumes nothing.
use Rattle.std.specs.Prelude.{ℕ, zero, suc, ◌^◌, ◌<◌, ◌≡◌, Bool, true, false, List, [], ◌∷◌, T, length, Float}
use Rattle.std.specs.Float.{nan, inf, fin, binary64}
use Rattle.std.specs.Float.Ieee.{fits}
use Rattle.root.specs.Root.{root, Nearest}
use Rattle.trace.specs.Trace.{Trace}
use Rattle.moment.specs.declared.var_state.VarState.{VarState}
use Rattle.moment.specs.declared.cov_state.CovState.{CovState}
use Rattle.moment.specs.declared.pearson_state.PearsonState.{PearsonState}
use Rattle.moment.specs.declared.skew_state.SkewState.{SkewState}
use Rattle.moment.specs.declared.kurtosis_state.KurtosisState.{KurtosisState}
use Rattle.moment.specs.declared.Figure.{Figure}
use Rattle.moment.specs.Var.{var_insert, var_combine, var_finalize}
use Rattle.moment.specs.Cov.{cov_insert, cov_combine, cov_finalize}
use Rattle.moment.specs.Pearson.{pearson_insert, pearson_combine, pearson_finalize}
use Rattle.moment.specs.Skew.{skew_insert, skew_combine, skew_finalize}
use Rattle.moment.specs.Kurtosis.{kurtosis_insert, kurtosis_combine, kurtosis_finalize}
use Rattle.moment.specs.Arrays.{var_list, cov_list, pearson_list, skew_list, kurtosis_list}
use Rattle.plan.specs.Plan.{Plan, rows}
use Rattle.window.specs.Window.{Moment}
use Rattle.window.specs.Given.{Given, places_of}
use Rattle.window.specs.Outputs.{Column, Lent, of_figure, answers_in, answers_at}
use Rattle.rolling.specs.Moments.{Statistic, Variance, Skewness, Kurtosis, Covariance, Correlation, kind_of}
use Rattle.rolling.specs.Calls.{Query, GivenTo}
use Rattle.rolling.specs.Fixed.{CalledFixed}
use Rattle.weighted.specs.Weights.{CalledWeights}
use Rattle.promises.specs.Rust.{Rust}
use Rattle.promises.specs.SourceStates.{VarState-default, VarState-new, VarState-insert_one, VarState-combine, VarState-finalize}
use Rattle.promises.specs.SourceStates.{CovState-default, CovState-new, CovState-insert_one, CovState-combine, CovState-finalize}
use Rattle.promises.specs.SourceStates.{PearsonState-default, PearsonState-new, PearsonState-insert_one, PearsonState-combine}
use Rattle.promises.specs.SourceStates.{PearsonState-finalize}
use Rattle.promises.specs.SourceStates.{SkewState-default, SkewState-from_iter, SkewState-new, SkewState-insert_one}
use Rattle.promises.specs.SourceStates.{SkewState-combine, SkewState-finalize}
use Rattle.promises.specs.SourceStates.{KurtosisState-default, KurtosisState-from_iter, KurtosisState-new}
use Rattle.promises.specs.SourceStates.{KurtosisState-insert_one, KurtosisState-combine, KurtosisState-finalize}
use Rattle.promises.specs.SourceArrays.{array_of, whole_array, pair_arrays, from_array}
use Rattle.promises.specs.SourceRows.{plan_row, row_of}
use Rattle.promises.specs.SourceFixed.{fixed_row}
use Rattle.promises.specs.SourceWeights.{rolling_var_weights}
use Rattle.promises.specs.Calls.{ArrayCall, of_var, of_skew, of_kurtosis, of_cov, of_pearson, of_skew_range, of_kurtosis_range}
use Rattle.promises.specs.Calls.{CallsArray}
use Rattle.promises.specs.Calls.{OfOneTrace, figures_in, AcceptedCall}

-- ---- states
-- "every state .. equals the Rust's": each method that a host can call, of any set of floats
pub record StatesEqual : Type 0 where
  pub var : (s o : VarState) (x : Float) (ddof : ℕ)
      → (var_insert s x ≡ VarState-insert_one s x)
      × (var_combine s o ≡ VarState-combine s o)
      × (var_finalize s ddof ≡ VarState-finalize s ddof)
  pub cov : (s o : CovState) (x y : Float) (ddof : ℕ)
      → (cov_insert s x y ≡ CovState-insert_one s x y)
      × (cov_combine s o ≡ CovState-combine s o)
      × (cov_finalize s ddof ≡ CovState-finalize s ddof)
  pub pearson : (s o : PearsonState) (x y : Float)
      → (pearson_insert s x y ≡ PearsonState-insert_one s x y)
      × (pearson_combine s o ≡ PearsonState-combine s o)
      × (pearson_finalize s ≡ PearsonState-finalize s)
  pub skew : (s o : SkewState) (x : Float) (bias : Bool)
      → (skew_insert s x ≡ SkewState-insert_one s x)
      × (skew_combine s o ≡ SkewState-combine s o)
      × (skew_finalize s bias ≡ SkewState-finalize s bias)
  pub kurtosis : (s o : KurtosisState) (x : Float) (fisher bias : Bool)
      → (kurtosis_insert s x ≡ KurtosisState-insert_one s x)
      × (kurtosis_combine s o ≡ KurtosisState-combine s o)
      × (kurtosis_finalize s fisher bias ≡ KurtosisState-finalize s fisher bias)

-- ---- whole arrays, pairs and ranges: the members of the Rust's state
-- `var`, `skew`, `kurtosis`, `cov`, `pearson_corr`, `SkewState::from_array` and `KurtosisState::from_array`
abbrev pub source_of : Rust → ArrayCall → List Float
source_of rust (of_var t) = var_list (whole_array VarState-new VarState-combine VarState-default (array_of rust t))
source_of rust (of_skew t) = skew_list (whole_array SkewState-new SkewState-combine SkewState-default (array_of rust t))
source_of rust (of_kurtosis t) = kurtosis_list (whole_array KurtosisState-new KurtosisState-combine KurtosisState-default (array_of rust t))
source_of rust (of_cov x y) = cov_list (pair_arrays CovState-new CovState-combine CovState-default (array_of rust x) (array_of rust y))
source_of rust (of_pearson x y) =
    pearson_list (pair_arrays PearsonState-new PearsonState-combine PearsonState-default (array_of rust x) (array_of rust y))
source_of rust (of_skew_range t start len) = skew_list (from_array SkewState-from_iter rust (array_of rust t) start len)
source_of rust (of_kurtosis_range t start len) = kurtosis_list (from_array KurtosisState-from_iter rust (array_of rust t) start len)

-- ---- windows
-- 001, `VarianceMoment`, `SkewMoment` and `KurtosisMoment`, which forward to the states' own
abbrev pub variance_moment : Moment Float
variance_moment = record { State = VarState; empty = VarState-default; insert = VarState-insert_one; combine = VarState-combine }

abbrev pub skew_moment : Moment Float
skew_moment = record { State = SkewState; empty = SkewState-default; insert = SkewState-insert_one; combine = SkewState-combine }

abbrev pub kurtosis_moment : Moment Float
kurtosis_moment =
    record { State = KurtosisState; empty = KurtosisState-default; insert = KurtosisState-insert_one; combine = KurtosisState-combine }

-- what a driver gives over the moment of the figure that is asked; of two traces the Rust has no window, so there are no rows here
abbrev pub driven : ((M : Moment Float) → (M.State → Figure) → Trace → ℕ → Figure) → (a : Statistic) → OfOneTrace a → Given (kind_of a)
    → List (ℕ → Figure)
driven row (Variance ddof) one t = row variance_moment (λ s. VarState-finalize s ddof) t ∷ []
driven row (Skewness bias) one t = row skew_moment (λ s. SkewState-finalize s bias) t ∷ []
driven row (Kurtosis fisher bias) one t = row kurtosis_moment (λ s. KurtosisState-finalize s fisher bias) t ∷ []
driven row (Covariance ddof) one t = absurd one
driven row Correlation one t = absurd one

-- the rows of the Rust's `rolling_apply_agg_window`, driven with the plan's rows: 003 with a map, 002 without one
abbrev pub source_rows : Rust → (a : Statistic) → OfOneTrace a → Given (kind_of a) → ℕ → Plan → List (ℕ → Figure)
source_rows rust a one t min_periods p = driven (λ M final x. plan_row M rust final x min_periods p) a one t

-- the rows of the Rust's `rolling_var`, `rolling_skew` or `rolling_kurtosis`: "005 with a map, 004 without"
abbrev pub source_fixed_rows : Rust → (a : Statistic) → OfOneTrace a → Given (kind_of a) → ℕ → Bool → ℕ → List (ℕ → Figure)
source_fixed_rows rust a one t min_periods center size = driven (λ M final x. fixed_row M rust final x min_periods center size) a one t

-- "every .. figure equals the Rust's": of a call that leaves l, every row's answers
abbrev pub RowsEqual : Rust → (q : Query) → OfOneTrace q.statistic → GivenTo q → Lent → Type 0
RowsEqual rust q one t l =
    (k : ℕ) → k < rows q.plan
    → figures_in q.statistic l k ≡ answers_at (source_rows rust q.statistic one t q.min_periods q.plan) k

-- the same with fixed windows: the rows are the trace's places, so that the empty trace has none
abbrev pub FixedRowsEqual : Rust → Bool → ℕ → ℕ → (a : Statistic) → OfOneTrace a → Given (kind_of a) → Lent → Type 0
FixedRowsEqual rust center window_size min_periods a one t l =
    (k : ℕ) → k < places_of (kind_of a) t
    → figures_in a l k ≡ answers_at (source_fixed_rows rust a one t min_periods center window_size) k

-- the same with weights
abbrev pub WeightedRowsEqual : Rust → Bool → ℕ → ℕ → List Float → Trace → Column → Type 0
WeightedRowsEqual rust center window_size min_periods weights t c =
    (k : ℕ) → k < length t.readings
    → answers_in (c ∷ []) k ≡ of_figure (row_of (rolling_var_weights rust t.readings window_size min_periods center weights) k) ∷ []

-- ---- root
-- r is "IEEE 754's correctly rounded" root of x: "For a positive finite double, the double nearest the exact root, ties to even .. +0, -0
-- and plus infinity give themselves; numbers below zero, minus infinity too, and NaN give NaN." Of a root there is no tie: `Nearest`
-- says that every other double is further from it.
abbrev pub CorrectRoot : Float → Float → Type 0
CorrectRoot (fin false (suc m) e) r = Nearest (fin false (suc m) e) r
CorrectRoot (fin false zero e) r = r ≡ fin false zero e
CorrectRoot (fin true zero e) r = r ≡ fin true zero e
CorrectRoot (inf false) r = r ≡ inf false
CorrectRoot (fin true (suc m) e) r = r ≡ nan
CorrectRoot (inf true) r = r ≡ nan
CorrectRoot nan r = r ≡ nan

-- ---- the demand
pub record DemandTwo : Type 0 where
  pub states : StatesEqual
  -- "every state .. equals the Rust's": what an accepted call leaves
  pub arrays : (rust : Rust) (a : ArrayCall) (before after : List Float) → CallsArray a before after 0 → after ≡ source_of rust a
  -- plan calls and host calls, and fixed windows as the plan of their bounds: "The oracle drives the Rust window with the plan's rows"
  pub plans : (rust : Rust) (q : Query) (one : OfOneTrace q.statistic) (t : GivenTo q) (l : Lent) → AcceptedCall q t l
      → RowsEqual rust q one t l
  -- "Fixed windows (006, 004, 005)", of any size that is a `usize`
  pub fixed : (rust : Rust) (center : Bool) (window_size min_periods : ℕ) (a : Statistic) (one : OfOneTrace a) (t : Given (kind_of a))
      (l₀ l : Lent) → window_size < 2 ^ 64 → CalledFixed center window_size min_periods a t l₀ l 0
      → FixedRowsEqual rust center window_size min_periods a one t l
  -- "Weights (002, 004)"
  pub weights : (rust : Rust) (center : Bool) (window_size min_periods : ℕ) (weights : List Float) (t : Trace) (c₀ c : Column)
      → window_size < 2 ^ 64 → CalledWeights center window_size min_periods weights t c₀ c 0
      → WeightedRowsEqual rust center window_size min_periods weights t c
  -- "the square root", of every double
  pub root_is : (x : Float) → T (fits binary64 x) → CorrectRoot x (root x)
