-- Demand 2 for windows: an accepted call's answers are what the split account yields, and so are the source's rows; those of fixed
-- windows are the rows of a plan; a weighted call's answers are row by row the source's. Assumes nothing.
use Prim.Native.Nat.{ℕ, zero, suc, ◌^◌, ◌<◌, min}
use mathlib.Core.Path.{◌≡◌, refl, sym, ap, ◌∙◌, subst}
use mathlib.Core.Bool.{Bool, true, false}
use mathlib.Core.List.{List, [], ◌∷◌}
use native.Mathlib.Omega.{arith}
use lib.Dec.{T, lit≤}
use lib.ListN.{length}
use lib.Ieee.{Float, nan, inf, fin, binary64, fits, eq}
use borrow.Author.Tests.{le-leb}
use Rattle.float.specs.Operators.{zero64}
use Rattle.float.proofs.Counts.{zero_is}
use Rattle.root.specs.Root.{root}
use Rattle.root.proofs.Rounding.{root_is_nearest}
use Rattle.trace.specs.Trace.{Trace}
use Rattle.trace.specs.Refusals.{trace_refusal}
use Rattle.moment.specs.Var.{var_clear, var_combine, var_finalize}
use Rattle.moment.specs.Skew.{skew_clear, skew_combine, skew_biased, skew_finalize}
use Rattle.moment.specs.Cov.{cov_combine, cov_finalize}
use Rattle.moment.specs.Pearson.{pearson_combine, pearson_finalize}
use Rattle.moment.specs.Kurtosis.{kurtosis_clear, kurtosis_combine, kurtosis_finalize}
use Rattle.moment.specs.Arrays.{answer}
use Rattle.moment.specs.declared.Figure.{Figure}
use Rattle.moment.proofs.Weights.{at_zero}
use Rattle.plan.specs.Plan.{Plan, rows}
use Rattle.plan.specs.Bounds.{bounds}
use Rattle.plan.specs.Code.Accepted.{Planned}
use Rattle.plan.proofs.FixedWindows.{bounds-rows}
use Rattle.window.specs.Window.{Moment}
use Rattle.window.specs.Given.{Readings, Given, series_of, places_of, given_refusal}
use Rattle.window.specs.Outputs.{Column, Lent, of_figure, answers_in, answers_at}
use Rattle.window.proofs.Outputs.{◌then◌}
use Rattle.rolling.specs.Moments.{Statistic, Variance, Skewness, Kurtosis, Covariance, Correlation, variance, skewness, kurtosis}
use Rattle.rolling.specs.Moments.{kind_of, moment_of, finals_of}
use Rattle.rolling.specs.Calls.{Query, GivenTo, figures_by}
use Rattle.rolling.specs.Fixed.{fixed_query, CalledFixed}
use Rattle.rolling.proofs.Calls.{few_places}
use Rattle.weighted.specs.Weights.{total_of, CalledWeights}
use Rattle.weighted.proofs.WeightedRows.{weights-accepted}
use Rattle.moments.specs.Results.{StateResult}
use Rattle.promises.specs.SourceStates.{VarState-default, CovState-default, CovState-new, PearsonState-default, PearsonState-new}
use Rattle.promises.specs.SourceStates.{SkewState-default, SkewState-from_iter, KurtosisState-default, KurtosisState-from_iter}
use Rattle.promises.specs.SourceStates.{VarState-clear_zero_weight_nan, VarState-insert_one, VarState-combine, VarState-finalize}
use Rattle.promises.specs.SourceStates.{CovState-insert_one, CovState-combine, CovState-finalize}
use Rattle.promises.specs.SourceStates.{PearsonState-insert_one, PearsonState-combine, PearsonState-finalize}
use Rattle.promises.specs.SourceStates.{SkewState-clear_zero_weight_nan, SkewState-insert_one, SkewState-combine, SkewState-finalize}
use Rattle.promises.specs.SourceStates.{KurtosisState-clear_zero_weight_nan, KurtosisState-insert_one, KurtosisState-combine}
use Rattle.promises.specs.SourceStates.{KurtosisState-finalize}
use Rattle.promises.specs.Rust.{Rust}
use Rattle.promises.specs.SourceRows.{plan_row, row_of}
use Rattle.promises.specs.SourceFixed.{fixed_row}
use Rattle.promises.specs.SourceWeights.{rolling_var_weights}
use Rattle.promises.specs.Calls.{ArrayCall, of_var, of_skew, of_kurtosis, of_cov, of_pearson, of_skew_range, of_kurtosis_range}
use Rattle.promises.specs.Calls.{CallsArray, OfOneTrace, AcceptedCall, fixed_call}
use Rattle.promises.specs.DemandTwo.{StatesEqual, source_of, variance_moment, skew_moment, kurtosis_moment, source_rows}
use Rattle.promises.specs.DemandTwo.{source_fixed_rows, RowsEqual, FixedRowsEqual, CorrectRoot, DemandTwo}
use Rattle.promises.proofs.SourceStates.{var_new_lem, var_combine_lem, cov_new_lem, cov_combine_lem, pearson_new_lem, pearson_combine_lem}
use Rattle.promises.proofs.SourceStates.{skew_new_lem, skew_combine_lem, kurtosis_new_lem, kurtosis_combine_lem, kurtosis_finalize_lem}
use Rattle.promises.proofs.SourceArrays.{whole_array_lem, pair_arrays_lem, range_array}
use Rattle.promises.proofs.SourceRows.{Neutral, plan_row_lem}
use Rattle.promises.proofs.SourceFixed.{fixed_row_lem}
use Rattle.promises.proofs.SourceWeights.{weighted-row, weights_many}
use Rattle.promises.proofs.DemandOne.{taken}
use Rattle.promises.proofs.Accepted.{known, map_long, weights_row}

zero-zero : eq zero64 zero64 ≡ true
zero-zero = at_zero zero64 0 (lit≤ tt) zero_is

-- an empty state is never merged, so that a front that is empty need not be tested for
var_neutral : Neutral variance
unfolding var_combine
var_neutral s = rw zero-zero

skew_neutral : Neutral skewness
unfolding skew_combine
skew_neutral s = rw zero-zero

kurtosis_neutral : Neutral kurtosis
unfolding kurtosis_combine
kurtosis_neutral s = rw zero-zero

-- ---- states
states : StatesEqual
unfolding VarState-insert_one VarState-combine VarState-clear_zero_weight_nan VarState-finalize var_clear var_combine var_finalize
    CovState-insert_one CovState-combine CovState-finalize cov_combine cov_finalize PearsonState-insert_one PearsonState-combine
    PearsonState-finalize pearson_combine pearson_finalize SkewState-insert_one SkewState-combine SkewState-clear_zero_weight_nan
    SkewState-finalize skew_clear skew_combine skew_biased skew_finalize KurtosisState-insert_one KurtosisState-combine
    KurtosisState-clear_zero_weight_nan kurtosis_clear kurtosis_combine
states =
    record {
      var = λ s o x d. (refl, refl, refl);
      cov = λ s o x y d. (refl, refl, refl);
      pearson = λ s o x y. (refl, refl, refl);
      skew = λ s o x b. (refl, refl, refl);
      kurtosis = λ s o x f b. (refl, refl, sym (kurtosis_finalize_lem s f b));
    }

-- ---- whole arrays, pairs and ranges: an accepted call is refused by nothing and leaves the state of our definition, which is the source's
sourced-state : {S : Type 0} {list : S → List Float} {number : ℕ} {source s : S} {before after : List Float} → (number ≡ 0 → source ≡ s)
    → StateResult list (answer number s) before 0 after → after ≡ list source
sourced-state {list = list} same c = let k = taken _ _ refl c in k.1 ∙ ap list (sym (same k.0))

arrays : (rust : Rust) (a : ArrayCall) (before after : List Float) → CallsArray a before after 0 → after ≡ source_of rust a
arrays rust (of_var t) before after c = sourced-state (whole_array_lem VarState-default var_new_lem var_combine_lem rust t) c
arrays rust (of_skew t) before after c = sourced-state (whole_array_lem SkewState-default skew_new_lem skew_combine_lem rust t) c
arrays rust (of_kurtosis t) before after c = sourced-state (whole_array_lem KurtosisState-default kurtosis_new_lem kurtosis_combine_lem rust t) c
arrays rust (of_cov x y) before after c = sourced-state (pair_arrays_lem CovState-default CovState-new cov_new_lem cov_combine_lem rust x y) c
arrays rust (of_pearson x y) before after c = sourced-state (pair_arrays_lem PearsonState-default PearsonState-new pearson_new_lem pearson_combine_lem rust x y) c
arrays rust (of_skew_range t start len) before after c = sourced-state (range_array SkewState-from_iter skew_new_lem rust t start len) c
arrays rust (of_kurtosis_range t start len) before after c = sourced-state (range_array KurtosisState-from_iter kurtosis_new_lem rust t start len) c

-- ---- rows, by what is asked: the source's moments are ours
planned_row : (rust : Rust) (M : Moment Float) → Neutral M → (final : M.State → Figure) (t : Trace) → trace_refusal t ≡ 0
    → (min_periods widest : ℕ) (p : Plan) → Planned (length t.readings) widest p → (k : ℕ) → k < rows p
    → answers_at (figures_by M (final ∷ []) (series_of Readings t) min_periods p) k ≡ answers_at (plan_row M rust final t min_periods p ∷ []) k
planned_row rust M neutral final t g m w p o k h =
    ap of_figure (sym (plan_row_lem M rust neutral final t m w p o (few_places Readings t g) (map_long t g) k h)) then refl

sourced : (rust : Rust) (a : Statistic) (one : OfOneTrace a) (t : Given (kind_of a)) → given_refusal (kind_of a) t ≡ 0
    → (min_periods widest : ℕ) (p : Plan) → Planned (places_of (kind_of a) t) widest p
    → (k : ℕ) → k < rows p → answers_at (figures_by (moment_of a) (finals_of a) (series_of (kind_of a) t) min_periods p) k
    ≡ answers_at (source_rows rust a one t min_periods p) k
unfolding VarState-insert_one VarState-combine VarState-clear_zero_weight_nan VarState-finalize var_clear var_combine var_finalize
    SkewState-insert_one SkewState-combine SkewState-clear_zero_weight_nan SkewState-finalize skew_clear skew_combine skew_biased
    skew_finalize KurtosisState-insert_one KurtosisState-combine KurtosisState-clear_zero_weight_nan kurtosis_clear kurtosis_combine
sourced rust (Variance ddof) one t g m w p o k h = planned_row rust variance var_neutral (λ s. var_finalize s ddof) t g m w p o k h
sourced rust (Skewness bias) one t g m w p o k h = planned_row rust skewness skew_neutral (λ s. skew_finalize s bias) t g m w p o k h
sourced rust (Kurtosis fisher bias) one t g m w p o k h =
    planned_row rust kurtosis kurtosis_neutral (λ s. kurtosis_finalize s fisher bias) t g m w p o k h
    ∙ sym (λ i. answers_at (plan_row kurtosis rust (λ s. kurtosis_finalize_lem s fisher bias i) t m p ∷ []) k)
sourced rust (Covariance ddof) one t g m w p o k h = absurd one
sourced rust Correlation one t g m w p o k h = absurd one

-- a fixed row is the plan's row of the bounds, over any moment
module _ (rust : Rust) (min_periods : ℕ) (center : Bool) (size : ℕ) (fits : size < 2 ^ 64) where
  fixed-same : (M : Moment Float) (final : M.State → Figure) (t : Trace) → trace_refusal t ≡ 0 → (k : ℕ) → k < length t.readings
      → answers_at (plan_row M rust final t min_periods (bounds center size (length t.readings)) ∷ []) k
      ≡ answers_at (fixed_row M rust final t min_periods center size ∷ []) k
  fixed-same M final t g k h =
      ap of_figure (fixed_row_lem M rust final t min_periods center size k fits (few_places Readings t g) h) then refl

  fixed-sourced : (a : Statistic) (one : OfOneTrace a) (t : Given (kind_of a)) → given_refusal (kind_of a) t ≡ 0 → (k : ℕ)
      → k < places_of (kind_of a) t → answers_at (source_rows rust a one t min_periods (bounds center size (places_of (kind_of a) t))) k
      ≡ answers_at (source_fixed_rows rust a one t min_periods center size) k
  fixed-sourced (Variance ddof) one t g k h = fixed-same variance_moment (λ s. VarState-finalize s ddof) t g k h
  fixed-sourced (Skewness bias) one t g k h = fixed-same skew_moment (λ s. SkewState-finalize s bias) t g k h
  fixed-sourced (Kurtosis fisher bias) one t g k h = fixed-same kurtosis_moment (λ s. KurtosisState-finalize s fisher bias) t g k h
  fixed-sourced (Covariance ddof) one t g k h = absurd one
  fixed-sourced Correlation one t g k h = absurd one

plans : (rust : Rust) (q : Query) (one : OfOneTrace q.statistic) (t : GivenTo q) (l : Lent) → AcceptedCall q t l
    → RowsEqual rust q one t l
plans rust q one t l c k h =
    let a = known q t l c in
    a.figures k h ∙ sourced rust q.statistic one t a.given_is q.min_periods a.widest q.plan a.plan k h

-- a call with fixed windows is the plan call of its bounds
fixed : (rust : Rust) (center : Bool) (size min_periods : ℕ) (a : Statistic) (one : OfOneTrace a) (t : Given (kind_of a)) (l₀ l : Lent)
    → size < 2 ^ 64 → CalledFixed center size min_periods a t l₀ l 0 → FixedRowsEqual rust center size min_periods a one t l
fixed rust center size min_periods a one t l₀ l fits c k h =
    let q = fixed_query center size min_periods a t in
    let d = fixed_call c in
    plans rust q one t l d k (rw (bounds-rows center size (places_of (kind_of a) t)) h)
    ∙ fixed-sourced rust min_periods center size fits a one t (known q t l d).given_is k h

-- a weighted call's rows are the source's
weighted : (rust : Rust) (center : Bool) (size min_periods : ℕ) (weights : List Float) (t : Trace) (c₀ c : Column)
    → size < 2 ^ 64 → CalledWeights center size min_periods weights t c₀ c 0 → (k : ℕ) → k < length t.readings
    → answers_in (c ∷ []) k ≡ of_figure (row_of (rolling_var_weights rust t.readings size min_periods center weights) k) ∷ []
weighted rust center size min_periods weights t c₀ c fits d k h =
    let n = length t.readings in
    let a = weights-accepted size weights t c₀ d.number_is {total = total_of weights} refl in
    let s = weights_many (trace_refusal t) t.mapped n size (length weights) (total_of weights)
    (min (length c₀.doubles) (length c₀.bytes)) d.number_is in
    weights_row center size min_periods weights t c₀ c d k h
    ∙ (ap of_figure (sym (weighted-row rust center size min_periods weights t.readings fits a.few a.some s k h)) then refl)

-- the root of each sort of double
correct_root : (x : Float) → T (fits binary64 x) → CorrectRoot x (root x)
unfolding root
correct_root (fin false (suc m) e) h = root_is_nearest (fin false (suc m) e) (subst T (sym (le-leb 1 (suc m) (omega arith))) tt) h
correct_root (fin false zero e) h = refl
correct_root (fin true zero e) h = refl
correct_root (fin true (suc m) e) h = refl
correct_root (inf false) h = refl
correct_root (inf true) h = refl
correct_root nan h = refl

pub demand_two : DemandTwo
demand_two =
    record {
      states = states;
      arrays = arrays;
      plans = plans;
      fixed = fixed;
      weights = weighted;
      root_is = correct_root;
    }
