-- Document 01, "Figures to reproduce": the cases marked P, in one table. Each case is a test that its figure, or its missing, is what the
-- public definitions give, and what the transcribed Rust gives; `every` says that all hold. Assumes nothing.
use Rattle.std.specs.Prelude.{ℕ, Bool, true, false, ◌&&◌, eqb, length, get_or, negsuc, Float}
use mathlib.Core.List.{List, [], ◌∷◌, foldl}
use Rattle.std.specs.Float.{nan, inf, binary64}
use Rattle.std.specs.Float.Ieee.{of_bits, to_bits, of_int}
use Rattle.float.specs.Operators.{zero64, one64, of_nat64}
use Rattle.root.specs.Root.{root}
use Rattle.trace.specs.Trace.{Trace, trace_of}
use Rattle.trace.specs.Refusals.{trace_refusal}
use Rattle.moment.specs.declared.var_state.VarState.{VarState}
use Rattle.moment.specs.declared.pearson_state.PearsonState.{PearsonState}
use Rattle.moment.specs.declared.skew_state.SkewState.{SkewState}
use Rattle.moment.specs.declared.kurtosis_state.KurtosisState.{KurtosisState}
use Rattle.moment.specs.declared.Figure.{Figure}
use Rattle.moment.specs.declared.Figure.TheVariants.{Missing}
use Rattle.moment.specs.Figure.{double_of, byte_of}
use Rattle.moment.specs.Var.{var_empty, var_insert, var_combine, var_finalize}
use Rattle.moment.specs.Pearson.{pearson_finalize}
use Rattle.moment.specs.Skew.{skew_finalize}
use Rattle.moment.specs.Kurtosis.{kurtosis_finalize}
use Rattle.moment.specs.Arrays.{answer_number, answer_members, pearson_list, pearson_answer, skew_list, skew_range}
use Rattle.moment.specs.Arrays.{kurtosis_list, kurtosis_range}
use Rattle.plan.specs.Plan.{Plan, plan_of, rows}
use Rattle.plan.specs.Refusals.{needed, plan_refusal}
use Rattle.rolling.specs.Moments.{Variance, work_width}
use Rattle.rolling.specs.Calls.{Query, query, yields}
use Rattle.promises.specs.Rust.{some_rust}
use Rattle.promises.specs.SourceStates.{VarState-default, VarState-insert_one, VarState-combine, VarState-finalize}
use Rattle.promises.specs.SourceStates.{PearsonState-finalize, SkewState-finalize, KurtosisState-finalize}
use Rattle.promises.specs.SourceRows.{plan_row}
use Rattle.promises.specs.Calls.{of_pearson, of_skew_range, of_kurtosis_range}
use Rattle.promises.specs.DemandTwo.{source_of, variance_moment}

-- two floats of the same bits, where every NaN is one value
abbrev pub same : Float → Float → Bool
same x y = eqb (to_bits binary64 x) (to_bits binary64 y)

-- a figure's byte and double in the paper's values
abbrev pub gives : Figure → ℕ → Float → Bool
gives figure byte x = eqb (byte_of figure) byte && same (double_of figure) x

-- all of a list of tests hold
unfoldable pub every : List Bool → Bool
every [] = true
every (b ∷ bs) = b && every bs

-- ---- states
-- a state of its members, as an accepted call hands them out
abbrev pub pearson_of : List Float → PearsonState
pearson_of l =
    record {
      weight = get_or l 0 nan;
      mean_x = get_or l 1 nan;
      mean_y = get_or l 2 nan;
      dp_xx = get_or l 3 nan;
      dp_xy = get_or l 4 nan;
      dp_yy = get_or l 5 nan;
    }

abbrev pub skew_of : List Float → SkewState
skew_of l = record { weight = get_or l 0 nan; mean = get_or l 1 nan; m2 = get_or l 2 nan; m3 = get_or l 3 nan }

abbrev pub kurtosis_of : List Float → KurtosisState
kurtosis_of l = record { weight = get_or l 0 nan; mean = get_or l 1 nan; m2 = get_or l 2 nan; m3 = get_or l 3 nan; m4 = get_or l 4 nan }

-- a variance state of ours, and the Rust's, with ddof
abbrev pub var_gives : VarState → VarState → ℕ → ℕ → Float → Bool
var_gives s rust ddof byte x = gives (var_finalize s ddof) byte x && gives (VarState-finalize rust ddof) byte x

-- 2 and 4 inserted, by us and by the Rust
abbrev pub two_inserted : VarState
two_inserted = foldl var_insert var_empty (of_nat64 2 ∷ of_nat64 4 ∷ [])

abbrev pub source_two_inserted : VarState
source_two_inserted = foldl VarState-insert_one VarState-default (of_nat64 2 ∷ of_nat64 4 ∷ [])

-- what P3 combines the empty state with
abbrev pub infinite_mean : VarState
infinite_mean = record { weight = one64; mean = inf false; dp = zero64 }

-- two traces without maps: the call is accepted, and the state that it leaves gives the correlation, as the Rust's does
abbrev pub pearson_gives : List Float → List Float → Float → Bool
pearson_gives xs ys r =
    let a = pearson_answer (trace_of xs false []) (trace_of ys false []) in
    eqb (answer_number a) 0
    && same (pearson_finalize (pearson_of (answer_members pearson_list a []))) r
    && same (PearsonState-finalize (pearson_of (source_of some_rust (of_pearson (trace_of xs false []) (trace_of ys false []))))) r

-- a trace without a map as one range: the call is accepted, and the state that it leaves gives the biased skewness, as the Rust's does
abbrev pub skew_gives : List Float → Float → Bool
skew_gives xs x =
    let a = skew_range (trace_of xs false []) 0 (length xs) in
    eqb (answer_number a) 0
    && gives (skew_finalize (skew_of (answer_members skew_list a [])) true) 1 x
    && gives (SkewState-finalize (skew_of (source_of some_rust (of_skew_range (trace_of xs false []) 0 (length xs)))) true) 1 x

-- the same of biased kurtosis
abbrev pub kurtosis_gives : List Float → Bool → Float → Bool
kurtosis_gives xs fisher x =
    let t = trace_of xs false [] in
    let a = kurtosis_range t 0 (length xs) in
    eqb (answer_number a) 0
    && gives (kurtosis_finalize (kurtosis_of (answer_members kurtosis_list a [])) fisher true) 1 x
    && gives (KurtosisState-finalize (kurtosis_of (source_of some_rust (of_kurtosis_range t 0 (length xs)))) fisher true) 1 x

-- ---- rows
-- a variance with ddof 1, of a plan and with a minimum
abbrev pub variance_by : Plan → ℕ → Query
variance_by p min_periods = query p min_periods (Variance 1)

-- a call for it with output lists and a work slice that are just long enough is accepted
abbrev pub accepted : Plan → Trace → Bool
accepted p t =
    eqb
    (plan_refusal (trace_refusal t) p (length t.readings) false (rows p) (work_width (Variance 1)) (needed (work_width (Variance 1)) p))
    0

-- row k of the first figure
abbrev pub figure_at : List (ℕ → Figure) → ℕ → Figure
figure_at [] k = Missing
figure_at (f ∷ fs) k = f k

-- row k by the split account, and by the source's own window
abbrev pub row_gives : Plan → ℕ → Trace → ℕ → ℕ → Float → Bool
row_gives p min_periods t k byte x =
    gives (figure_at (yields (variance_by p min_periods) t) k) byte x
    && gives (plan_row variance_moment some_rust (λ s. VarState-finalize s 1) t min_periods p k) byte x

-- ---- what P7, P8 and P9 ask, and of which trace
abbrev pub p7 : Plan
p7 = plan_of (0 ∷ 1 ∷ 3 ∷ []) (2 ∷ 3 ∷ 4 ∷ [])

abbrev pub trace7 : Trace
trace7 = trace_of (of_nat64 2 ∷ of_nat64 4 ∷ of_nat64 6 ∷ of_nat64 8 ∷ []) false []

abbrev pub p8 : Plan
p8 = plan_of (0 ∷ 1 ∷ []) (2 ∷ 3 ∷ [])

abbrev pub trace8 : Trace
trace8 = trace_of (nan ∷ of_nat64 4 ∷ of_nat64 6 ∷ []) false []

abbrev pub p9 : Plan
p9 = plan_of (0 ∷ []) (3 ∷ [])

abbrev pub trace9 : Trace
trace9 = trace_of (of_nat64 2 ∷ of_nat64 7 ∷ of_nat64 4 ∷ []) true (5 ∷ [])

-- P1 empty variance, ddof 0: missing. P2 insert 2, 4: ddof 0, 1, 2 gives 1, 2, missing. P3 empty combined with (weight 1,
-- mean infinity, dp 0): NaN at ddof 0. P4 Pearson of (1,2),(3,4): 1; of one pair: NaN. P5 range 0,0,0,0,5, biased skewness:
-- 1.5. P6 range 1,3, biased kurtosis: 1, less three (`fisher`) -2. P7 trace 2,4,6,8, rows (0,2),(1,3),(3,4), ddof 1, minimum 1:
-- 2, 2, missing. P8 trace NaN,4,6, rows (0,2),(1,3), ddof 1, minimum 1: NaN, 2. P9 trace 2,7,4, map byte 5, row (0,3), ddof 1:
-- minimum 2 gives 2, minimum 3 missing. P10 root of 2: 3FF6A09E667F3BCD; of 2^-1074: 2^-537.
unfoldable pub cases : List Bool
cases =
    var_gives var_empty VarState-default 0 0 zero64
    ∷ var_gives two_inserted source_two_inserted 0 1 (of_nat64 1)
    ∷ var_gives two_inserted source_two_inserted 1 1 (of_nat64 2)
    ∷ var_gives two_inserted source_two_inserted 2 0 zero64
    ∷ var_gives (var_combine var_empty infinite_mean) (VarState-combine VarState-default infinite_mean) 0 1 nan
    ∷ pearson_gives (of_nat64 1 ∷ of_nat64 3 ∷ []) (of_nat64 2 ∷ of_nat64 4 ∷ []) (of_nat64 1)
    ∷ pearson_gives (of_nat64 1 ∷ []) (of_nat64 2 ∷ []) nan
    ∷ skew_gives (of_nat64 0 ∷ of_nat64 0 ∷ of_nat64 0 ∷ of_nat64 0 ∷ of_nat64 5 ∷ []) (of_bits binary64 0x3FF8000000000000)
    ∷ kurtosis_gives (of_nat64 1 ∷ of_nat64 3 ∷ []) false (of_nat64 1)
    ∷ kurtosis_gives (of_nat64 1 ∷ of_nat64 3 ∷ []) true (of_int binary64 (negsuc 1))
    ∷ accepted p7 trace7
    ∷ row_gives p7 1 trace7 0 1 (of_nat64 2)
    ∷ row_gives p7 1 trace7 1 1 (of_nat64 2)
    ∷ row_gives p7 1 trace7 2 0 zero64
    ∷ accepted p8 trace8
    ∷ row_gives p8 1 trace8 0 1 nan
    ∷ row_gives p8 1 trace8 1 1 (of_nat64 2)
    ∷ accepted p9 trace9
    ∷ row_gives p9 2 trace9 0 1 (of_nat64 2)
    ∷ row_gives p9 3 trace9 0 0 zero64
    ∷ same (root (of_nat64 2)) (of_bits binary64 0x3FF6A09E667F3BCD)
    ∷ same (root (of_bits binary64 1)) (of_bits binary64 0x1E60000000000000)
    ∷ []
