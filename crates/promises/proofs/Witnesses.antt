-- Each hypothesis of demands 2 and 3 is met, by computation: accepted calls of every kind and of every figure, traces that are alike and
-- agree in one row's window, rows of every sort. And what would be said too much: where a hypothesis of demand 3 is left out or
-- weakened, two accepted calls give other bits. Assumes nothing.
use Prim.Native.Nat.{ℕ, zero, suc, ◌+◌, ◌-◌, ◌%◌, ◌^◌, ◌≤◌, ◌<◌}
use mathlib.Core.Path.{◌≡◌, refl, sym, ap, ◌∙◌}
use mathlib.Core.Bool.{Bool, true, false, not, cond, ◌&&◌}
use mathlib.Core.List.{List, [], ◌∷◌}
use mathlib.Core.Logic.{inl, inr, ⊎_elim}
use native.Mathlib.Omega.{arith}
use lib.Dec.{T, leb, eqb, lit≤}
use lib.Ieee.Scale.{finite}
use borrow.Author.Tests.{le-leb}
use lib.ListN.{length}
use lib.Ieee.{Float, nan, is_nan, fits, binary64, of_bits, to_bits, of_int, add, sub, mul, div, eq, lt, le}
use Rattle.float.specs.Operators.{zero64, one64, two64, of_nat64}
use Rattle.float.specs.Tables.{table}
use Rattle.float.proofs.Cases.{apart}
use Rattle.root.specs.Root.{root}
use Rattle.trace.specs.Trace.{Trace, trace_of, valid_at}
use Rattle.trace.specs.Refusals.{refusal, ◌or_else◌, wrong_map}
use Rattle.moment.specs.Var.{var_clear, var_combine, var_finalize}
use Rattle.moment.specs.Skew.{skew_clear, skew_combine, skew_biased, skew_finalize}
use Rattle.moment.specs.Kurtosis.{kurtosis_clear, kurtosis_combine, kurtosis_biased, kurtosis_finalize}
use Rattle.plan.specs.Plan.{Plan, plan_of, rows, row_start, row_end}
use Rattle.plan.specs.Bounds.{bounds}
use Rattle.plan.specs.Refusals.{needed, plan_refusal, fixed_refusal}
use Rattle.window.specs.Places.{entries_from}
use Rattle.window.specs.Window.{split_after, figure_of}
use Rattle.window.specs.Readings.{inserted_at, nonfinite_at, reading_of}
use Rattle.window.specs.Given.{Readings, SameAt}
use Rattle.window.specs.Rows.{answer_at}
use Rattle.window.specs.Extremes.{lower, higher, extreme, extreme_of, extreme_at}
use Rattle.window.specs.Outputs.{Column, Lent, column, outputs_of, filled, kept, column_after, answered, numbered, Answer}
use Rattle.window.specs.Outputs.{answers_at}
use Rattle.rolling.specs.Moments.{Variance, Skewness, Kurtosis, work_width}
use Rattle.rolling.specs.Calls.{Query, query, GivenTo, figures_of, yields, tallies, Left, Called}
use Rattle.rolling.specs.Fixed.{fixed_query, CalledFixed}
use Rattle.weighted.specs.Weights.{weighted_at, weights_refusal, CalledWeights}
use Rattle.moments.specs.HostCall.{CalledBytes}
use Rattle.promises.specs.Rust.{Rust, some_rust}
use Rattle.promises.specs.Calls.{figures_in, AcceptedCall, plan_call, host_call, fixed_call}
use Rattle.promises.specs.DemandTwo.{RowsEqual, FixedRowsEqual, WeightedRowsEqual, CorrectRoot}
use Rattle.promises.specs.DemandThree.{Alike, Agree, TooFew, SomeNotFinite, FigureRow, VarianceRow, VarianceIn, Yielded}
use Rattle.promises.specs.Table.{variance_by, p7, trace7, p8, trace8, p9, trace9}
use Rattle.promises.proofs.FigureRows.{missing_row}
use Rattle.promises.proofs.Spans.{each_place}
use Rattle.promises.proofs.DemandTwo.{demand_two}
use Rattle.promises.proofs.TwoCalls.{SameMoves, both_or_neither, none_shorter, SameRow, same_moves_same_row}
use Rattle.promises.proofs.DemandThree.{demand_three}

-- ---- the lists that are lent
-- four places to each output list, each place with something in it
abbrev pub four_column : Column
four_column = column (table (λ i. one64) 4) (table (λ i. 7) 4)

-- the lists of one figure, and a work slice of zeros
abbrev pub lent : ℕ → Column → Lent
lent work c = record { outputs = outputs_of (c ∷ []) []; work = table (λ i. zero64) work }

abbrev pub four_lent : ℕ → Lent
four_lent work = lent work four_column

-- what is left of such lists
abbrev pub four_left : ℕ → List Float → List ℕ → Lent
four_left work figures present = lent work (column figures present)

-- the lists of a variance, its lowest and its highest reading, each as c
abbrev pub var_lent_of : ℕ → Column → Lent
var_lent_of work c = record { outputs = outputs_of (c ∷ c ∷ c ∷ []) []; work = table (λ i. zero64) work }

abbrev pub var_lent : ℕ → Lent
var_lent work = var_lent_of work four_column

-- What is left of such lists: the variances as they are written here, and the lowest and highest readings by their definition. They are
-- computed in proofs/ExtremeWitnesses
abbrev pub var_left_of : Column → ℕ → Trace → Plan → ℕ → List Float → List ℕ → Lent
var_left_of c work t p min_periods figures present =
    record {
      outputs = outputs_of
          (column figures present ∷ column_after 0 (extreme_at lower t min_periods p) (rows p) c
          ∷ column_after 0 (extreme_at higher t min_periods p) (rows p) c
          ∷ [])
          [];
      work = table (λ i. zero64) work;
    }

abbrev pub var_left : ℕ → Trace → Plan → ℕ → List Float → List ℕ → Lent
var_left = var_left_of four_column

-- what a call leaves, by equations that compute
pub leaves : {q : Query} {t : GivenTo q} {l₀ l : Lent} {number : ℕ} → length l₀.outputs.answers ≡ length (yields q t)
    → length l₀.outputs.counts ≡ length (tallies q t) → l.outputs.answers
    ≡ answered number (rows q.plan) (yields q t) l₀.outputs.answers
    → l.outputs.counts ≡ numbered number (rows q.plan) (tallies q t) l₀.outputs.counts
    → kept number (needed (work_width q.statistic) q.plan) l₀.work l.work → Left q t l₀ l number
leaves a b c d k =
    record {
      fits = record { answers = a; counts = b };
      written = record { answers_are = c; counts_are = d };
      work_kept = k;
    }

-- ---- `Called` and `AcceptedCall`: calls that are accepted
-- P7, which keeps what stands in the place past the last row
abbrev p7_left : Lent
p7_left = var_left 12 trace7 p7 1 (two64 ∷ two64 ∷ zero64 ∷ one64 ∷ []) (1 ∷ 1 ∷ 0 ∷ 7 ∷ [])

pub p7_accepted : Called (variance_by p7 1) trace7 (var_lent 12) p7_left 0
unfolding table refusal ◌or_else◌ wrong_map plan_refusal filled kept of_bits of_int add sub mul div eq lt le var_clear var_combine var_finalize
    entries_from split_after figure_of inserted_at nonfinite_at answer_at valid_at extreme extreme_of
p7_accepted = record { number_is = refl; left = leaves refl refl refl refl refl }

-- P8's readings as bytes: NaN, 4, 6
abbrev bytes8 : List ℕ
bytes8 =
    0 ∷ 0 ∷ 0 ∷ 0 ∷ 0 ∷ 0 ∷ 0xF8 ∷ 0x7F ∷ 0 ∷ 0 ∷ 0 ∷ 0 ∷ 0 ∷ 0 ∷ 0x10 ∷ 0x40 ∷ 0 ∷ 0 ∷ 0 ∷ 0 ∷ 0 ∷ 0 ∷ 0x18 ∷ 0x40 ∷ []

abbrev p8_left : Lent
p8_left = var_left 12 trace8 p8 1 (nan ∷ two64 ∷ one64 ∷ one64 ∷ []) (1 ∷ 1 ∷ 7 ∷ 7 ∷ [])

-- P8 as a host call, its three readings decoded before what stands behind them
pub p8_accepted : CalledBytes (variance_by p8 1) (record { bytes = bytes8; mapped = false; map = [] }) (table (λ i. one64) 4)
    (nan ∷ of_nat64 4 ∷ of_nat64 6 ∷ one64 ∷ []) (var_lent 12) p8_left 0
unfolding table refusal ◌or_else◌ wrong_map plan_refusal filled kept of_bits of_int add sub mul div eq lt le var_clear var_combine var_finalize
    entries_from split_after figure_of inserted_at nonfinite_at answer_at valid_at extreme extreme_of
p8_accepted = record { number_is = refl; readings_are = refl; left = leaves refl refl refl refl refl }

-- P9 with minimum 2
abbrev pub p9_left : Lent
p9_left = var_left 18 trace9 p9 2 (two64 ∷ one64 ∷ one64 ∷ one64 ∷ []) (1 ∷ 7 ∷ 7 ∷ 7 ∷ [])

pub p9_accepted : Called (variance_by p9 2) trace9 (var_lent 18) p9_left 0
unfolding table refusal ◌or_else◌ wrong_map plan_refusal filled kept of_bits of_int add sub mul div eq lt le var_clear var_combine var_finalize
    entries_from split_after figure_of inserted_at nonfinite_at answer_at valid_at extreme extreme_of
p9_accepted = record { number_is = refl; left = leaves refl refl refl refl refl }

-- "Trailing window 2, minimum 1, trace 1,3", with ddof 1: row 0 has one place, and so no figure
abbrev pub trace13 : Trace
trace13 = trace_of (of_nat64 1 ∷ of_nat64 3 ∷ []) false []

pub trailing_accepted : CalledFixed false 2 1 (Variance 1) trace13 (var_lent 12)
    (var_left 12 trace13 (plan_of (0 ∷ 0 ∷ []) (1 ∷ 2 ∷ [])) 1 (zero64 ∷ two64 ∷ one64 ∷ one64 ∷ []) (0 ∷ 1 ∷ 7 ∷ 7 ∷ [])) 0
unfolding table refusal ◌or_else◌ wrong_map plan_refusal bounds fixed_refusal filled kept of_bits of_int add sub mul div eq lt le var_clear
    var_combine var_finalize entries_from split_after figure_of inserted_at nonfinite_at answer_at valid_at extreme extreme_of
trailing_accepted =
    record { number_is = refl; plan_call = record { number_is = refl; left = leaves refl refl refl refl refl } }

-- trailing window 3 over 2, 4, 9
abbrev trace249 : Trace
trace249 = trace_of (of_nat64 2 ∷ of_nat64 4 ∷ of_nat64 9 ∷ []) false []

abbrev left249 : Lent
left249 = var_left 18 trace249 (plan_of (0 ∷ 0 ∷ 0 ∷ []) (1 ∷ 2 ∷ 3 ∷ [])) 1 (zero64 ∷ two64 ∷ of_nat64 13 ∷ one64 ∷ []) (0 ∷ 1 ∷ 1 ∷ 7 ∷ [])

pub trailing3_accepted : CalledFixed false 3 1 (Variance 1) trace249 (var_lent 18) left249 0
unfolding table refusal ◌or_else◌ wrong_map plan_refusal bounds fixed_refusal filled kept of_bits of_int add sub mul div eq lt le var_clear
    var_combine var_finalize entries_from split_after figure_of inserted_at nonfinite_at answer_at valid_at extreme extreme_of
trailing3_accepted =
    record { number_is = refl; plan_call = record { number_is = refl; left = leaves refl refl refl refl refl } }

-- 0, 0, 0, 0, 5 in one row: skewness 1.5, kurtosis 3.25
abbrev trace5 : Trace
trace5 = trace_of (of_nat64 0 ∷ of_nat64 0 ∷ of_nat64 0 ∷ of_nat64 0 ∷ of_nat64 5 ∷ []) false []

abbrev p5 : Plan
p5 = plan_of (0 ∷ []) (5 ∷ [])

abbrev skew_left : Lent
skew_left = four_left 25 (of_bits binary64 0x3FF8000000000000 ∷ one64 ∷ one64 ∷ one64 ∷ []) (1 ∷ 7 ∷ 7 ∷ 7 ∷ [])

abbrev kurtosis_left : Lent
kurtosis_left = four_left 30 (of_bits binary64 0x400A000000000000 ∷ one64 ∷ one64 ∷ one64 ∷ []) (1 ∷ 7 ∷ 7 ∷ 7 ∷ [])

pub skewness_accepted : Called (query p5 1 (Skewness true)) trace5 (four_lent 25) skew_left 0
unfolding table refusal ◌or_else◌ wrong_map plan_refusal filled kept of_bits of_int add sub mul div eq lt le root skew_clear skew_combine
    skew_biased skew_finalize entries_from split_after figure_of inserted_at nonfinite_at answer_at valid_at extreme extreme_of
skewness_accepted = record { number_is = refl; left = leaves refl refl refl refl refl }

pub kurtosis_accepted : Called (query p5 1 (Kurtosis false true)) trace5 (four_lent 30) kurtosis_left 0
unfolding table refusal ◌or_else◌ wrong_map plan_refusal filled kept of_bits of_int add sub mul div eq lt le kurtosis_clear kurtosis_combine
    kurtosis_biased kurtosis_finalize entries_from split_after figure_of inserted_at nonfinite_at answer_at valid_at extreme extreme_of
kurtosis_accepted = record { number_is = refl; left = leaves refl refl refl refl refl }

-- an `AcceptedCall` by each entry and for each figure
pub plan_call_lem : AcceptedCall (variance_by p7 1) trace7 p7_left
plan_call_lem = plan_call p7_accepted

pub host_call_lem : AcceptedCall (variance_by p8 1) trace8 p8_left
unfolding table of_bits of_int
host_call_lem = host_call p8_accepted

-- that of a call with trailing windows is of the plan of its rows, each from the first place on
pub trailing_call : AcceptedCall (query (plan_of (0 ∷ 0 ∷ 0 ∷ []) (1 ∷ 2 ∷ 3 ∷ [])) 1 (Variance 1)) trace249 left249
unfolding table bounds
trailing_call = fixed_call trailing3_accepted

pub skewness_call : AcceptedCall (query p5 1 (Skewness true)) trace5 skew_left
skewness_call = plan_call skewness_accepted

pub kurtosis_call : AcceptedCall (query p5 1 (Kurtosis false true)) trace5 kurtosis_left
kurtosis_call = plan_call kurtosis_accepted

-- "Centred window 4, n = 5: row 0 (0,2), row 2 (0,4), row 4 (2,5)."
pub centred : bounds true 4 5 ≡ plan_of (0 ∷ 0 ∷ 0 ∷ 1 ∷ 2 ∷ []) (2 ∷ 3 ∷ 4 ∷ 5 ∷ 5 ∷ [])
unfolding table bounds
centred = refl

-- `CalledWeights`: "weights 1,1 give 0, 1; weights 1,0 give 0, 0, both present"
abbrev weights11_left : Column
weights11_left = column (zero64 ∷ one64 ∷ one64 ∷ one64 ∷ []) (1 ∷ 1 ∷ 7 ∷ 7 ∷ [])

pub weights11_accepted : CalledWeights false 2 1 (one64 ∷ one64 ∷ []) trace13 four_column weights11_left 0
unfolding table refusal ◌or_else◌ wrong_map weights_refusal weighted_at filled of_bits of_int add sub mul div eq
weights11_accepted = record { number_is = refl; column-is = refl }

pub weights10_accepted : CalledWeights false 2 1 (one64 ∷ zero64 ∷ []) trace13 four_column
    (column (zero64 ∷ zero64 ∷ one64 ∷ one64 ∷ []) (1 ∷ 1 ∷ 7 ∷ 7 ∷ [])) 0
unfolding table refusal ◌or_else◌ wrong_map weights_refusal weighted_at filled of_bits of_int add sub mul div eq
weights10_accepted = record { number_is = refl; column-is = refl }

-- ---- demand 2 said of such calls
-- `plans`, of a `Rust` that there is
pub plan_rows : RowsEqual some_rust (variance_by p7 1) tt trace7 p7_left
plan_rows = demand_two.plans some_rust _ tt _ _ plan_call_lem

-- `fixed` and `weights`, whose window size is a `usize`
pub fixed_rows : FixedRowsEqual some_rust false 3 1 (Variance 1) tt trace249 left249
fixed_rows = demand_two.fixed some_rust false 3 1 (Variance 1) tt trace249 _ left249 (lit≤ tt) trailing3_accepted

pub weights_rows : WeightedRowsEqual some_rust false 2 1 (one64 ∷ one64 ∷ []) trace13 weights11_left
weights_rows = demand_two.weights some_rust false 2 1 _ trace13 _ _ (lit≤ tt) weights11_accepted

-- `root_is`, of a double: 2
pub two_fits : T (fits binary64 two64)
unfolding fits of_bits
two_fits = tt

pub root_of_two : CorrectRoot two64 (root two64)
root_of_two = demand_two.root_is two64 two_fits

-- -0 is its own root, and no other's
pub minus_zero_root : CorrectRoot (of_bits binary64 0x8000000000000000) (of_bits binary64 0x8000000000000000)
unfolding of_bits
minus_zero_root = refl

-- a sum that passes a byte, of every `Rust`: row 255's end is 256
pub past_a_byte : (rust : Rust) → rust.plus 255 1 ≡ 256
past_a_byte rust = rust.plus_is 255 1 (lit≤ tt)

-- the last bit of a map, of every `Rust`
pub last_bit : (rust : Rust) → rust.bit (record { bytes = 5 ∷ []; bits = 3 }) 2 ≡ true
unfolding valid_at
last_bit rust = rust.bit_is (record { bytes = 5 ∷ []; bits = 3 }) 2 (lit≤ tt) (lit≤ tt)

-- sums that are known below a byte only say nothing of row 255's end
pub byte_sums : ((plus : ℕ → ℕ → ℕ) → ((a b : ℕ) → a + b < 2 ^ 8 → plus a b ≡ a + b) → plus 255 1 ≡ 256) → ⊥
byte_sums all =
    let z = all (λ a b. (a + b) % 256) (λ a b h. omega arith) in
    omega arith

-- a map whose last bit is not known says nothing of the last place
known_before : (i : ℕ) → i + 1 < 3 → cond (eqb i 2) false (valid_at true (5 ∷ []) i) ≡ valid_at true (5 ∷ []) i
known_before zero h = refl
known_before (suc zero) h = refl
known_before (suc (suc i)) h = absurd (omega arith)

pub last_bit_open : ((bit : ℕ → Bool) → ((i : ℕ) → i + 1 < 3 → bit i ≡ valid_at true (5 ∷ []) i) → bit 2 ≡ true) → ⊥
last_bit_open all = apart (all (λ i. cond (eqb i 2) false (valid_at true (5 ∷ []) i)) known_before)

-- ---- demand 3, of two calls
-- the first answer's double, by its bits, and its byte
abbrev pub first_bits : List Answer → ℕ
first_bits [] = 0
first_bits (a ∷ l) = to_bits binary64 a.double

abbrev first_byte : List Answer → ℕ
first_byte [] = 7
first_byte (a ∷ l) = a.byte

-- 9, 4, 6, 8: without a map, and other than P7's trace at place 0 only
abbrev pub other7 : Trace
other7 = trace_of (of_nat64 9 ∷ of_nat64 4 ∷ of_nat64 6 ∷ of_nat64 8 ∷ []) false []

abbrev other7_left : Lent
other7_left = var_left 12 other7 p7 1 (of_bits binary64 0x4029000000000000 ∷ two64 ∷ zero64 ∷ one64 ∷ []) (1 ∷ 1 ∷ 0 ∷ 7 ∷ [])

other7_accepted : Called (variance_by p7 1) other7 (var_lent 12) other7_left 0
unfolding table refusal ◌or_else◌ wrong_map plan_refusal filled kept of_bits of_int add sub mul div eq lt le var_clear var_combine var_finalize
    entries_from split_after figure_of inserted_at nonfinite_at answer_at valid_at extreme extreme_of
other7_accepted = record { number_is = refl; left = leaves refl refl refl refl refl }

-- `Alike`: two traces without a map that are not the same
pub alike7 : Alike Readings trace7 other7
alike7 = record { long = refl; places = λ i h. refl; mapped = refl }

-- `Agree`: they do in row 1's window, the places 1 and 2 ..
pub agree7 : Agree Readings trace7 other7 1 3
agree7 zero s e v = absurd (omega arith)
agree7 (suc zero) s e v = refl
agree7 (suc (suc zero)) s e v = refl
agree7 (suc (suc (suc i))) s e v = absurd (omega arith)

-- .. and not in row 0's
pub disagree7 : Agree Readings trace7 other7 0 2 → ⊥
unfolding valid_at of_bits to_bits of_int
disagree7 all =
    let bits : ◌≡◌ {A = ℕ} 0x4000000000000000 0x4022000000000000 = ap (to_bits binary64) (all 0 (omega arith) (omega arith) refl) in
    omega arith

-- so demand 3 says that row 1's answers are the same ..
pub same7 : figures_in (Variance 1) p7_left 1 ≡ figures_in (Variance 1) other7_left 1
same7 =
    demand_three.two (variance_by p7 1) tt trace7 other7 p7_left other7_left alike7 plan_call_lem (plan_call other7_accepted) 1 (omega arith)
    agree7

-- .. and row 0's are not
pub differ7 : figures_in (Variance 1) p7_left 0 ≡ figures_in (Variance 1) other7_left 0 → ⊥
unfolding of_bits to_bits
differ7 same =
    let bits : ◌≡◌ {A = ℕ} 0x4000000000000000 0x4029000000000000 = ap first_bits same in
    omega arith

-- Rows (0,3), (1,4). 2, 7, 4, 8 and 9, 5, 4, 8 with maps of one byte and of three that miss place 1, and differ in their spare bits: they
-- agree in row 1's window, whatever the missing place holds.
abbrev map_plan : Plan
map_plan = plan_of (0 ∷ 1 ∷ []) (3 ∷ 4 ∷ [])

abbrev mapped : Trace
mapped = trace_of (of_nat64 2 ∷ of_nat64 7 ∷ of_nat64 4 ∷ of_nat64 8 ∷ []) true (13 ∷ [])

abbrev other_mapped : Trace
other_mapped = trace_of (of_nat64 9 ∷ of_nat64 5 ∷ of_nat64 4 ∷ of_nat64 8 ∷ []) true (253 ∷ 0 ∷ 255 ∷ [])

abbrev mapped_left : Lent
mapped_left = var_left 18 mapped map_plan 1 (two64 ∷ of_nat64 8 ∷ one64 ∷ one64 ∷ []) (1 ∷ 1 ∷ 7 ∷ 7 ∷ [])

abbrev other_mapped_left : Lent
other_mapped_left = var_left 18 other_mapped map_plan 1 (of_bits binary64 0x4029000000000000 ∷ of_nat64 8 ∷ one64 ∷ one64 ∷ [])
    (1 ∷ 1 ∷ 7 ∷ 7 ∷ [])

mapped_accepted : Called (variance_by map_plan 1) mapped (var_lent 18) mapped_left 0
unfolding table refusal ◌or_else◌ wrong_map plan_refusal filled kept of_bits of_int add sub mul div eq lt le var_clear var_combine var_finalize
    entries_from split_after figure_of inserted_at nonfinite_at answer_at valid_at extreme extreme_of
mapped_accepted = record { number_is = refl; left = leaves refl refl refl refl refl }

other_mapped_accepted : Called (variance_by map_plan 1) other_mapped (var_lent 18) other_mapped_left 0
unfolding table refusal ◌or_else◌ wrong_map plan_refusal filled kept of_bits of_int add sub mul div eq lt le var_clear var_combine var_finalize
    entries_from split_after figure_of inserted_at nonfinite_at answer_at valid_at extreme extreme_of
other_mapped_accepted = record { number_is = refl; left = leaves refl refl refl refl refl }

places_alike : (i : ℕ) → i < 4 → valid_at true (13 ∷ []) i ≡ valid_at true (253 ∷ 0 ∷ 255 ∷ []) i
unfolding table valid_at
places_alike = each_place _ _ 4 refl

-- `Alike`, with maps of different length
pub alike_mapped : Alike Readings mapped other_mapped
alike_mapped = record { long = refl; places = places_alike; mapped = refl }

-- `Agree`, with maps
pub agree_mapped : Agree Readings mapped other_mapped 1 4
unfolding valid_at
agree_mapped zero s e v = absurd (omega arith)
agree_mapped (suc zero) s e v = apart v
agree_mapped (suc (suc zero)) s e v = refl
agree_mapped (suc (suc (suc zero))) s e v = refl
agree_mapped (suc (suc (suc (suc i)))) s e v = absurd (omega arith)

-- so row 1's answers are the same ..
pub same_mapped : figures_in (Variance 1) mapped_left 1 ≡ figures_in (Variance 1) other_mapped_left 1
same_mapped =
    demand_three.two (variance_by map_plan 1) tt mapped other_mapped mapped_left other_mapped_left alike_mapped (plan_call mapped_accepted)
    (plan_call other_mapped_accepted) 1 (omega arith) agree_mapped

-- .. and in row 0's window they do not agree, and its answers differ
pub disagree_mapped : Agree Readings mapped other_mapped 0 3 → ⊥
unfolding valid_at of_bits to_bits of_int
disagree_mapped all =
    let bits : ◌≡◌ {A = ℕ} 0x4000000000000000 0x4022000000000000 = ap (to_bits binary64) (all 0 (omega arith) (omega arith) refl) in
    omega arith

pub differ_mapped : figures_in (Variance 1) mapped_left 0 ≡ figures_in (Variance 1) other_mapped_left 0 → ⊥
unfolding of_bits to_bits
differ_mapped same =
    let bits : ◌≡◌ {A = ℕ} 0x4000000000000000 0x4029000000000000 = ap first_bits same in
    omega arith

-- ---- what is not enough for the same answers
-- demand 3's first part, of such a variance, with Enough for what it asks of two traces and a row
abbrev Claim : (Plan → Trace → Trace → ℕ → Type 0) → Type 0
Claim Enough =
    (p : Plan) (min_periods : ℕ) (t t' : Trace) (l l' : Lent) → AcceptedCall (variance_by p min_periods) t l
    → AcceptedCall (variance_by p min_periods) t' l' → (k : ℕ) → k < rows p → Enough p t t' k
    → figures_in (Variance 1) l k ≡ figures_in (Variance 1) l' k

-- demand 3 itself makes it with this
pub enough : Claim (λ p t t' k. Alike Readings t t' × Agree Readings t t' (row_start p k) (row_end p k))
enough p min_periods t t' l l' c c' k h e = demand_three.two (variance_by p min_periods) tt t t' l l' e.0 c c' k h e.1

-- the places past the first of row 0's window, P7
past_first : (i : ℕ) → 0 < i → i < 2 → valid_at false [] i ≡ true → reading_of trace7.readings i ≡ reading_of other7.readings i
past_first zero s e v = absurd (omega arith)
past_first (suc zero) s e v = refl
past_first (suc (suc i)) s e v = absurd (omega arith)

-- traces that agree but for the window's first place
pub first_place_counts :
    Claim
    (λ p t t' k.
    Alike Readings t t'
    × ((i : ℕ) → row_start p k < i → i < row_end p k → valid_at t.mapped t.map i ≡ true → SameAt Readings t t' i))
    → ⊥
first_place_counts all =
    differ7 (all p7 1 trace7 other7 p7_left other7_left plan_call_lem (plan_call other7_accepted) 0 (omega arith) (alike7, past_first))

-- traces that are alike, whatever they hold
pub readings_count : Claim (λ p t t' k. Alike Readings t t') → ⊥
readings_count all = differ7 (all p7 1 trace7 other7 p7_left other7_left plan_call_lem (plan_call other7_accepted) 0 (omega arith) alike7)

-- 2, 7, 4, 8 with a map of ones: other places are missing
abbrev full_map : Trace
full_map = trace_of (of_nat64 2 ∷ of_nat64 7 ∷ of_nat64 4 ∷ of_nat64 8 ∷ []) true (15 ∷ [])

abbrev full_left : Lent
full_left = var_left 18 full_map map_plan 1 (of_bits binary64 0x4019555555555555 ∷ of_bits binary64 0x4011555555555557 ∷ one64 ∷ one64 ∷ [])
    (1 ∷ 1 ∷ 7 ∷ 7 ∷ [])

full_accepted : Called (variance_by map_plan 1) full_map (var_lent 18) full_left 0
unfolding table refusal ◌or_else◌ wrong_map plan_refusal filled kept of_bits of_int add sub mul div eq lt le var_clear var_combine var_finalize
    entries_from split_after figure_of inserted_at nonfinite_at answer_at valid_at extreme extreme_of
full_accepted = record { number_is = refl; left = leaves refl refl refl refl refl }

-- traces of equal length, both with a map, that agree in the row's window and miss other places
pub places_count :
    Claim
    (λ p t t' k.
    (length t.readings ≡ length t'.readings) × (t.mapped ≡ t'.mapped) × Agree Readings t t' (row_start p k) (row_end p k))
    → ⊥
unfolding of_bits to_bits
places_count all =
    let same = all map_plan 1 mapped full_map mapped_left full_left (plan_call mapped_accepted) (plan_call full_accepted) 0 (omega arith)
    (refl, refl, λ i s e v. refl) in
    let bits : ◌≡◌ {A = ℕ} 0x4000000000000000 0x4019555555555555 = ap first_bits same in
    omega arith

-- Minimum 3, rows (0,0), (0,2), (1,4). Row 1 is too short: with a map it moves the window, and row 2 inserts reading 1 apart from
-- readings 2 and 3; without one it does not, and row 2 inserts all three in rising order.
abbrev short_row : Query
short_row = variance_by (plan_of (0 ∷ 0 ∷ 1 ∷ []) (0 ∷ 2 ∷ 4 ∷ [])) 3

abbrev ones : Trace
ones = trace_of (of_nat64 2 ∷ of_nat64 0 ∷ of_nat64 1 ∷ of_nat64 3 ∷ []) true (15 ∷ [])

abbrev no_map : Trace
no_map = trace_of (of_nat64 2 ∷ of_nat64 0 ∷ of_nat64 1 ∷ of_nat64 3 ∷ []) false []

-- the two calls' lists, which differ in one bit of row 2's double
abbrev ones_left : Lent
ones_left = var_left 18 ones short_row.plan 3 (zero64 ∷ zero64 ∷ of_bits binary64 0x4002AAAAAAAAAAAB ∷ one64 ∷ []) (0 ∷ 0 ∷ 1 ∷ 7 ∷ [])

abbrev no_map_left : Lent
no_map_left = var_left 18 no_map short_row.plan 3 (zero64 ∷ zero64 ∷ of_bits binary64 0x4002AAAAAAAAAAAA ∷ one64 ∷ []) (0 ∷ 0 ∷ 1 ∷ 7 ∷ [])

ones_accepted : Called short_row ones (var_lent 18) ones_left 0
unfolding table refusal ◌or_else◌ wrong_map plan_refusal filled kept of_bits of_int add sub mul div eq lt le var_clear var_combine var_finalize
    entries_from split_after figure_of inserted_at nonfinite_at answer_at valid_at extreme extreme_of
ones_accepted = record { number_is = refl; left = leaves refl refl refl refl refl }

no_map_accepted : Called short_row no_map (var_lent 18) no_map_left 0
unfolding table refusal ◌or_else◌ wrong_map plan_refusal filled kept of_bits of_int add sub mul div eq lt le var_clear var_combine var_finalize
    entries_from split_after figure_of inserted_at nonfinite_at answer_at valid_at extreme extreme_of
no_map_accepted = record { number_is = refl; left = leaves refl refl refl refl refl }

-- they miss the same places, namely none
ones_places : (i : ℕ) → i < 4 → valid_at true (15 ∷ []) i ≡ valid_at false [] i
unfolding table valid_at
ones_places = each_place _ _ 4 refl

-- without "both by a map or both without one": the traces hold the same readings and miss no place, and row 2's answers have other bits
pub ones_are_a_map :
    Claim
    (λ p t t' k.
    (length t.readings ≡ length t'.readings)
    × ((i : ℕ) → i < length t.readings → valid_at t.mapped t.map i ≡ valid_at t'.mapped t'.map i)
    × Agree Readings t t' (row_start p k) (row_end p k))
    → ⊥
unfolding of_bits to_bits
ones_are_a_map all =
    let same = all short_row.plan 3 ones no_map ones_left no_map_left (plan_call ones_accepted) (plan_call no_map_accepted) 2 (omega arith)
    (refl, ones_places, λ i s e v. refl) in
    let bits : ◌≡◌ {A = ℕ} 0x4002AAAAAAAAAAAB 0x4002AAAAAAAAAAAA = ap first_bits same in
    omega arith

-- `Alike` is said of none of these: traces of other lengths, that miss other places, with a map and without one
pub not_alike_long : Alike Readings trace13 trace249 → ⊥
not_alike_long a = let long : ◌≡◌ {A = ℕ} 2 3 = a.long in omega arith

pub not_alike_places : Alike Readings mapped full_map → ⊥
unfolding valid_at
not_alike_places a = apart (a.places 1 (omega arith))

pub not_alike_maps : Alike Readings no_map ones → ⊥
not_alike_maps a = apart a.mapped

-- ---- `SameMoves`, of a trace with a map and one without
-- P7's trace with a map of ones
abbrev ones7 : Trace
ones7 = trace_of trace7.readings true (15 ∷ [])

ones7_accepted : Called (variance_by p7 1) ones7 (var_lent 12) p7_left 0
unfolding table refusal ◌or_else◌ wrong_map plan_refusal filled kept of_bits of_int add sub mul div eq lt le var_clear var_combine var_finalize
    entries_from split_after figure_of inserted_at nonfinite_at answer_at valid_at extreme extreme_of
ones7_accepted = record { number_is = refl; left = leaves refl refl refl refl refl }

-- no row of P7 is shorter than the minimum
long_enough_lem : (j : ℕ) → 0 < j → j < 3 → 1 ≤ row_end p7 j - row_start p7 j
long_enough_lem zero s h = absurd (omega arith)
long_enough_lem (suc zero) s h = omega arith
long_enough_lem (suc (suc zero)) s h = omega arith
long_enough_lem (suc (suc (suc j))) s h = absurd (omega arith)

pub moves_by_length : SameMoves (variance_by p7 1) ones7 trace7 3
moves_by_length = none_shorter (variance_by p7 1) ones7 trace7 3 long_enough_lem

-- the same, computed row by row
pub moves_computed : SameMoves (variance_by p7 1) ones7 trace7 3
moves_computed zero h = refl
moves_computed (suc zero) h = refl
moves_computed (suc (suc zero)) h = refl
moves_computed (suc (suc (suc j))) h = absurd (omega arith)

-- `both_or_neither`, of two traces with maps
pub moves_by_maps : SameMoves (variance_by map_plan 1) mapped other_mapped 2
moves_by_maps = both_or_neither (variance_by map_plan 1) mapped other_mapped 2 refl

-- where they move the same windows, a map of ones gives what no map gives
pub ones_same : SameRow (Variance 1) 1 p7_left p7_left
ones_same =
    same_moves_same_row (variance_by p7 1) ones7 trace7 p7_left p7_left (plan_call ones7_accepted) (plan_call p7_accepted) ones_places 1
    (omega arith) (λ j h. moves_by_length j (omega arith)) (λ i s e v. refl)

-- ---- demand 3, of one call
-- `TooFew`: by ddof, by the minimum, and neither
pub few_by_ddof : TooFew Readings trace7 3 4 1 1
unfolding entries_from valid_at
few_by_ddof = inl (omega arith)

pub few_by_minimum : TooFew Readings trace9 0 3 3 1
unfolding entries_from valid_at
few_by_minimum = inr (omega arith)

pub not_few : TooFew Readings trace7 0 2 1 1 → ⊥
unfolding entries_from valid_at
not_few few = ⊎_elim (λ h. omega arith) (λ h. omega arith) few

-- a place from s on that is valid and holds what is not finite; where there is none below e, `SomeNotFinite` is not so
abbrev not_finite_from : Trace → ℕ → ℕ → Bool
not_finite_from t s i = leb s i && (valid_at t.mapped t.map i && not (finite (reading_of t.readings i)))

all_finite : (t : Trace) (s e : ℕ) → table (not_finite_from t s) e ≡ table (λ i. false) e → SomeNotFinite Readings t s e → ⊥
all_finite t s e h (i, low, high, v, f) =
    let there : not_finite_from t s i ≡ true = rw (le-leb s i low, v, f) in
    apart (sym (each_place (not_finite_from t s) (λ i. false) e h i high) ∙ there)

-- `SomeNotFinite`: P8's row 0, and not its row 1
pub nan_in_row : SomeNotFinite Readings trace8 0 2
unfolding valid_at
nan_in_row = (0, omega arith, omega arith, refl, refl)

pub finite_row : SomeNotFinite Readings trace8 1 3 → ⊥
unfolding table valid_at of_int
finite_row = all_finite trace8 1 3 refl

-- an answer of its parts
abbrev pub answer : Float → ℕ → Answer
answer double byte = record { double = double; byte = byte }

-- a row whose figure is there, of readings that are finite
finite_figure : {t : Trace} {s e min_periods ddof : ℕ} (x : Float) → ¬ TooFew Readings t s e min_periods ddof
    → ¬ SomeNotFinite Readings t s e → FigureRow Readings t s e min_periods ddof (answer x 1)
finite_figure x enough finite =
    record {
      byte-is = inr refl;
      missing = (λ z. absurd (omega arith), λ few. absurd (enough few));
      not_finite = λ b f. absurd (finite f);
    }

-- `VarianceRow`, computed: missing since the valid count is ddof, P7's row 2
pub ddof_row : VarianceRow trace7 3 4 1 1 (answer zero64 0)
unfolding entries_from valid_at
ddof_row =
    record {
      figure = missing_row (inl (omega arith));
      not-below = λ b. absurd (omega arith);
    }

-- missing since the valid count is below the minimum, P9 with minimum 3
pub minimum_row : VarianceRow trace9 0 3 3 1 (answer zero64 0)
unfolding entries_from valid_at
minimum_row =
    record {
      figure = missing_row (inr (omega arith));
      not-below = λ b. absurd (omega arith);
    }

-- present, its valid count the minimum, P9 with minimum 2
no_nan9 : SomeNotFinite Readings trace9 0 3 → ⊥
unfolding table valid_at of_int
no_nan9 = all_finite trace9 0 3 refl

pub least_row : VarianceRow trace9 0 3 2 1 (answer two64 1)
unfolding entries_from valid_at of_bits le
least_row =
    record {
      figure = finite_figure _ (λ few. ⊎_elim (λ h. omega arith) (λ h. omega arith) few) no_nan9;
      not-below = λ b. inr refl;
    }

-- NaN since a reading is, P8's row 0
pub nan_row : VarianceRow trace8 0 2 1 1 (answer nan 1)
unfolding entries_from valid_at is_nan
nan_row =
    record {
      figure = record {
        byte-is = inr refl;
        missing = (λ z. absurd (omega arith), λ few. absurd (⊎_elim (λ h. omega arith) (λ h. omega arith) few));
        not_finite = λ b f. refl;
      };
      not-below = λ b. inl refl;
    }

-- zero, of 5, 5: no more than "at least zero" can be said
abbrev trace55 : Trace
trace55 = trace_of (of_nat64 5 ∷ of_nat64 5 ∷ []) false []

no_nan55 : SomeNotFinite Readings trace55 0 2 → ⊥
unfolding table valid_at of_int
no_nan55 = all_finite trace55 0 2 refl

pub zero_row : VarianceRow trace55 0 2 1 1 (answer zero64 1)
unfolding entries_from valid_at of_bits le
zero_row =
    record {
      figure = finite_figure _ (λ few. ⊎_elim (λ h. omega arith) (λ h. omega arith) few) no_nan55;
      not-below = λ b. inr refl;
    }

-- `Yielded`, computed: row 2 of the call with a map of ones, whose window is in two parts
no_nan_ones : SomeNotFinite Readings ones 1 4 → ⊥
unfolding table valid_at of_int
no_nan_ones = all_finite ones 1 4 refl

ones_row : VarianceRow ones 1 4 3 1 (answer (of_bits binary64 0x4002AAAAAAAAAAAB) 1)
unfolding entries_from valid_at of_bits le
ones_row =
    record {
      figure = finite_figure _ (λ few. ⊎_elim (λ h. omega arith) (λ h. omega arith) few) no_nan_ones;
      not-below = λ b. inr refl;
    }

pub ones_yielded : Yielded short_row ones ones_left 2
unfolding of_bits of_int add sub mul div eq lt le var_clear var_combine var_finalize entries_from split_after figure_of inserted_at nonfinite_at
    answer_at valid_at
ones_yielded = record { account = refl; variance = record { answer = _; others = _; stands = refl; row = ones_row } }

-- and demand 3 said of P7's row 0, whose ddof is a byte (`IsSetting`)
pub p7_row : VarianceIn trace7 p7 1 1 0 p7_left
p7_row = (demand_three.one (variance_by p7 1) tt trace7 p7_left (omega arith) plan_call_lem 0 (omega arith)).variance

-- a call with trailing windows is not the call of the centred bounds: row 0 has one place, and not two
pub trailing_not_centred :
    ((t : Trace) (l₀ l : Lent) → CalledFixed false 3 1 (Variance 1) t l₀ l 0 → (k : ℕ) → k < length t.readings
    → figures_in (Variance 1) l k ≡ answers_at (figures_of (fixed_query true 3 1 (Variance 1) t) t) k)
    → ⊥
unfolding table bounds of_bits of_int add sub mul div eq lt le var_clear var_combine var_finalize entries_from split_after figure_of inserted_at
    nonfinite_at answer_at valid_at
trailing_not_centred all =
    let byte : ◌≡◌ {A = ℕ} 0 1 = ap first_byte (all trace249 (var_lent 18) left249 trailing3_accepted 0 (omega arith)) in
    omega arith
