-- Computed examples of the transcribed Rust: what each function of the files Source* gives on small inputs, as numbers that were worked by
-- hand or by another program. A wrong text there makes one of them compute to false. Assumes nothing.
use Prim.Native.Nat.{ℕ}
use mathlib.Core.Bool.{Bool, true, false, not, ◌&&◌}
use mathlib.Core.List.{List, [], ◌∷◌, ◌++◌, foldl, map, zip, zip_with, filter_map}
use mathlib.Core.Option
use mathlib.Core.Option.{some}
use lib.Dec.{T, eqb}
use lib.ListN.{length, get_or, replicate}
use lib.Ieee.{Float, nan, inf, binary64, of_bits, to_bits, of_int, add, sub, mul, div, eq, lt, le}
use Rattle.float.specs.Operators.{zero64, one64, of_nat64}
use Rattle.float.specs.Tables.{table}
use Rattle.root.specs.Root.{root}
use Rattle.trace.specs.Trace.{Trace, trace_of, valid_at}
use Rattle.moment.specs.declared.var_state.VarState.{VarState}
use Rattle.moment.specs.declared.cov_state.CovState.{CovState}
use Rattle.moment.specs.declared.pearson_state.PearsonState.{PearsonState}
use Rattle.moment.specs.declared.skew_state.SkewState.{SkewState}
use Rattle.moment.specs.declared.kurtosis_state.KurtosisState.{KurtosisState}
use Rattle.moment.specs.declared.Figure.{Figure}
use Rattle.moment.specs.Arrays.{var_list, cov_list, pearson_list, skew_list, kurtosis_list}
use Rattle.plan.specs.Plan.{Plan, plan_of}
use Rattle.window.specs.Window.{Moment}
use Rattle.promises.specs.Rust.{some_rust, bitmap_of}
use Rattle.promises.specs.SourceStates.{is_empty, VarState-default, VarState-new, VarState-clear_zero_weight_nan, VarState-insert_one}
use Rattle.promises.specs.SourceStates.{VarState-combine, VarState-finalize}
use Rattle.promises.specs.SourceStates.{CovState-default, CovState-new, CovState-insert_one, CovState-combine, CovState-finalize}
use Rattle.promises.specs.SourceStates.{PearsonState-of, PearsonState-new, PearsonState-insert_one, PearsonState-combine}
use Rattle.promises.specs.SourceStates.{PearsonState-finalize}
use Rattle.promises.specs.SourceStates.{SkewState-new, SkewState-from_iter, SkewState-clear_zero_weight_nan, SkewState-insert_one}
use Rattle.promises.specs.SourceStates.{SkewState-combine, SkewState-finalize, KurtosisState-new, KurtosisState-from_iter}
use Rattle.promises.specs.SourceStates.{KurtosisState-clear_zero_weight_nan, KurtosisState-insert_one}
use Rattle.promises.specs.SourceStates.{KurtosisState-combine, KurtosisState-finalize}
use Rattle.promises.specs.SourceArrays.{unset_bits, set_bits, has_nulls, array_of, chunk_as_float, chunk_as_float_binary}
use Rattle.promises.specs.SourceArrays.{whole_array, pair_arrays, sliced, with_unset, from_array}
use Rattle.promises.specs.SourceWindow.{MomentWindow, turns, flipped, combined, push, pop, flip, pop_at, push_at}
use Rattle.promises.specs.SourceWindow.{update_no_nulls, new_no_nulls, update_nulls, new_nulls, is_valid}
use Rattle.promises.specs.SourceRows.{Array, head_set, tail_set, create_validity, plan_row, offsets, rolling_no_nulls, rolling_nulls}
use Rattle.promises.specs.SourceFixed.{offset_fn, fixed_row}
use Rattle.promises.specs.SourceWeights.{weights_start, compute_var_weights, weighted_row, rolling_var_weights}
use Rattle.promises.specs.Calls.{of_var, of_cov, of_skew_range, of_kurtosis_range}
use Rattle.promises.specs.DemandTwo.{source_of, variance_moment}
use Rattle.promises.specs.Table.{every, same, gives, infinite_mean}

-- ---- comparisons
-- lists of numbers, of bits, and of doubles by their bits
abbrev numbers : List ℕ → List ℕ → Bool
numbers [] [] = true
numbers [] (y ∷ l) = false
numbers (x ∷ k) [] = false
numbers (x ∷ k) (y ∷ l) = eqb x y && numbers k l

abbrev agree : Bool → Bool → Bool
agree true b = b
agree false b = not b

abbrev bits : List Bool → List Bool → Bool
bits [] [] = true
bits [] (y ∷ l) = false
bits (x ∷ k) [] = false
bits (x ∷ k) (y ∷ l) = agree x y && bits k l

abbrev doubles : List Float → List Float → Bool
doubles [] [] = true
doubles [] (y ∷ l) = false
doubles (x ∷ k) [] = false
doubles (x ∷ k) (y ∷ l) = same x y && doubles k l

-- whole numbers as doubles
abbrev pub reals : List ℕ → List Float
reals l = map of_nat64 l

-- doubles that are these whole numbers
abbrev wholes : List Float → List ℕ → Bool
wholes l n = doubles l (reals n)

-- all tests of a list compute to true
abbrev Hold : List Bool → Type 0
Hold tests = T (every tests)

-- two bounds
abbrev bounds : ℕ × ℕ → ℕ → ℕ → Bool
bounds (s, e) a b = eqb s a && eqb e b

-- a number below zero
abbrev minus : ℕ → Float
minus n = sub binary64 zero64 (of_nat64 n)

-- ---- SourceStates
-- states of 2, 4 and of 9, 9, by `new`
abbrev var24 : VarState
var24 = VarState-new (reals (2 ∷ 4 ∷ []))

abbrev var99 : VarState
var99 = VarState-new (reals (9 ∷ 9 ∷ []))

abbrev skew24 : SkewState
skew24 = SkewState-new (reals (2 ∷ 4 ∷ []))

abbrev skew99 : SkewState
skew99 = SkewState-new (reals (9 ∷ 9 ∷ []))

abbrev kurtosis24 : KurtosisState
kurtosis24 = KurtosisState-new (reals (2 ∷ 4 ∷ []))

abbrev kurtosis99 : KurtosisState
kurtosis99 = KurtosisState-new (reals (9 ∷ 9 ∷ []))

-- states of (1,2), (3,6) and of (5,10), (7,14)
abbrev cov_first : CovState
cov_first = CovState-new (reals (1 ∷ 3 ∷ [])) (reals (2 ∷ 6 ∷ []))

abbrev cov_second : CovState
cov_second = CovState-new (reals (5 ∷ 7 ∷ [])) (reals (10 ∷ 14 ∷ []))

abbrev pearson_first : PearsonState
pearson_first = PearsonState-new (reals (1 ∷ 3 ∷ [])) (reals (2 ∷ 6 ∷ []))

abbrev pearson_second : PearsonState
pearson_second = PearsonState-new (reals (5 ∷ 7 ∷ [])) (reals (10 ∷ 14 ∷ []))

-- `insert_one` of 2, 4 and 9: mean 5, and 9 + 1 + 16
pub var_insert_examples :
    Hold
    (wholes (var_list (foldl VarState-insert_one VarState-default (reals (2 ∷ 4 ∷ 9 ∷ [])))) (3 ∷ 5 ∷ 26 ∷ [])
    ∷ [])
unfolding every of_bits to_bits of_int add sub mul div eq lt le VarState-clear_zero_weight_nan VarState-insert_one
var_insert_examples = tt

-- a state of each kind whose weight is -1
abbrev less_one : VarState
less_one = record { weight = minus 1; mean = of_nat64 3; dp = of_nat64 5 }

abbrev less_one_skew : SkewState
less_one_skew = record { weight = minus 1; mean = of_nat64 3; m2 = of_nat64 5; m3 = of_nat64 5 }

abbrev less_one_kurtosis : KurtosisState
less_one_kurtosis = record { weight = minus 1; mean = of_nat64 3; m2 = of_nat64 5; m3 = of_nat64 5; m4 = of_nat64 5 }

-- `clear_zero_weight_nan`: what comes to weight 0 by `insert_one` or `combine` is cleared
pub clear_examples :
    Hold
    (wholes (var_list (VarState-insert_one less_one (of_nat64 7))) (0 ∷ 0 ∷ 0 ∷ [])
    ∷ wholes (var_list (VarState-combine less_one (VarState-new (reals (7 ∷ []))))) (0 ∷ 0 ∷ 0 ∷ [])
    ∷ wholes (skew_list (SkewState-insert_one less_one_skew (of_nat64 7))) (0 ∷ 0 ∷ 0 ∷ 0 ∷ [])
    ∷ wholes (skew_list (SkewState-combine less_one_skew (SkewState-new (reals (7 ∷ []))))) (0 ∷ 0 ∷ 0 ∷ 0 ∷ [])
    ∷ wholes (kurtosis_list (KurtosisState-insert_one less_one_kurtosis (of_nat64 7))) (0 ∷ 0 ∷ 0 ∷ 0 ∷ 0 ∷ [])
    ∷ wholes (kurtosis_list (KurtosisState-combine less_one_kurtosis (KurtosisState-new (reals (7 ∷ []))))) (0 ∷ 0 ∷ 0 ∷ 0 ∷ 0 ∷ [])
    ∷ [])
unfolding every of_bits to_bits of_int add sub mul div eq lt le VarState-clear_zero_weight_nan VarState-insert_one VarState-new
    VarState-combine SkewState-from_iter SkewState-clear_zero_weight_nan SkewState-insert_one SkewState-combine KurtosisState-from_iter
    KurtosisState-clear_zero_weight_nan KurtosisState-insert_one KurtosisState-combine
clear_examples = tt

-- a state whose quotient is below zero
abbrev below : VarState
below = record { weight = of_nat64 2; mean = zero64; dp = minus 8 }

-- `new` and `combine`: an empty other state changes nothing, and an empty self is combined like any other (P3)
pub var_combine_examples :
    Hold
    (wholes (var_list (VarState-new (reals (2 ∷ 4 ∷ 9 ∷ [])))) (3 ∷ 5 ∷ 26 ∷ [])
    ∷ wholes (var_list (VarState-new [])) (0 ∷ 0 ∷ 0 ∷ [])
    ∷ wholes (var_list (VarState-combine var24 var99)) (4 ∷ 6 ∷ 38 ∷ [])
    ∷ wholes (var_list (VarState-combine var24 VarState-default)) (2 ∷ 3 ∷ 2 ∷ [])
    ∷ doubles (var_list (VarState-combine VarState-default infinite_mean)) (of_nat64 1 ∷ inf false ∷ nan ∷ [])
    ∷ [])
unfolding every of_bits to_bits of_int add sub mul div eq lt le VarState-clear_zero_weight_nan VarState-new VarState-combine
var_combine_examples = tt

-- `finalize`: missing at weight ddof, and 0 for a quotient below zero
pub var_finalize_examples :
    Hold
    (gives (VarState-finalize (VarState-new (reals (2 ∷ 4 ∷ 9 ∷ []))) 1) 1 (of_nat64 13)
    ∷ gives (VarState-finalize (VarState-new (reals (2 ∷ 4 ∷ 9 ∷ []))) 3) 0 zero64
    ∷ gives (VarState-finalize below 0) 1 zero64
    ∷ [])
unfolding every of_bits to_bits of_int add sub mul div eq lt le VarState-new VarState-finalize
var_finalize_examples = tt

-- covariance: `new`, `insert_one`, `combine` and `finalize` of (1,2), (3,6), then (5,10), or (5,10) and (7,14)
pub cov_examples :
    Hold
    (wholes (cov_list cov_first) (2 ∷ 2 ∷ 4 ∷ 4 ∷ [])
    ∷ wholes (cov_list (CovState-insert_one cov_first (of_nat64 5) (of_nat64 10))) (3 ∷ 3 ∷ 6 ∷ 16 ∷ [])
    ∷ wholes (cov_list (CovState-combine cov_first cov_second)) (4 ∷ 4 ∷ 8 ∷ 40 ∷ [])
    ∷ wholes (cov_list (CovState-combine CovState-default cov_second)) (2 ∷ 6 ∷ 12 ∷ 4 ∷ [])
    ∷ gives (CovState-finalize cov_first 1) 1 (of_nat64 4)
    ∷ gives (CovState-finalize cov_first 2) 0 zero64
    ∷ [])
unfolding every of_bits to_bits of_int add sub mul div eq lt le zip zip_with CovState-new CovState-insert_one CovState-combine
    CovState-finalize
cov_examples = tt

-- a correlation of a half
abbrev half : PearsonState
half = PearsonState-of (of_nat64 2) zero64 zero64 (of_nat64 4) (of_nat64 3) (of_nat64 9)

-- correlation: the same pairs; `finalize` of products 4, 3 and 9, and of none
pub pearson_examples :
    Hold
    (wholes (pearson_list pearson_first) (2 ∷ 2 ∷ 4 ∷ 2 ∷ 4 ∷ 8 ∷ [])
    ∷ wholes (pearson_list (PearsonState-insert_one pearson_first (of_nat64 5) (of_nat64 10))) (3 ∷ 3 ∷ 6 ∷ 8 ∷ 16 ∷ 32 ∷ [])
    ∷ wholes (pearson_list (PearsonState-combine pearson_first pearson_second))
    (4 ∷ 4 ∷ 8 ∷ 20 ∷ 40 ∷ 80 ∷ [])
    ∷ same (PearsonState-finalize half) (of_bits binary64 0x3FE0000000000000)
    ∷ same (PearsonState-finalize (PearsonState-new [] [])) nan
    ∷ [])
unfolding every of_bits to_bits of_int add sub mul div eq lt le zip zip_with root PearsonState-new PearsonState-insert_one
    PearsonState-combine PearsonState-finalize
pearson_examples = tt

-- skewness: `insert_one` of 2, 4, 9; `combine` of 2, 4 and 9, 9, and with an empty state; `finalize` of 0, 0, 0, 0, 5
pub skew_examples :
    Hold
    (wholes (skew_list (SkewState-insert_one skew24 (of_nat64 9))) (3 ∷ 5 ∷ 26 ∷ 36 ∷ [])
    ∷ doubles (skew_list (SkewState-combine skew24 skew99)) (of_nat64 4 ∷ of_nat64 6 ∷ of_nat64 38 ∷ minus 18 ∷ [])
    ∷ wholes (skew_list (SkewState-combine (SkewState-new []) skew24)) (2 ∷ 3 ∷ 2 ∷ 0 ∷ [])
    ∷ gives (SkewState-finalize (SkewState-new (reals (0 ∷ 0 ∷ 0 ∷ 0 ∷ 5 ∷ []))) true) 1 (of_bits binary64 0x3FF8000000000000)
    ∷ gives (SkewState-finalize (SkewState-new (reals (0 ∷ 0 ∷ 0 ∷ 0 ∷ 5 ∷ []))) false) 1 (of_bits binary64 0x4001E3779B97F4A8)
    ∷ gives (SkewState-finalize skew24 false) 0 zero64
    ∷ gives (SkewState-finalize (SkewState-new (reals (2 ∷ 2 ∷ []))) true) 1 nan
    ∷ [])
unfolding every of_bits to_bits of_int add sub mul div eq lt le root SkewState-from_iter SkewState-clear_zero_weight_nan SkewState-insert_one
    SkewState-combine SkewState-finalize
skew_examples = tt

-- kurtosis: the same
pub kurtosis_examples :
    Hold
    (wholes (kurtosis_list (KurtosisState-insert_one kurtosis24 (of_nat64 9))) (3 ∷ 5 ∷ 26 ∷ 36 ∷ 338 ∷ [])
    ∷ doubles (kurtosis_list (KurtosisState-combine kurtosis24 kurtosis99))
    (of_nat64 4 ∷ of_nat64 6 ∷ of_nat64 38 ∷ minus 18 ∷ of_nat64 434 ∷ [])
    ∷ wholes (kurtosis_list (KurtosisState-combine (KurtosisState-new []) kurtosis24)) (2 ∷ 3 ∷ 2 ∷ 0 ∷ 2 ∷ [])
    ∷ gives (KurtosisState-finalize (KurtosisState-new (reals (0 ∷ 0 ∷ 0 ∷ 0 ∷ 5 ∷ []))) false true) 1 (of_bits binary64 0x400A000000000000)
    ∷ gives (KurtosisState-finalize (KurtosisState-new (reals (0 ∷ 0 ∷ 0 ∷ 0 ∷ 5 ∷ []))) false false) 1 (of_nat64 8)
    ∷ gives (KurtosisState-finalize (KurtosisState-new (reals (0 ∷ 0 ∷ 0 ∷ 0 ∷ 5 ∷ []))) true false) 1 (of_nat64 5)
    ∷ gives (KurtosisState-finalize (KurtosisState-new (reals (2 ∷ 4 ∷ 9 ∷ []))) false false) 0 zero64
    ∷ [])
unfolding every of_bits to_bits of_int add sub mul div eq lt le KurtosisState-from_iter KurtosisState-clear_zero_weight_nan
    KurtosisState-insert_one KurtosisState-combine KurtosisState-finalize
kurtosis_examples = tt

-- ---- SourceArrays
-- how long each chunk is that is handed on, the last one first
abbrev chunked : ℕ → List ℕ
chunked n = chunk_as_float (λ out chunk. length chunk ∷ out) [] (table (λ i. i) n)

-- the same of pairs, the left chunk and the right one
abbrev chunked_pairs : ℕ → List ℕ
chunked_pairs n = chunk_as_float_binary (λ out l r. length l ∷ length r ∷ out) [] (table (λ i. (one64, one64)) n)

-- 130 values are a chunk of 128 and one of 2
pub full_chunk_examples : Hold (numbers (chunked 130) (2 ∷ 128 ∷ []) ∷ [])
unfolding every table
full_chunk_examples = tt

-- a chunk of one value is handed on, and none of no values
pub last_chunk_examples : Hold (numbers (chunked 1) (1 ∷ []) ∷ numbers (chunked 0) [] ∷ [])
unfolding every table
last_chunk_examples = tt

-- the same of pairs
pub full_pair_chunk_examples : Hold (numbers (chunked_pairs 130) (2 ∷ 2 ∷ 128 ∷ 128 ∷ []) ∷ [])
unfolding every table
full_pair_chunk_examples = tt

-- the same of pairs
pub last_pair_chunk_examples : Hold (numbers (chunked_pairs 1) (1 ∷ 1 ∷ []) ∷ numbers (chunked_pairs 0) [] ∷ [])
unfolding every table
last_pair_chunk_examples = tt

-- whole numbers as a trace without a map
abbrev pub whole : List ℕ → Trace
whole l = trace_of (reals l) false []

-- 2, 7 and 4, of which the second is missing, a map of ones, and no map
abbrev missing : Trace
missing = trace_of (reals (2 ∷ 7 ∷ 4 ∷ [])) true (5 ∷ [])

abbrev ones : Trace
ones = trace_of (reals (2 ∷ 7 ∷ 4 ∷ [])) true (7 ∷ [])

abbrev no_map : Trace
no_map = whole (2 ∷ 7 ∷ 4 ∷ [])

-- `has_nulls`: only where a place is missing
pub has_nulls_examples :
    Hold
    (has_nulls (array_of some_rust missing)
    ∷ not (has_nulls (array_of some_rust ones))
    ∷ not (has_nulls (array_of some_rust no_map))
    ∷ [])
unfolding every table valid_at unset_bits
has_nulls_examples = tt

-- `set_bits` of one 1 and two 0
pub set_bits_examples : Hold (eqb (set_bits some_rust (false ∷ true ∷ false ∷ [])) 1 ∷ [])
unfolding every unset_bits
set_bits_examples = tt

-- `sliced`, two bits from the second on
pub sliced_examples : Hold (bits (sliced 1 2 (true ∷ false ∷ true ∷ true ∷ [])) (false ∷ true ∷ []) ∷ [])
unfolding every
sliced_examples = tt

-- `filter(|v| v.unset_bits() > 0)`: a validity with one 0 stays, and one of ones goes
pub filter_examples :
    Hold
    (bits (Option.get_or (with_unset (some (true ∷ false ∷ true ∷ []))) []) (true ∷ false ∷ true ∷ [])
    ∷ is_empty (Option.get_or (with_unset (some (true ∷ true ∷ []))) [])
    ∷ [])
unfolding every unset_bits
filter_examples = tt

-- `var`, with a missing place and without a map
pub array_examples :
    Hold
    (wholes (source_of some_rust (of_var missing)) (2 ∷ 3 ∷ 2 ∷ [])
    ∷ wholes (source_of some_rust (of_var (whole (2 ∷ 4 ∷ 9 ∷ [])))) (3 ∷ 5 ∷ 26 ∷ [])
    ∷ [])
unfolding every table valid_at zip zip_with filter_map unset_bits of_bits to_bits of_int add sub mul div eq lt le whole_array
    VarState-clear_zero_weight_nan VarState-new VarState-combine
array_examples = tt

abbrev left_missing : Trace
left_missing = trace_of (reals (1 ∷ 8 ∷ 8 ∷ 3 ∷ [])) true (13 ∷ [])

abbrev right_missing : Trace
right_missing = trace_of (reals (2 ∷ 8 ∷ 8 ∷ 6 ∷ [])) true (11 ∷ [])

-- `cov`: a pair whose left place is missing, and one whose right place is, are left out
pub pair_examples :
    Hold
    (wholes (source_of some_rust (of_cov left_missing right_missing))
    (2 ∷ 2 ∷ 4 ∷ 4 ∷ [])
    ∷ wholes (source_of some_rust (of_cov (whole (1 ∷ 3 ∷ [])) (whole (2 ∷ 6 ∷ [])))) (2 ∷ 2 ∷ 4 ∷ 4 ∷ [])
    ∷ [])
unfolding every table valid_at zip zip_with filter_map unset_bits of_bits to_bits of_int add sub mul div eq lt le pair_arrays CovState-new
    CovState-combine
pair_examples = tt

-- `from_array` of places 1 up to 4, of which the second is missing; of a range in which no place is; and without a map
pub range_examples :
    Hold
    (wholes (source_of some_rust (of_skew_range (trace_of (reals (9 ∷ 2 ∷ 7 ∷ 4 ∷ 9 ∷ [])) true (27 ∷ [])) 1 3)) (2 ∷ 3 ∷ 2 ∷ 0 ∷ [])
    ∷ wholes (source_of some_rust (of_skew_range (trace_of (reals (9 ∷ 2 ∷ 4 ∷ 7 ∷ 9 ∷ [])) true (23 ∷ [])) 1 2)) (2 ∷ 3 ∷ 2 ∷ 0 ∷ [])
    ∷ wholes (source_of some_rust (of_kurtosis_range (whole (9 ∷ 2 ∷ 4 ∷ 9 ∷ [])) 1 2)) (2 ∷ 3 ∷ 2 ∷ 0 ∷ 2 ∷ [])
    ∷ [])
unfolding every table valid_at zip zip_with filter_map unset_bits of_bits to_bits of_int add sub mul div eq lt le from_array SkewState-from_iter
    KurtosisState-from_iter
range_examples = tt

-- ---- SourceWindow
-- a moment whose state is all that was inserted, the last first, so that an example shows every order
abbrev listing : Moment Float
listing = record { State = List Float; empty = []; insert = λ state x. x ∷ state; combine = λ state other. state ++ other }

-- a window of a front, a back, its state and a count
abbrev window_of : List (List Float) → List Float → List Float → ℕ → MomentWindow listing
window_of front back agg_back non_finite =
    record { non_finite_count = non_finite; null_count = 0; start = 0; end = 3; front = front; back = back; agg_back = agg_back }

-- 1 and 2 pushed
abbrev pushed_two : MomentWindow listing
pushed_two = window_of [] (reals (2 ∷ 1 ∷ [])) (reals (2 ∷ 1 ∷ [])) 0

-- the front's states one after another, with a 0 behind each
abbrev spread : List (List Float) → List Float
spread [] = []
spread (state ∷ front) = state ++ (zero64 ∷ spread front)

-- `push`: on the back and into its state; what is not finite as 0, and counted
pub push_examples :
    Hold
    (wholes (push some_rust pushed_two (of_nat64 3)).agg_back (3 ∷ 2 ∷ 1 ∷ [])
    ∷ wholes (push some_rust pushed_two (of_nat64 3)).back (3 ∷ 2 ∷ 1 ∷ [])
    ∷ eqb (push some_rust pushed_two (of_nat64 3)).non_finite_count 0
    ∷ wholes (push some_rust pushed_two nan).agg_back (0 ∷ 2 ∷ 1 ∷ [])
    ∷ eqb (push some_rust pushed_two (inf true)).non_finite_count 1
    ∷ [])
unfolding every of_bits to_bits of_int push
push_examples = tt

-- `flip`: the back's readings, the last first, each state on the front, and nothing stays behind
pub flip_examples :
    Hold
    (wholes (spread (flip pushed_two).front) (1 ∷ 2 ∷ 0 ∷ 2 ∷ 0 ∷ [])
    ∷ doubles (flip pushed_two).back []
    ∷ doubles (flip pushed_two).agg_back []
    ∷ [])
unfolding every of_bits to_bits of_int flipped flip
flip_examples = tt

-- `pop`: the last state of the front is taken off, after a flip where there is none, and a count of what is not finite taken back
pub pop_examples :
    Hold
    (wholes (spread (pop some_rust pushed_two (of_nat64 1)).front) (2 ∷ 0 ∷ [])
    ∷ wholes (spread (pop some_rust (window_of (reals (5 ∷ []) ∷ reals (6 ∷ []) ∷ []) [] [] 0) (of_nat64 1)).front) (6 ∷ 0 ∷ [])
    ∷ eqb (pop some_rust (window_of (reals (0 ∷ []) ∷ []) [] [] 1) nan).non_finite_count 0
    ∷ eqb (pop some_rust (window_of (reals (5 ∷ []) ∷ []) [] [] 1) (of_nat64 5)).non_finite_count 1
    ∷ [])
unfolding every of_bits to_bits of_int sub flipped flip pop
pop_examples = tt

-- `get_moment`: the back's state combined with the front's last one
pub moment_examples :
    Hold
    (wholes (combined listing.combine (reals (1 ∷ [])) (reals (2 ∷ []) ∷ reals (3 ∷ []) ∷ [])) (1 ∷ 2 ∷ [])
    ∷ wholes (combined listing.combine (reals (1 ∷ [])) []) (1 ∷ [])
    ∷ [])
unfolding every of_bits to_bits of_int
moment_examples = tt

-- three places of which two are missing
abbrev two_missing : MomentWindow listing
two_missing = record { non_finite_count = 0; null_count = 2; start = 0; end = 3; front = []; back = []; agg_back = [] }

-- `is_valid`: three places of which two are missing have one
pub valid_examples : Hold (is_valid some_rust two_missing 1 ∷ not (is_valid some_rust two_missing 2) ∷ [])
unfolding every
valid_examples = tt

-- a NaN and two readings, without a map and with a map in which the last is missing
abbrev after_nan : List Float
after_nan = nan ∷ of_nat64 4 ∷ of_nat64 6 ∷ []

abbrev on_nan : MomentWindow listing
on_nan = new_no_nulls some_rust after_nan 0 1

-- `new` moves the window to its first row
pub new_examples :
    Hold
    (eqb (new_no_nulls {M = listing} some_rust after_nan 1 3).end 3
    ∷ wholes (new_no_nulls {M = listing} some_rust after_nan 1 3).agg_back (6 ∷ 4 ∷ [])
    ∷ [])
unfolding every of_bits to_bits of_int sub flipped flip push pop update_no_nulls
new_examples = tt

-- `update` past the window's end: nothing of the old window is left, its count neither
pub reset_examples :
    Hold
    (eqb on_nan.non_finite_count 1
    ∷ eqb (update_no_nulls some_rust after_nan on_nan 1 3).non_finite_count 0
    ∷ wholes (update_no_nulls some_rust after_nan on_nan 1 3).agg_back (6 ∷ 4 ∷ [])
    ∷ [])
unfolding every of_bits to_bits of_int sub flipped flip push pop update_no_nulls
reset_examples = tt

-- windows over 1, 2, 3, 4, and over 2, 7, 4 of which 7 is missing, on their places 0 and 1
abbrev on_two : MomentWindow listing
on_two = new_no_nulls some_rust (reals (1 ∷ 2 ∷ 3 ∷ 4 ∷ [])) 0 2

abbrev on_missing : MomentWindow listing
on_missing = new_nulls some_rust (bitmap_of missing) missing.readings 0 2

-- moved on
abbrev moved_two : ℕ → ℕ → MomentWindow listing
moved_two start end = update_no_nulls some_rust (reals (1 ∷ 2 ∷ 3 ∷ 4 ∷ [])) on_two start end

abbrev moved_missing : ℕ → ℕ → MomentWindow listing
moved_missing start end = update_nulls some_rust (bitmap_of missing) missing.readings on_missing start end

-- `update` without a map, and with one: what leaves is popped, what enters pushed, and missing places are counted
pub update_examples :
    Hold
    (wholes (moved_two 1 4).agg_back (4 ∷ 3 ∷ [])
    ∷ wholes (spread (moved_two 1 4).front) (2 ∷ 0 ∷ [])
    ∷ wholes (moved_missing 1 3).agg_back (4 ∷ [])
    ∷ eqb on_missing.null_count 1
    ∷ eqb (moved_missing 2 3).null_count 0
    ∷ [])
unfolding every of_bits to_bits of_int sub flipped flip push pop update_no_nulls valid_at turns pop_at push_at update_nulls
update_examples = tt

-- ---- SourceRows
-- rows of 1, 2, 3 and 1 places
abbrev lengths : ℕ → ℕ × ℕ
lengths = offsets (plan_of (0 ∷ 0 ∷ 0 ∷ 3 ∷ []) (1 ∷ 2 ∷ 3 ∷ 4 ∷ []))

-- the head of `create_validity`, minimum 2: up to the first row that is long enough
pub head_examples : Hold (bits (head_set some_rust 2 lengths 4 0 (replicate 4 true)) (false ∷ true ∷ true ∷ true ∷ []) ∷ [])
unfolding every head_set
head_examples = tt

-- its tail: from the last row down
pub tail_examples : Hold (bits (tail_set some_rust 2 lengths 4 (replicate 4 true)) (true ∷ true ∷ true ∷ false ∷ []) ∷ [])
unfolding every tail_set
tail_examples = tt

-- `create_validity`, minimum 2; with minimum 1 there is none
pub validity_examples :
    Hold
    (bits (Option.get_or (create_validity some_rust 2 lengths 4) []) (false ∷ true ∷ true ∷ false ∷ [])
    ∷ is_empty (Option.get_or (create_validity some_rust 1 lengths 4) [])
    ∷ [])
unfolding every create_validity
validity_examples = tt

-- the row of a variance with ddof 1
abbrev row : Trace → ℕ → Plan → ℕ → Figure
row = plan_row variance_moment some_rust (λ s. VarState-finalize s 1)

-- Rows (0,2), (1,4) of 0, 1, 2, 2. Row 1's front is 1 and its back 2, 2: combined in the other order, or inserted afresh, another last
-- bit comes out (..58, ..55).
abbrev two_rows : Plan
two_rows = plan_of (0 ∷ 1 ∷ []) (2 ∷ 4 ∷ [])

abbrev trace0122 : Trace
trace0122 = whole (0 ∷ 1 ∷ 2 ∷ 2 ∷ [])

abbrev ones0122 : Trace
ones0122 = trace_of (reals (0 ∷ 1 ∷ 2 ∷ 2 ∷ [])) true (15 ∷ [])

-- a row without a map, and with one
pub rows_examples :
    Hold
    (gives (row trace0122 1 two_rows 1) 1 (of_bits binary64 0x3FD5555555555556)
    ∷ gives (row ones0122 1 two_rows 1) 1 (of_bits binary64 0x3FD5555555555556)
    ∷ [])
unfolding every of_bits to_bits of_int add sub mul div eq lt le VarState-clear_zero_weight_nan VarState-insert_one VarState-combine
    VarState-finalize valid_at rolling_no_nulls rolling_nulls
rows_examples = tt

-- minimum 3: row 0 is too short, and the window has been moved to it all the same
pub first_row_examples :
    Hold
    (gives (row trace0122 3 two_rows 0) 0 zero64
    ∷ gives (row trace0122 3 two_rows 1) 1 (of_bits binary64 0x3FD5555555555556)
    ∷ [])
unfolding every of_bits to_bits of_int add sub mul div eq lt le VarState-clear_zero_weight_nan VarState-insert_one VarState-combine
    VarState-finalize rolling_no_nulls
first_row_examples = tt

-- Rows (0,0), (0,2), (1,4) of the same, minimum 3: row 1 is too short
abbrev short_row : Plan
short_row = plan_of (0 ∷ 0 ∷ 1 ∷ []) (0 ∷ 2 ∷ 4 ∷ [])

-- a row that is too short does not move the window without a map, and does with one
pub short_row_examples :
    Hold
    (gives (row trace0122 3 short_row 2) 1 (of_bits binary64 0x3FD5555555555555)
    ∷ gives (row ones0122 3 short_row 1) 0 zero64
    ∷ gives (row ones0122 3 short_row 2) 1 (of_bits binary64 0x3FD5555555555556)
    ∷ [])
unfolding every of_bits to_bits of_int add sub mul div eq lt le VarState-clear_zero_weight_nan VarState-insert_one VarState-combine
    VarState-finalize valid_at rolling_no_nulls rolling_nulls
short_row_examples = tt

-- ---- SourceFixed
-- `det_offsets`, window 3 and window 0
pub trailing_examples :
    Hold
    (bounds (offset_fn some_rust false 3 5 0) 0 1
    ∷ bounds (offset_fn some_rust false 3 5 4) 2 5
    ∷ bounds (offset_fn some_rust false 0 5 4) 4 4
    ∷ [])
unfolding every offset_fn
trailing_examples = tt

-- `det_offsets_center`, windows 4, 3 and 0 over 5 places
pub centred_examples :
    Hold
    (bounds (offset_fn some_rust true 4 5 0) 0 2
    ∷ bounds (offset_fn some_rust true 4 5 2) 0 4
    ∷ bounds (offset_fn some_rust true 4 5 4) 2 5
    ∷ bounds (offset_fn some_rust true 3 5 0) 0 2
    ∷ bounds (offset_fn some_rust true 3 5 2) 1 4
    ∷ bounds (offset_fn some_rust true 0 5 4) 4 4
    ∷ [])
unfolding every offset_fn
centred_examples = tt

-- row k of `rolling_var`, ddof 1, of 2, 4, 9
abbrev fixed_at : Bool → Bool → List ℕ → ℕ → Figure
fixed_at center mapped map =
    fixed_row variance_moment some_rust (λ s. VarState-finalize s 1) (trace_of (reals (2 ∷ 4 ∷ 9 ∷ [])) mapped map) 1 center 3

-- `rolling_var`, window 3 over 2, 4, 9: trailing and centred, without a map and with one
pub fixed_examples :
    Hold
    (gives (fixed_at false false [] 0) 0 zero64
    ∷ gives (fixed_at false false [] 2) 1 (of_nat64 13)
    ∷ gives (fixed_at true false [] 0) 1 (of_nat64 2)
    ∷ gives (fixed_at true true (3 ∷ []) 1) 1 (of_nat64 2)
    ∷ [])
unfolding every of_bits to_bits of_int add sub mul div eq lt le VarState-clear_zero_weight_nan VarState-insert_one VarState-combine
    VarState-finalize valid_at offset_fn rolling_no_nulls rolling_nulls
fixed_examples = tt

-- ---- SourceWeights
-- where the weights of window 3 start, for row idx of places start up to start + win_len
abbrev starts : Bool → ℕ → ℕ → ℕ → ℕ
starts centered = weights_start some_rust [] 3 1 lengths (reals (1 ∷ 2 ∷ 4 ∷ [])) centered

-- trailing weights: a window cut off at the start of the trace has the last of them
pub trailing_weights_examples : Hold (eqb (starts false 0 0 1) 2 ∷ eqb (starts false 1 0 2) 1 ∷ eqb (starts false 3 1 3) 0 ∷ [])
unfolding every weights_start
trailing_weights_examples = tt

-- centred weights: a window cut off at the start of the trace lacks the first of them, and one at the end the last
pub centred_weights_examples :
    Hold (eqb (starts true 0 0 1) 1 ∷ eqb (starts true 0 0 2) 1 ∷ eqb (starts true 1 0 3) 0 ∷ eqb (starts true 3 2 2) 0 ∷ [])
unfolding every weights_start
centred_weights_examples = tt

-- `rolling_var` over 1, 2 with weights 1, 2 and a trailing window of 2, minimum 2
abbrev weighted : Array
weighted = rolling_var_weights some_rust (reals (1 ∷ 2 ∷ [])) 2 2 false (reals (1 ∷ 2 ∷ []))

-- the weights are divided by their sum: undivided, the last bits are others (..10)
pub divided_examples :
    Hold
    (same (get_or weighted.values 1 nan) (of_bits binary64 0x3FCC71C71C71C730)
    ∷ bits weighted.validity (false ∷ true ∷ [])
    ∷ [])
unfolding every of_bits to_bits of_int add sub mul div eq lt le table zip zip_with offset_fn create_validity compute_var_weights weighted_row
divided_examples = tt
