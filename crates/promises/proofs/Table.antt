-- The table of the cases marked P holds, by our definitions and by the transcribed Rust, in one computation. Assumes nothing.
use lib.Dec.{T}
use lib.Ieee.{of_bits, to_bits, of_int, add, sub, mul, div, eq, lt, le}
use mathlib.Core.List.{zip, zip_with}
use Rattle.root.specs.Root.{root}
use Rattle.trace.specs.Trace.{valid_at, both_at, valid_from}
use Rattle.trace.specs.Refusals.{refusal, ◌or_else◌, wrong_map}
use Rattle.moment.specs.Var.{var_clear, var_combine, var_finalize}
use Rattle.moment.specs.Pearson.{pearson_new, pearson_combine, pearson_finalize}
use Rattle.moment.specs.Skew.{skew_new, skew_biased, skew_finalize}
use Rattle.moment.specs.Kurtosis.{kurtosis_new, kurtosis_biased, kurtosis_finalize}
use Rattle.moment.specs.Chunks.{chunks, chunks_of, in_chunks}
use Rattle.moment.specs.Arrays.{answer}
use Rattle.plan.specs.Refusals.{plan_refusal}
use Rattle.window.specs.Places.{entries_from}
use Rattle.window.specs.Window.{split_after, figure_of}
use Rattle.window.specs.Readings.{inserted_at, nonfinite_at}
use Rattle.window.specs.Rows.{answer_at}
use Rattle.promises.specs.SourceStates.{VarState-clear_zero_weight_nan, VarState-insert_one, VarState-combine, VarState-finalize}
use Rattle.promises.specs.SourceStates.{PearsonState-new, PearsonState-combine, PearsonState-finalize}
use Rattle.promises.specs.SourceStates.{SkewState-from_iter, SkewState-finalize, KurtosisState-from_iter, KurtosisState-finalize}
use Rattle.promises.specs.SourceArrays.{unset_bits, pair_arrays, from_array}
use Rattle.promises.specs.SourceRows.{rolling_no_nulls, rolling_nulls}
use Rattle.promises.specs.Table.{every, cases}

pub table : T (every cases)
unfolding cases every of_bits to_bits of_int add sub mul div eq lt le zip zip_with root valid_at both_at valid_from refusal ◌or_else◌ wrong_map
    var_clear var_combine var_finalize pearson_new pearson_combine pearson_finalize skew_new skew_biased skew_finalize kurtosis_new kurtosis_biased
    kurtosis_finalize chunks chunks_of in_chunks answer entries_from split_after figure_of inserted_at nonfinite_at answer_at plan_refusal
    VarState-clear_zero_weight_nan VarState-insert_one VarState-combine VarState-finalize PearsonState-new PearsonState-combine
    PearsonState-finalize SkewState-from_iter SkewState-finalize KurtosisState-from_iter KurtosisState-finalize unset_bits pair_arrays
    from_array rolling_no_nulls rolling_nulls
table = tt
