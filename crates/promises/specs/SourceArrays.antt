-- Demand 2, for whole arrays and ranges: 000's drivers as functions on values, as literally as lists allow; each definition is the
-- function that its comment names. What an iterator gives is a list, and `as_`, of one double to another, nothing. Assumes nothing.
use Rattle.std.specs.Prelude.{ℕ, suc, Bool, true, false, cond, ◌||◌, leb, ltb, length, take, drop, Float}
use mathlib.Core.List.{List, [], ◌∷◌, ◌++◌, foldl, map, zip, filter_map}
use Rattle.std.proofs.Math.Option
use Rattle.std.proofs.Math.Option.{Option, none, some, get_or}
use Rattle.float.specs.Tables.{table}
use Rattle.trace.specs.Trace.{Trace}
use Rattle.promises.specs.Rust.{Rust, Bitmap, bitmap_of}

-- ---- arrays
-- `PrimitiveArray<f64>`: its values and, where it has a validity, the bits of it in order
pub record PrimitiveArray : Type 0 where
  pub values : List Float
  pub validity : Option (List Bool)

-- `Bitmap::iter`
abbrev pub bits_of : Rust → Bitmap → List Bool
bits_of rust validity = table (rust.bit validity) validity.bits

-- a trace as the Rust's array: it has a validity where a map is lent
abbrev pub array_of : Rust → Trace → PrimitiveArray
array_of rust t = record { values = t.readings; validity = cond t.mapped (some (bits_of rust (bitmap_of t))) none }

-- `Bitmap::unset_bits`: how many bits are 0
unfoldable pub unset_bits : List Bool → ℕ
unset_bits [] = 0
unset_bits (true ∷ bits) = unset_bits bits
unset_bits (false ∷ bits) = suc (unset_bits bits)

-- `Bitmap::set_bits`: the length less `unset_bits`
abbrev pub set_bits : Rust → List Bool → ℕ
set_bits rust bits = rust.minus (length bits) (unset_bits bits)

-- `Array::null_count`: `unset_bits` of the validity, 0 without one
abbrev pub null_count : PrimitiveArray → ℕ
null_count arr = get_or (Option.map unset_bits arr.validity) 0

-- `Array::has_nulls`: `null_count() > 0`
abbrev pub has_nulls : PrimitiveArray → Bool
has_nulls arr = ltb 0 (null_count arr)

-- `v.then_some(x)` of a pair (x, v)
abbrev pub then_some : {A : Type 0} → A × Bool → Option A
then_some (x, v) = cond v (some x) none

-- the values whose bit is 1, and without a validity all
abbrev pub values_where : List Float → Option (List Bool) → List Float
values_where values none = values
values_where values (some bits) = filter_map then_some (zip values bits)

-- `non_null_values_iter`
abbrev pub non_null_values : PrimitiveArray → List Float
non_null_values arr = values_where arr.values arr.validity

-- each value as an option, `Some` where its bit is 1, and without a validity everywhere
abbrev pub options_where : List Float → Option (List Bool) → List (Option Float)
options_where values none = map some values
options_where values (some bits) = map then_some (zip values bits)

-- `PrimitiveArray::iter`
abbrev pub options_of : PrimitiveArray → List (Option Float)
options_of arr = options_where arr.values arr.validity

-- `Option::zip`
abbrev pub zip_options : {A B : Type 0} → Option A → Option B → Option (A × B)
zip_options none r = none
zip_options (some l) none = none
zip_options (some l) (some r) = some (l, r)

-- the closure of `cov` and `pearson_corr` that `filter_map` takes: `l.copied().zip(r.copied())`
abbrev pub both_some : Option Float × Option Float → Option (Float × Float)
both_some (l, r) = zip_options l r

-- ---- chunks: what is carried is the part of the chunk that is filled, whose length is `i`, and what f has made
-- one turn of the loop of `chunk_as_float`: a full chunk is handed to f and begun anew before the value is stored
abbrev pub stored : {A S : Type 0} → (S → List A → S) → List A × S → A → List A × S
stored f (chunk, out) val =
    cond (leb 128 (length chunk)) (val ∷ [], f out chunk) (chunk ++ (val ∷ []), out)

-- the end of `chunk_as_float`: a chunk that holds anything is handed to f
abbrev pub flushed : {A S : Type 0} → (S → List A → S) → List A × S → S
flushed f (chunk, out) = cond (ltb 0 (length chunk)) (f out chunk) out

-- `chunk_as_float` of a list of values, from what `out` is before
abbrev pub chunk_as_float : {A S : Type 0} → (S → List A → S) → S → List A → S
chunk_as_float f out values = flushed f (foldl (stored f) ([], out) values)

-- one turn of the loop of `chunk_as_float_binary`, which fills a left and a right chunk alike
abbrev pub stored_binary : {S : Type 0} → (S → List Float → List Float → S) → List Float × List Float × S → Float × Float
    → List Float × List Float × S
stored_binary f (left_chunk, right_chunk, out) (l, r) =
    cond (leb 128 (length left_chunk)) (l ∷ [], r ∷ [], f out left_chunk right_chunk)
    (left_chunk ++ (l ∷ []), right_chunk ++ (r ∷ []), out)

-- the end of `chunk_as_float_binary`
abbrev pub flushed_binary : {S : Type 0} → (S → List Float → List Float → S) → List Float × List Float × S → S
flushed_binary f (left_chunk, right_chunk, out) = cond (ltb 0 (length left_chunk)) (f out left_chunk right_chunk) out

-- `chunk_as_float_binary`
abbrev pub chunk_as_float_binary : {S : Type 0} → (S → List Float → List Float → S) → S → List (Float × Float) → S
chunk_as_float_binary f out pairs = flushed_binary f (foldl (stored_binary f) ([], [], out) pairs)

-- ---- whole arrays
-- the closure that takes a chunk: `out.combine(&VarState::new(chunk))`, and likewise of the other states
abbrev pub combine_new : {A S : Type 0} → (List A → S) → (S → S → S) → S → List A → S
combine_new new combine out chunk = combine out (new chunk)

-- `var`, `skew` and `kurtosis`, of their state's `new`, `combine` and `default`
unfoldable pub whole_array : {S : Type 0} → (List Float → S) → (S → S → S) → S → PrimitiveArray → S
whole_array new combine default arr =
    cond (has_nulls arr) (chunk_as_float (combine_new new combine) default (non_null_values arr))
    (chunk_as_float (combine_new new combine) default arr.values)

-- the closure that takes two chunks: `out.combine(&CovState::new(l, r))`, and likewise of `PearsonState`
abbrev pub combine_new_binary : {S : Type 0} → (List Float → List Float → S) → (S → S → S) → S → List Float → List Float → S
combine_new_binary new combine out l r = combine out (new l r)

-- `cov` and `pearson_corr`, of their state's `new`, `combine` and `default`; their `assert!` holds of accepted traces
unfoldable pub pair_arrays : {S : Type 0} → (List Float → List Float → S) → (S → S → S) → S → PrimitiveArray → PrimitiveArray → S
pair_arrays new combine default x y =
    cond (has_nulls x || has_nulls y)
    (chunk_as_float_binary (combine_new_binary new combine) default (filter_map both_some (zip (options_of x) (options_of y))))
    (chunk_as_float_binary (combine_new_binary new combine) default (zip x.values y.values))

-- ---- ranges
-- `Bitmap::sliced`
abbrev pub sliced : ℕ → ℕ → List Bool → List Bool
sliced start len bits = take len (drop start bits)

-- `filter(|v| v.unset_bits() > 0)`
abbrev pub with_unset : Option (List Bool) → Option (List Bool)
with_unset none = none
with_unset (some bits) = cond (ltb 0 (unset_bits bits)) (some bits) none

-- `&values[start..][..length]`
abbrev pub range_of : Rust → List Float → ℕ → ℕ → List Float
range_of rust values start len = rust.part (rust.part values start (length values)) 0 len

-- the `match` of `from_array`: `new`, which is `from_iter` with the values' own length, or `from_iter` of the valid ones
abbrev pub from_range : {S : Type 0} → (List Float → ℕ → S) → Rust → List Float → Option (List Bool) → S
from_range from_iter rust values none = from_iter values (length values)
from_range from_iter rust values (some validity) = from_iter (filter_map then_some (zip values validity)) (set_bits rust validity)

-- `SkewState::from_array` and `KurtosisState::from_array`, of their state's `from_iter`
unfoldable pub from_array : {S : Type 0} → (List Float → ℕ → S) → Rust → PrimitiveArray → ℕ → ℕ → S
from_array from_iter rust arr start len =
    let validity = with_unset (Option.map (sliced start len) arr.validity) in
    from_range from_iter rust (range_of rust arr.values start len) validity
