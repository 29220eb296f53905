-- Document 01, States (000): `VarState`, every operation rounded once in the source's order. A state is any set of floats.
-- Assumes nothing.
use Rattle.std.specs.Prelude.{ℕ, Bool, true, cond, ◌||◌, List, length, ◌==◌, is_nan, Float}
use Rattle.std.specs.Float.Ieee.{eq, lt, le}
use Rattle.float.specs.Operators.{◌⊕◌, ◌⊖◌, ◌⊗◌, ◌⊘◌, zero64, one64, of_nat64}
use Rattle.moment.specs.Sums.{sum_of, itself, square}
use Rattle.moment.specs.Updates.{mean_with, products_with}
use Rattle.moment.specs.declared.var_state.VarState.{VarState}
use Rattle.moment.specs.declared.Figure.{Figure}
use Rattle.moment.specs.declared.Figure.TheVariants.{Missing, Present}

-- `VarState::default`
abbrev pub var_empty : VarState
var_empty = record { weight = zero64; mean = zero64; dp = zero64 }

-- the mean of one or more readings: their sum over their count
abbrev pub mean_of : List Float → Float
mean_of xs = sum_of itself xs ⊘ of_nat64 (length xs)

-- `VarState::new` of one or more readings, about a mean
abbrev pub var_about : Float → Float → List Float → VarState
var_about w mean xs = record { weight = w; mean = mean; dp = sum_of (square mean) xs }

-- `VarState::new`
unfoldable pub var_new : List Float → VarState
var_new xs = cond (length xs == 0) var_empty (var_about (of_nat64 (length xs)) (mean_of xs) xs)

-- `VarState::clear_zero_weight_nan`
unfoldable pub var_clear : VarState → VarState
var_clear s = cond (eq s.weight zero64) (record { weight = s.weight; mean = zero64; dp = zero64 }) s

-- `VarState::insert_one`, before its clear_zero_weight_nan
abbrev pub var_inserted : VarState → Float → VarState
var_inserted s x =
    let w = s.weight ⊕ one64 in
    let delta = x ⊖ s.mean in
    let mean = s.mean ⊕ delta ⊘ w in
    record { weight = w; mean = mean; dp = s.dp ⊕ (x ⊖ mean) ⊗ delta }

-- `VarState::insert_one`
abbrev pub var_insert : VarState → Float → VarState
var_insert s x = var_clear (var_inserted s x)

-- `VarState::combine` after its test of the other weight and before its clear_zero_weight_nan
abbrev pub var_merged : VarState → VarState → VarState
var_merged s o =
    let mean = mean_with s.weight s.mean o.weight o.mean in
    let dp = products_with s.dp o.dp o.weight (o.mean ⊖ mean) (o.mean ⊖ s.mean) in
    record { weight = s.weight ⊕ o.weight; mean = mean; dp = dp }

-- `VarState::combine`, where the other weight is not zero
abbrev pub var_merge : VarState → VarState → VarState
var_merge s o = var_clear (var_merged s o)

-- `VarState::combine`: an empty state is merged into like any other (P3)
unfoldable pub var_combine : VarState → VarState → VarState
var_combine s o = cond (eq o.weight zero64) s (var_merge s o)

-- "gives 0.0 for a quotient below zero, minus infinity too, as 000 does; NaN stays NaN"
abbrev pub not_negative : Float → Float
not_negative v = cond (lt v zero64) zero64 v

-- `VarState::finalize`: "missing .. when weight ≤ ddof"
unfoldable pub var_finalize : VarState → ℕ → Figure
var_finalize s ddof = cond (le s.weight (of_nat64 ddof)) Missing (Present (not_negative (s.dp ⊘ (s.weight ⊖ of_nat64 ddof))))

-- "variance is shown NaN or at least zero", where it is not missing
unfoldable pub not_below_zero : Figure → Bool
not_below_zero Missing = true
not_below_zero (Present v) = is_nan v || le zero64 v
