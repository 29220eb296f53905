-- Document 01, "Whole arrays (000)": "`CovState` and `PearsonState` have all their operations". Here `CovState`, every
-- operation rounded once in the source's order. Assumes nothing.
use Rattle.std.specs.Prelude.{ℕ, cond, List, length, ◌==◌, Float}
use Rattle.std.specs.Float.Ieee.{eq, le}
use Rattle.float.specs.Operators.{◌⊕◌, ◌⊖◌, ◌⊗◌, ◌⊘◌, zero64, one64, of_nat64}
use Rattle.moment.specs.Sums.{sum_of, first_of, second_of, deviation_product}
use Rattle.moment.specs.Updates.{mean_with, products_with}
use Rattle.moment.specs.declared.cov_state.CovState.{CovState}
use Rattle.moment.specs.declared.Figure.{Figure}
use Rattle.moment.specs.declared.Figure.TheVariants.{Missing, Present}

-- `CovState::default`
abbrev pub cov_empty : CovState
cov_empty = record { weight = zero64; mean_x = zero64; mean_y = zero64; dp_xy = zero64 }

-- a mean of one or more pairs: the sum of one member, times one over the count
abbrev pub pair_mean : (Float × Float → Float) → List (Float × Float) → Float
pair_mean member ps = sum_of member ps ⊗ (one64 ⊘ of_nat64 (length ps))

-- `CovState::new` of one or more pairs, about two means
abbrev pub cov_about : Float → Float → Float → List (Float × Float) → CovState
cov_about w mean_x mean_y ps = record { weight = w; mean_x = mean_x; mean_y = mean_y; dp_xy = sum_of (deviation_product mean_x mean_y) ps }

-- `CovState::new`
unfoldable pub cov_new : List (Float × Float) → CovState
cov_new ps =
    cond (length ps == 0) cov_empty (cov_about (of_nat64 (length ps)) (pair_mean first_of ps) (pair_mean second_of ps) ps)

-- `CovState::insert_one`
abbrev pub cov_insert : CovState → Float → Float → CovState
cov_insert s x y =
    let mean_x = mean_with s.weight s.mean_x one64 x in
    let mean_y = mean_with s.weight s.mean_y one64 y in
    let dp = s.dp_xy ⊕ (x ⊖ mean_x) ⊗ (y ⊖ s.mean_y) in
    record { weight = s.weight ⊕ one64; mean_x = mean_x; mean_y = mean_y; dp_xy = dp }

-- `CovState::combine`, where neither weight is zero
abbrev pub cov_merge : CovState → CovState → CovState
cov_merge s o =
    let mean_x = mean_with s.weight s.mean_x o.weight o.mean_x in
    let mean_y = mean_with s.weight s.mean_y o.weight o.mean_y in
    let dp = products_with s.dp_xy o.dp_xy o.weight (o.mean_x ⊖ mean_x) (o.mean_y ⊖ s.mean_y) in
    record { weight = s.weight ⊕ o.weight; mean_x = mean_x; mean_y = mean_y; dp_xy = dp }

-- `CovState::combine`
unfoldable pub cov_combine : CovState → CovState → CovState
cov_combine s o = cond (eq o.weight zero64) s (cond (eq s.weight zero64) o (cov_merge s o))

-- `CovState::finalize`: "missing: variance and covariance when weight ≤ ddof"; a quotient below zero stays
unfoldable pub cov_finalize : CovState → ℕ → Figure
cov_finalize s ddof = cond (le s.weight (of_nat64 ddof)) Missing (Present (s.dp_xy ⊘ (s.weight ⊖ of_nat64 ddof)))
