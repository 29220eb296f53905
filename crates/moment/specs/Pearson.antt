-- Document 01, "Whole arrays (000)": `PearsonState` with all its operations, each rounded once in the source's order.
-- Assumes nothing.
use Rattle.std.specs.Prelude.{cond, List, length, ◌==◌, Float}
use Rattle.std.specs.Float.{nan}
use Rattle.std.specs.Float.Ieee.{eq, lt}
use Rattle.float.specs.Operators.{◌⊕◌, ◌⊖◌, ◌⊗◌, ◌⊘◌, zero64, one64, of_nat64}
use Rattle.root.specs.Root.{root}
use Rattle.moment.specs.Sums.{sum_of, first_of, second_of, square, deviation_product}
use Rattle.moment.specs.Cov.{pair_mean}
use Rattle.moment.specs.Updates.{mean_with, products_with}
use Rattle.moment.specs.declared.pearson_state.PearsonState.{PearsonState}

-- `PearsonState::default`
abbrev pub pearson_empty : PearsonState
pearson_empty =
    record {
      weight = zero64;
      mean_x = zero64;
      mean_y = zero64;
      dp_xx = zero64;
      dp_xy = zero64;
      dp_yy = zero64;
    }

-- (x - mean_x) * (x - mean_x) of a pair, and likewise of its second member
abbrev pub square_x : Float → Float × Float → Float
square_x mean_x p = square mean_x p.0

abbrev pub square_y : Float → Float × Float → Float
square_y mean_y p = square mean_y p.1

-- `PearsonState::new` of one or more pairs, about two means
abbrev pub pearson_about : Float → Float → Float → List (Float × Float) → PearsonState
pearson_about w mean_x mean_y ps =
    record {
      weight = w;
      mean_x = mean_x;
      mean_y = mean_y;
      dp_xx = sum_of (square_x mean_x) ps;
      dp_xy = sum_of (deviation_product mean_x mean_y) ps;
      dp_yy = sum_of (square_y mean_y) ps;
    }

-- `PearsonState::new`
unfoldable pub pearson_new : List (Float × Float) → PearsonState
pearson_new ps =
    cond (length ps == 0) pearson_empty
    (pearson_about (of_nat64 (length ps)) (pair_mean first_of ps) (pair_mean second_of ps) ps)

-- `PearsonState::insert_one`
abbrev pub pearson_insert : PearsonState → Float → Float → PearsonState
pearson_insert s x y =
    let mean_x = mean_with s.weight s.mean_x one64 x in
    let mean_y = mean_with s.weight s.mean_y one64 y in
    record {
      weight = s.weight ⊕ one64;
      mean_x = mean_x;
      mean_y = mean_y;
      dp_xx = s.dp_xx ⊕ (x ⊖ mean_x) ⊗ (x ⊖ s.mean_x);
      dp_xy = s.dp_xy ⊕ (x ⊖ mean_x) ⊗ (y ⊖ s.mean_y);
      dp_yy = s.dp_yy ⊕ (y ⊖ mean_y) ⊗ (y ⊖ s.mean_y);
    }

-- `PearsonState::combine`, where neither weight is zero
abbrev pub pearson_merge : PearsonState → PearsonState → PearsonState
pearson_merge s o =
    let mean_x = mean_with s.weight s.mean_x o.weight o.mean_x in
    let mean_y = mean_with s.weight s.mean_y o.weight o.mean_y in
    let dx = o.mean_x ⊖ s.mean_x in
    let dy = o.mean_y ⊖ s.mean_y in
    record {
      weight = s.weight ⊕ o.weight;
      mean_x = mean_x;
      mean_y = mean_y;
      dp_xx = products_with s.dp_xx o.dp_xx o.weight (o.mean_x ⊖ mean_x) dx;
      dp_xy = products_with s.dp_xy o.dp_xy o.weight (o.mean_x ⊖ mean_x) dy;
      dp_yy = products_with s.dp_yy o.dp_yy o.weight (o.mean_y ⊖ mean_y) dy;
    }

-- `PearsonState::combine`
unfoldable pub pearson_combine : PearsonState → PearsonState → PearsonState
pearson_combine s o = cond (eq o.weight zero64) s (cond (eq s.weight zero64) o (pearson_merge s o))

-- `PearsonState::finalize`: a figure always, NaN where the product of the two sums of squares is not above zero
unfoldable pub pearson_finalize : PearsonState → Float
pearson_finalize s =
    let denom = s.dp_xx ⊗ s.dp_yy in
    cond (lt zero64 denom) (s.dp_xy ⊘ root denom) nan
