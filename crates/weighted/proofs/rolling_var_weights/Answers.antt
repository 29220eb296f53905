-- A refusal as it is found, else the rows by the weights' sum. Assumes nothing.
use Rattle.trace.specs.Lent.{traced}
use Rattle.window.specs.Outputs.{column}
use Rattle.weighted.proofs.WeightedRows.{weights-stopped, weights-accepted, weights-called}
use Rattle.weighted.proofs.rolling_var_weights.Goals as goal

pub returns-in_err-check_weights : goal.returns-in_err-check_weights
returns-in_err-check_weights c =
    weights-stopped _ _ _ _ _ _ _ _ c.from_residual.ensures.1 (rw (← c.sum-total.ensures, ← c.min-outputs.ensures) c.in_err-check_weights.ensures)

pub write_rows-requires : goal.write_rows-requires
write_rows-requires c =
    weights-accepted c.args.windows.window_size c.args.weights.now (traced c.args.x) (column c.args.figures.now c.args.present.now)
    (rw (← c.sum-total.ensures, ← c.min-outputs.ensures) c.in_ok-check_weights.ensures) c.sum-total.ensures

pub returns : goal.returns
returns c =
    weights-called _ _ _ _ _ _ (rw (← c.sum-total.ensures, ← c.min-outputs.ensures) c.in_ok-check_weights.ensures) c.write_rows.ensures
