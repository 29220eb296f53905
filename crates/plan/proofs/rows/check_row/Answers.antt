-- By each check. Assumes nothing.
use Rattle.trace.proofs.Checks.{stands, stops, goes_on}
use Rattle.plan.specs.Refusals.{row_refusal}
use Rattle.plan.proofs.rows.check_row.Goals as goal

pub returns-in_err-when : goal.returns-in_err-when
unfolding row_refusal
returns-in_err-when c = stops _ _ _ _ c.from_residual.ensures.1 (stands _ _ _ c.in_err-when.ensures)

pub returns-in_err-when-2 : goal.returns-in_err-when-2
unfolding row_refusal
returns-in_err-when-2 c = stops _ _ _ _ c.from_residual-in_err-when-2.ensures.1 (goes_on _ _ _ c.in_ok-when.ensures c.in_err-when-2.ensures)

pub returns : goal.returns
unfolding row_refusal
returns c = goes_on _ _ _ (goes_on _ _ _ c.in_ok-when.ensures c.in_ok-when-2.ensures) c.when-3.ensures
