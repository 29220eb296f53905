-- By each check; the rows are tested where the lists are of one length. Assumes nothing.
use Rattle.trace.proofs.Checks.{stands, goes_on}
use Rattle.plan.specs.Refusals.{listed_refusal}
use Rattle.plan.proofs.Checks.{widest_stops, lists_pass}
use Rattle.plan.proofs.Plan.widest.Goals as goal

pub returns-in_err-when : goal.returns-in_err-when
unfolding listed_refusal
returns-in_err-when c = widest_stops _ _ _ _ c.from_residual.ensures.1 (stands _ _ _ c.in_err-when.ensures)

pub scan-requires : goal.scan-requires
scan-requires c = lists_pass _ _ _ c.in_ok-when.ensures

pub returns : goal.returns
unfolding listed_refusal
returns c = record { number_is = goes_on _ _ _ c.in_ok-when.ensures c.scan.ensures.number_is; wide_is = c.scan.ensures.wide_is }
