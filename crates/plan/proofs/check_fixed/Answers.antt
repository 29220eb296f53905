-- By each check; the bounds of a call that is accepted are a plan in order. Assumes nothing.
use Rattle.std.proofs.Common.{sym, ap, ◌∙◌}
use Rattle.trace.specs.Outcomes.{outcome_number}
use Rattle.trace.proofs.Checks.{stands, goes_on}
use Rattle.plan.specs.Refusals.{fixed_refusal}
use Rattle.plan.proofs.Checks.{fixed_stops, work_check}
use Rattle.plan.proofs.FixedWindows.{fixed_passes}
use Rattle.plan.proofs.check_fixed.Goals as goal

pub returns-in_err-given : goal.returns-in_err-given
unfolding fixed_refusal
returns-in_err-given c =
    fixed_stops _ _ _ _ _ _ _ _ c.from_residual.ensures.1 (stands _ _ _ (stands _ _ _ (sym (ap outcome_number c.in_err-given.was))))

pub returns-in_err-when : goal.returns-in_err-when
unfolding fixed_refusal
returns-in_err-when c =
    fixed_stops _ _ _ _ _ _ _ _ c.from_residual-in_err-when.ensures.1
    (stands _ _ _ (goes_on _ _ _ (sym (ap outcome_number c.in_ok-given.was)) c.in_err-when.ensures))

pub returns-in_err-when-2 : goal.returns-in_err-when-2
unfolding fixed_refusal
returns-in_err-when-2 c =
    fixed_stops _ _ _ _ _ _ _ _ c.from_residual-in_err-when-2.ensures.1
    (goes_on _ _ _ (goes_on _ _ _ (sym (ap outcome_number c.in_ok-given.was)) c.in_ok-when.ensures) (c.in_err-when-2.ensures ∙ work_check _ _ _ _ _ c.is_too_little.ensures c.widest-widest.ensures))

pub returns : goal.returns
unfolding fixed_refusal
returns c =
    fixed_passes _ _ _ _ _ _ _ c.widest-widest.ensures
    (goes_on _ _ _ (goes_on _ _ _ (sym (ap outcome_number c.in_ok-given.was)) c.in_ok-when.ensures) (c.in_ok-when-2.ensures ∙ work_check _ _ _ _ _ c.is_too_little.ensures c.widest-widest.ensures))
