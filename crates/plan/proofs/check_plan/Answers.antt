-- By each check, the plan's own among them. Assumes nothing.
use Rattle.std.proofs.Common.{sym, ap, ◌∙◌}
use Rattle.trace.specs.Outcomes.{outcome_number}
use Rattle.trace.proofs.Checks.{stands, goes_on}
use Rattle.plan.specs.Refusals.{plan_refusal}
use Rattle.plan.proofs.Checks.{plan_stops, plan_passes, listed, work_check}
use Rattle.plan.proofs.check_plan.Goals as goal

pub returns-in_err-given : goal.returns-in_err-given
unfolding plan_refusal
returns-in_err-given c =
    plan_stops _ _ _ _ _ _ _ _ _ c.from_residual.ensures.1
    (stands _ _ _ (stands _ _ _ (stands _ _ _ (stands _ _ _ (sym (ap outcome_number c.in_err-given.was))))))

pub returns-in_err-widest : goal.returns-in_err-widest
unfolding plan_refusal
returns-in_err-widest c =
    plan_stops _ _ _ _ _ _ _ _ _ c.from_residual-in_err-widest.ensures.1
    (stands _ _ _ (stands _ _ _ (listed _ _ _ _ (sym (ap outcome_number c.in_ok-given.was)) c.in_err-widest.ensures.number_is)))

pub returns-in_err-when : goal.returns-in_err-when
unfolding plan_refusal
returns-in_err-when c =
    plan_stops _ _ _ _ _ _ _ _ _ c.from_residual-in_err-when.ensures.1
    (stands _ _ _ (goes_on _ _ _ (listed _ _ _ _ (sym (ap outcome_number c.in_ok-given.was)) c.in_ok-widest.ensures.number_is) c.in_err-when.ensures))

pub returns-in_err-when-2 : goal.returns-in_err-when-2
unfolding plan_refusal
returns-in_err-when-2 c =
    plan_stops _ _ _ _ _ _ _ _ _ c.from_residual-in_err-when-2.ensures.1
    (goes_on _ _ _ (goes_on _ _ _ (listed _ _ _ _ (sym (ap outcome_number c.in_ok-given.was)) c.in_ok-widest.ensures.number_is) c.in_ok-when.ensures)
    (c.in_err-when-2.ensures ∙ work_check _ _ _ _ _ c.is_too_little.ensures c.in_ok-widest.ensures.wide_is))

pub returns : goal.returns
unfolding plan_refusal
returns c =
    plan_passes _ _ _ _ _ _ _ _ c.in_ok-widest.ensures.wide_is
    (goes_on _ _ _ (goes_on _ _ _ (listed _ _ _ _ (sym (ap outcome_number c.in_ok-given.was)) c.in_ok-widest.ensures.number_is) c.in_ok-when.ensures)
    (c.in_ok-when-2.ensures ∙ work_check _ _ _ _ _ c.is_too_little.ensures c.in_ok-widest.ensures.wide_is))
