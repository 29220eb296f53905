-- By what is given, by the plan's own check, then by what is lent. Assumes nothing.
use Rattle.std.proofs.Common.{◌∙◌, arith}
use Rattle.trace.proofs.Checks.{number_above}
use Rattle.plan.proofs.Numbers.{given_told, plan_told, lent_told}
use Rattle.plan.proofs.plan_refusal.Goals as goal

pub returns-then-given-ne0 : goal.returns-then-given-ne0
returns-then-given-ne0 c = given_told _ _ _ _ _ _ _ c.if-given-ne0.true

pub returns-in-Err : goal.returns-in-Err
returns-in-Err c =
    plan_told _ _ _ _ _ _ _ _ c.if-given-ne0.false (c.from.ensures ∙ c.in-Err.ensures.number_is)
    (λ z. omega (arith, number_above c.in-Err.refusal, c.from.ensures, z))

pub returns-in-Ok : goal.returns-in-Ok
returns-in-Ok c =
    lent_told _ _ _ _ _ _ _ _ _ c.if-given-ne0.false c.in-Ok.ensures.number_is c.in-Ok.ensures.wide_is
    (c.first.ensures ∙ rw (c.refuse.ensures, c.refuse-in-Ok.ensures, c.is_too_little.ensures))
