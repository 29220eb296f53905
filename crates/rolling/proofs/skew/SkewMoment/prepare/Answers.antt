-- By whether the row has a state to finalise. Assumes nothing.
use Rattle.std.proofs.Common.{sym, ◌∙◌, arith}
use Rattle.rolling.proofs.Slots.{missing_waits, present_waits}
use Rattle.rolling.proofs.skew.SkewMoment.prepare.Goals as goal

pub returns-in_default : goal.returns-in_default
returns-in_default c =
    rw c.set.ensures
    (missing_waits _ _ _ c.requires.can_pend c.args.slots.now (omega arith) (omega arith) (omega arith)
    (sym c.pending.ensures ∙ c.in_default.is))

pub returns : goal.returns
returns c =
    rw c.set-2.ensures
    (present_waits _ _ _ c.requires.can_pend c.args.slots.now (omega arith) (omega arith) (omega arith)
    (sym c.pending.ensures ∙ c.in-Some.is) c.correction-factor.ensures c.m3_of.ensures)
