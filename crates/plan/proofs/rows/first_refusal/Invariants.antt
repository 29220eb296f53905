-- Row after row, with the row before in a local. Assumes nothing.
use Rattle.std.proofs.Common.{length}
use Rattle.plan.specs.Plan.{plan_of}
use Rattle.plan.proofs.Plans.{Walked}
use Rattle.plan.proofs.rows.first_refusal.Given as goal

abbrev pub invariant-loop-start : goal.invariant-loop-start
invariant-loop-start l =
    Walked l.n (plan_of l.plan.starts.now l.plan.ends.now) (length l.yielded) l.widest l.before.start l.before.end
