-- Rows rise while no bound falls; a width that has wrapped is wider than the series. Assumes nothing.
use Rattle.std.proofs.Common.{length}
use Rattle.plan.specs.Plan.{plan_of}
use Rattle.plan.proofs.Plans.{Passed}
use Rattle.plan.proofs.rows.test_rows.Given as goal

abbrev pub invariant-loop-start : goal.invariant-loop-start
invariant-loop-start l =
    Passed l.n (plan_of l.plan.starts.now l.plan.ends.now) (length l.yielded) l.widest l.before_start l.before_end l.falls
