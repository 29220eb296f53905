-- By the test of the first. Assumes nothing.
use borrow.Author.Tests.{eq-eqb, ne_eqb}
use Rattle.trace.specs.Refusals.{◌or_else◌}
use Rattle.trace.proofs.refusals.first.Goals as goal

pub returns-then-a-eq0 : goal.returns-then-a-eq0
unfolding ◌or_else◌
returns-then-a-eq0 c = rw (eq-eqb _ _ c.if-a-eq0.true)

pub returns-else-a-eq0 : goal.returns-else-a-eq0
unfolding ◌or_else◌
returns-else-a-eq0 c = rw (ne_eqb _ _ c.if-a-eq0.false)
