-- By the comparison. Assumes nothing.

use Rattle.rolling.proofs.extremes.higher_of.Goals as goal

pub returns-then-x-y : goal.returns-then-x-y
returns-then-x-y c = rw c.if-x-y.true

pub returns-else-x-y : goal.returns-else-x-y
returns-else-x-y c = rw c.if-x-y.false
