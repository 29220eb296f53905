-- The rows so far have the terms of their readings. Assumes nothing.
use Rattle.std.proofs.Common.{arith}
use Rattle.weighted.proofs.WeightedSums.{added-more}
use Rattle.weighted.proofs.sums.BlockSums.add.Goals as goal

pub loop-r-preserved : goal.loop-r-preserved
loop-r-preserved c = added-more _ _ _ _ _ _ c.loop-r-test.true c.loop-r.invariant (omega arith) (omega arith) (omega arith)
