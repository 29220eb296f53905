-- Row after row the window stands before the next, and the rows behind it have their bytes and slots. Assumes nothing.
use Rattle.std.proofs.Common.{arith}
use Rattle.float.proofs.Counts.{zero_is}
use Rattle.moment.proofs.Weights.{raising, skew_weight, skew_raises}
use Rattle.moment.specs.Skew.{skew_insert}
use Rattle.rolling.proofs.Counts.{can-total}
use Rattle.rolling.proofs.Blocks.{block-starts, block-fits, block-next}
use Rattle.rolling.proofs.skew.SkewMoment.block.Goals as goal

pub loop-row-init : goal.loop-row-init
loop-row-init c = block-starts _ _ _ _ _ _ _ c.requires

pub prepare-requires-clause-can_pend : goal.prepare-requires-clause-can_pend
prepare-requires-clause-can_pend c =
    let q = c.step-w in
    let f = block-fits _ _ _ _ _ _ _ c.requires c.loop-row.invariant (omega arith) q.ensures q.auto.work in
    record { total = can-total _ _ zero_is (raising skew_weight skew_insert skew_raises) q.ensures.held f.0 f.1; rises = f.2 }

pub loop-row-preserved : goal.loop-row-preserved
loop-row-preserved c =
    let q = c.step-w in
    block-next _ _ _ _ _ _ _ c.requires c.loop-row.invariant (omega arith) q.ensures q.auto.work
    (rw c.is_mapped.ensures at c.prepare.ensures) c.next-next.ensures
