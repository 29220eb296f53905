-- The rows that have a place for the weight gain its term. Assumes nothing.
use Rattle.weighted.proofs.WeightedSums.{weighed-none, weighed-some}
use Rattle.weighted.proofs.sums.BlockSums.weigh.Goals as goal

pub returns-then-from-to : goal.returns-then-from-to
returns-then-from-to c =
    weighed-some _ _ _ _ _ _ _ _ _ c.args.block.rows c.requires.sums c.first_row-from.ensures c.last_row-to.ensures c.if-from-to.true c.add.ensures

pub returns-else-from-to : goal.returns-else-from-to
returns-else-from-to c =
    weighed-none _ _ _ _ _ _ _ _ _ c.args.block.rows c.requires.sums c.first_row-from.ensures c.last_row-to.ensures c.if-from-to.false
