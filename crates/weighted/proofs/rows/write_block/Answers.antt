-- Sums that start at zero, and the doubles of those that all weights have made. Assumes nothing.
use Rattle.weighted.proofs.WeightedSums.{sums-start}
use Rattle.weighted.proofs.WeightedRows.{block_done}
use Rattle.weighted.proofs.rows.write_block.Goals as goal

pub weigh_all-requires : goal.weigh_all-requires
weigh_all-requires c = sums-start _ _ _ _ _ _ c.args.block.rows

pub returns : goal.returns
returns c = block_done _ _ _ _ _ _ c.args.block.rows c.weigh_all.ensures _ c.requires.figures_long c.finish.ensures
