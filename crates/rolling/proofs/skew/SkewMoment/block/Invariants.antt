-- Row after row the window stands before the next, and the rows behind it have their bytes and slots. Assumes nothing.
use Rattle.trace.specs.Lent.{traced}
use Rattle.rolling.proofs.Blocks.{BlockTurn}
use Rattle.rolling.proofs.skew.SkewMoment.block.Given as goal

abbrev pub invariant-loop-row : goal.invariant-loop-row
invariant-loop-row l =
    BlockTurn l.self.bias (traced l.x) l.rows l.first l.until l.initial.work l.initial.present l.w.window l.w.agg_back l.next l.work
    l.present l.slots l.row
