-- Block after block the outputs hold the answers of the rows before. Assumes nothing.
use Rattle.trace.specs.Lent.{traced}
use Rattle.rolling.proofs.Blocks.{Blocks}
use Rattle.rolling.proofs.skew.SkewMoment.rows.Given as goal

abbrev pub invariant-loop-first : goal.invariant-loop-first
invariant-loop-first l =
    Blocks l.self.bias (traced l.x) l.rows l.initial.work l.initial.figures l.initial.present l.standing.w.window l.standing.w.agg_back
    l.standing.at l.work l.figures l.present l.first
