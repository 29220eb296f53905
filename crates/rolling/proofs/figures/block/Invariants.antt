-- Row after row the window holds the account, and the lists its answers. Assumes nothing.
use Rattle.rolling.specs.Code.Ops.{stored_by, series_by}
use Rattle.rolling.proofs.RowLoops.{Turn}
use Rattle.rolling.proofs.figures.block.Given as goal

abbrev pub invariant-loop-row : goal.invariant-loop-row
invariant-loop-row g l =
    Turn (stored_by g.S.Entry.InMemory.layout g.S.InMemory.layout g.S.WindowState.ops) (g.F.Finalize.finalize l.moment)
    (series_by (g.T.Places.places l.series) (g.T.Series.entries l.series)) l.n l.rows l.first l.until l.initial.work
    l.initial.figures l.initial.present l.w.window l.w.agg_back l.next l.work l.figures l.present l.row
