-- One place more: an entry appended, or a place passed over. Assumes nothing.
use Rattle.window.specs.Code.Stacks.{Appended}
use Rattle.rolling.specs.Code.Ops.{stored_by, series_by}
use Rattle.rolling.proofs.moment_window.Appended.append.Given as goal

abbrev pub invariant-loop-i : goal.invariant-loop-i
invariant-loop-i g l =
    let here = l.appended in
    g.S.WindowState.counts here.agg_back here.back
    × Appended (stored_by g.S.Entry.InMemory.layout g.S.InMemory.layout g.S.WindowState.ops)
    (series_by (g.T.Places.places l.series) (g.T.Series.entries l.series))
    l.initial.back l.fn.self.back l.fn.self.nonfinite l.fn.self.agg_back l.a l.i l.back here.back here.nonfinite here.agg_back
