-- Row after row the window holds the account, and the lists its answers. Assumes nothing.
use Rattle.std.proofs.Common.{[], ◌∷◌}
use Rattle.trace.specs.Lent.{traced}
use Rattle.window.specs.Outputs.{column}
use Rattle.window.specs.Code.Widening.{raw_series}
use Rattle.rolling.specs.Moments.{Variance}
use Rattle.rolling.specs.Calls.{query, yields}
use Rattle.rolling.specs.Code.Layouts.{var_stored}
use Rattle.rolling.specs.Code.Rows.{plan_by}
use Rattle.rolling.proofs.RowLoops.{ColumnTurn}
use Rattle.rolling.proofs.variance.VarianceMoment.block.Given as goal

abbrev pub invariant-loop-row : goal.invariant-loop-row
invariant-loop-row l =
    let t = traced l.x in
    ColumnTurn var_stored (raw_series t.mapped t.map t.readings) l.n l.rows
    (yields (query (plan_by l.rows l.n) l.rows.min_periods (Variance l.self.ddof)) t) l.first l.until l.initial.work
    (column l.initial.figures l.initial.present ∷ column l.initial.lowest l.initial.lowest_present ∷ column l.initial.highest l.initial.highest_present ∷ [])
    l.w.window l.w.agg_back l.next l.work (column l.figures l.present ∷ column l.lowest l.lowest_present ∷ column l.highest l.highest_present ∷ []) l.row
