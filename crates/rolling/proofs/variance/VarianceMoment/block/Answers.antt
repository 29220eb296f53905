-- Row after row, from what stands before the first. Assumes nothing.
use Rattle.std.proofs.Common.{[], ◌∷◌, refl, ◌∙◌, arith}
use Rattle.trace.specs.Lent.{traced}
use Rattle.moment.specs.Var.{var_finalize}
use Rattle.window.specs.Code.Widening.{raw_series}
use Rattle.window.proofs.Outputs.{◌then◌}
use Rattle.rolling.specs.Code.Layouts.{var_stored}
use Rattle.rolling.specs.Code.Rows.{plan_by}
use Rattle.rolling.proofs.LowestHighest.{variance_row, lowest-row, highest-row, extremes_total}
use Rattle.rolling.proofs.RowLoops.{told, columns-start, columns-row, columns-have, columns-movable, columns-fits}
use Rattle.rolling.proofs.RowLoops.{columns-answer, columns-turn, columns-end, columns-done}
use Rattle.rolling.proofs.variance.VarianceMoment.block.Goals as goal

pub loop-row-init : goal.loop-row-init
loop-row-init c =
    let t = traced c.args.x in
    let can = told var_stored (raw_series t.mapped t.map t.readings) c.len-n.ensures c.requires in
    columns-start var_stored _ _ _ _ _ _ _ _ can refl

pub next-next-requires : goal.next-next-requires
next-next-requires c =
    let t = traced c.args.x in
    let can = told var_stored (raw_series t.mapped t.map t.readings) c.len-n.ensures c.requires in
    columns-row var_stored _ _ _ _ _ _ _ _ can c.loop-row.invariant (omega arith)

pub step-w-requires : goal.step-w-requires
step-w-requires c =
    let t = traced c.args.x in
    let can = told var_stored (raw_series t.mapped t.map t.readings) c.len-n.ensures c.requires in
    rw (← c.len-n.ensures) (columns-movable var_stored _ _ _ _ _ _ _ _ can c.loop-row.invariant (omega arith))

pub total-state-requires : goal.total-state-requires
total-state-requires c =
    let t = traced c.args.x in
    let can = told var_stored (raw_series t.mapped t.map t.readings) c.len-n.ensures c.requires in
    let q = c.step-w in
    let f = columns-fits var_stored _ _ _ _ _ _ _ _ can c.loop-row.invariant (omega arith) q.ensures q.auto.work in
    extremes_total q.ensures.held f.0 f.1

pub answer-figure-requires : goal.answer-figure-requires
answer-figure-requires c =
    let t = traced c.args.x in
    let can = told var_stored (raw_series t.mapped t.map t.readings) c.len-n.ensures c.requires in
    let q = c.step-w in
    let f = columns-fits var_stored _ _ _ _ _ _ _ _ can c.loop-row.invariant (omega arith) q.ensures q.auto.work in
    record { few = f.1; rises = f.2 }

pub write-requires : goal.write-requires
write-requires c =
    let t = traced c.args.x in
    let can = told var_stored (raw_series t.mapped t.map t.readings) c.len-n.ensures c.requires in
    (columns-have var_stored _ _ _ _ _ _ _ _ can c.loop-row.invariant (omega arith)).0

pub is_short-short-requires : goal.is_short-short-requires
is_short-short-requires c =
    let t = traced c.args.x in
    let can = told var_stored (raw_series t.mapped t.map t.readings) c.len-n.ensures c.requires in
    let q = c.step-w in
    (columns-fits var_stored _ _ _ _ _ _ _ _ can c.loop-row.invariant (omega arith) q.ensures q.auto.work).2

pub write-requires-in-loop-row : goal.write-requires-in-loop-row
write-requires-in-loop-row c =
    let t = traced c.args.x in
    let can = told var_stored (raw_series t.mapped t.map t.readings) c.len-n.ensures c.requires in
    (columns-have var_stored _ _ _ _ _ _ _ _ can c.loop-row.invariant (omega arith)).1.0

pub write-requires-in-loop-row-2 : goal.write-requires-in-loop-row-2
write-requires-in-loop-row-2 c =
    let t = traced c.args.x in
    let can = told var_stored (raw_series t.mapped t.map t.readings) c.len-n.ensures c.requires in
    (columns-have var_stored _ _ _ _ _ _ _ _ can c.loop-row.invariant (omega arith)).1.1.0

pub loop-row-preserved : goal.loop-row-preserved
loop-row-preserved c =
    let t = traced c.args.x in
    let can = told var_stored (raw_series t.mapped t.map t.readings) c.len-n.ensures c.requires in
    let g = c.args in
    let q = c.step-w in
    let v = c.loop-row in
    let b = (columns-row var_stored _ _ _ _ _ _ _ _ can v.invariant (omega arith)).bounds in
    let p = plan_by g.rows c.len-n.result in
    let short = c.is_short-short.ensures in
    let a = columns-answer var_stored _ _ _ _ _ _ _ _ can v.invariant (omega arith) q.ensures q.auto.work (λ y. var_finalize y.var g.self.ddof)
    (c.answer-figure.ensures ∙ rw (c.total-state.ensures, c.is_mapped-mapped.ensures))
    ∙ variance_row g.self.ddof t.mapped t.map t.readings _ _ _ in
    let l = lowest-row t.mapped t.map t.readings _ g.rows.widest v.row p v.w.window q.ensures b.start_is b.end_is c.total-state.ensures
    (rw c.is_mapped-mapped.ensures at short) c.extreme.ensures in
    let h = highest-row t.mapped t.map t.readings _ g.rows.widest v.row p v.w.window q.ensures b.start_is b.end_is c.total-state.ensures
    (rw c.is_mapped-mapped.ensures at short) c.extreme-in-loop-row.ensures in
    columns-turn var_stored _ _ _ _ _ _ _ _ can v.invariant (omega arith) q.ensures q.auto.work
    {xs = c.answer-figure.result ∷ c.extreme.result ∷ c.extreme-in-loop-row.result ∷ []} (a then l then h then refl)
    (c.write.ensures, (c.write-in-loop-row.ensures, (c.write-in-loop-row-2.ensures, tt))) c.next-next.ensures

pub returns : goal.returns
returns c =
    let t = traced c.args.x in
    let can = told var_stored (raw_series t.mapped t.map t.readings) c.len-n.ensures c.requires in
    let v = c.loop-row.invariant in
    rw (← c.len-n.ensures)
    (record {
      ahead = columns-end var_stored _ _ _ _ _ _ _ _ can v (omega arith);
      works = columns-done var_stored _ _ _ _ _ _ _ _ can v (omega arith);
    })
