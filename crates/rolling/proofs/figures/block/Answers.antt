-- Row after row, from what stands before the first. Assumes nothing.
use Rattle.std.proofs.Common.{◌∙◌, arith}
use Rattle.rolling.specs.Code.Ops.{stored_by, series_by}
use Rattle.rolling.proofs.Counts.{can-total}
use Rattle.rolling.proofs.RowLoops.{turn-starts, turn-row, turn-there, turn-movable, turn-fits, turn-next, turn-end, turn-done, told}
use Rattle.rolling.proofs.figures.block.Goals as goal

pub loop-row-init : goal.loop-row-init
loop-row-init g c =
    let M = stored_by g.S.Entry.InMemory.layout g.S.InMemory.layout g.S.WindowState.ops in
    let t = series_by (g.T.Places.places c.args.series) (g.T.Series.entries c.args.series) in
    let can = told M t c.len-n.ensures c.requires in
    turn-starts M _ _ _ _ _ _ _ _ _ can

pub next-next-requires : goal.next-next-requires
next-next-requires g c =
    let M = stored_by g.S.Entry.InMemory.layout g.S.InMemory.layout g.S.WindowState.ops in
    let t = series_by (g.T.Places.places c.args.series) (g.T.Series.entries c.args.series) in
    let can = told M t c.len-n.ensures c.requires in
    turn-row M _ _ _ _ _ _ _ _ _ can c.loop-row.invariant (omega arith)

pub step-w-requires : goal.step-w-requires
step-w-requires g c =
    let M = stored_by g.S.Entry.InMemory.layout g.S.InMemory.layout g.S.WindowState.ops in
    let t = series_by (g.T.Places.places c.args.series) (g.T.Series.entries c.args.series) in
    let can = told M t c.len-n.ensures c.requires in
    rw (← c.len-n.ensures) (turn-movable M _ _ _ _ _ _ _ _ _ can c.loop-row.invariant (omega arith))

pub answer-figure-requires : goal.answer-figure-requires
answer-figure-requires g c =
    let M = stored_by g.S.Entry.InMemory.layout g.S.InMemory.layout g.S.WindowState.ops in
    let t = series_by (g.T.Places.places c.args.series) (g.T.Series.entries c.args.series) in
    let can = told M t c.len-n.ensures c.requires in
    let q = c.step-w in
    let f = turn-fits M _ _ _ _ _ _ _ _ _ can c.loop-row.invariant (omega arith) q.ensures q.auto.work in
    record {
      total = can-total g.S.WindowState.ops g.S.WindowState.counts g.met.S.WindowState.starts g.met.S.WindowState.grows q.ensures.held f.0 f.1;
      row = record { few = f.1; rises = f.2 };
    }

pub write-requires : goal.write-requires
write-requires g c =
    let M = stored_by g.S.Entry.InMemory.layout g.S.InMemory.layout g.S.WindowState.ops in
    let t = series_by (g.T.Places.places c.args.series) (g.T.Series.entries c.args.series) in
    let can = told M t c.len-n.ensures c.requires in
    turn-there M _ _ _ _ _ _ _ _ _ can c.loop-row.invariant (omega arith)

pub loop-row-preserved : goal.loop-row-preserved
loop-row-preserved g c =
    let M = stored_by g.S.Entry.InMemory.layout g.S.InMemory.layout g.S.WindowState.ops in
    let t = series_by (g.T.Places.places c.args.series) (g.T.Series.entries c.args.series) in
    let can = told M t c.len-n.ensures c.requires in
    let q = c.step-w in
    turn-next M _ _ _ _ _ _ _ _ _ can c.loop-row.invariant (omega arith) q.ensures q.auto.work
    (c.answer-figure.ensures ∙ rw c.is_mapped.ensures) c.write.ensures c.next-next.ensures

pub returns : goal.returns
returns g c =
    let M = stored_by g.S.Entry.InMemory.layout g.S.InMemory.layout g.S.WindowState.ops in
    let t = series_by (g.T.Places.places c.args.series) (g.T.Series.entries c.args.series) in
    let can = told M t c.len-n.ensures c.requires in
    let v = c.loop-row.invariant in
    let e = turn-end M _ _ _ _ _ _ _ _ _ can v (omega arith) in
    rw (← c.len-n.ensures) (record { ahead = e; works = turn-done M _ _ _ _ _ _ _ _ _ can v (omega arith) })
