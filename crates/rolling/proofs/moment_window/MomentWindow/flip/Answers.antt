-- One entry more is turned over. Assumes nothing.
use Rattle.std.proofs.Common.{◌∙◌, arith}
use Rattle.window.proofs.Stacks.{as-many, flip-start, flip-turn, flip-done}
use Rattle.rolling.proofs.moment_window.MomentWindow.flip.Goals as goal

pub loop-k-init : goal.loop-k-init
loop-k-init g c = (rw c.empty-agg.ensures g.met.S.WindowState.starts, λ B many standing. flip-start many c.empty-agg.ensures)

pub loop-k-preserved : goal.loop-k-preserved
loop-k-preserved g c =
    let l = c.loop-k in
    let p = c.requires in (
      rw c.insert-agg.ensures (g.met.S.WindowState.grows _ _ _ (omega (arith, p)) l.invariant.0),
      λ B many standing.
          rw (c.store.ensures, c.WIDTH-in-loop-k.ensures, ← g.met.S.InMemory.wide)
          (flip-turn many p.front_room p.back_room standing (l.invariant.1 B many standing) c.loop-k-test.true _
          (c.load-x.ensures ∙ rw (c.WIDTH.ensures, ← g.met.S.Entry.InMemory.wide)) _ c.insert-agg.ensures),
    )

pub returns : goal.returns
returns g c = λ B standing.
    let many = as-many g.S.Entry.InMemory.layout _ _ _ _ (rw (← g.met.S.Entry.InMemory.wide) at g.met.S.Entry.InMemory.some) c.requires.back_room standing in
    flip-done many (c.loop-k.invariant.1 B many standing) (omega arith)
