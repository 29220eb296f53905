-- A refusal as it is checked, else the rows. Assumes nothing.
use Rattle.std.proofs.Common.{arith}
use Rattle.rolling.specs.Code.Ops.{stored_by}
use Rattle.rolling.proofs.OneFigure.{driven_fixed, fixed_stopped, fixed_given}
use Rattle.rolling.proofs.figures.fixed.Goals as goal

pub overflow_add-place : goal.overflow_add-place
overflow_add-place g c = omega (arith, g.met.S.InMemory.narrow, g.met.S.Entry.InMemory.narrow, c.WIDTH.ensures, c.WIDTH-2.ensures)

pub returns-in_err-widest : goal.returns-in_err-widest
returns-in_err-widest g c =
    let M = stored_by g.S.Entry.InMemory.layout g.S.InMemory.layout g.S.WindowState.ops in
    fixed_stopped M _ _ _ _ _ c.check.ensures c.len.ensures
    (rw (c.WIDTH.ensures, c.WIDTH-2.ensures, g.met.S.InMemory.wide, g.met.S.Entry.InMemory.wide)) c.min-outputs.ensures _ _ c.in_err-widest.ensures
    _ c.from_residual.ensures.1

pub rows-requires : goal.rows-requires
rows-requires g c =
    let k = rw (c.len.ensures, c.WIDTH.ensures, c.WIDTH-2.ensures, ← g.met.S.InMemory.wide, ← g.met.S.Entry.InMemory.wide, c.min-outputs.ensures) at c.in_ok-widest.ensures.accepted c.args.windows.center in
    rw c.fixed.ensures (driven_fixed _ _ _ _ _ k (λ z. g.met.T.Places.few c.args.x (rw c.check.ensures at z)))

pub returns : goal.returns
returns g c =
    let M = stored_by g.S.Entry.InMemory.layout g.S.InMemory.layout g.S.WindowState.ops in
    fixed_given M _ _ _ _ _ c.check.ensures c.len.ensures
    (rw (c.WIDTH.ensures, c.WIDTH-2.ensures, g.met.S.InMemory.wide, g.met.S.Entry.InMemory.wide)) c.min-outputs.ensures _ _ c.in_ok-widest.widest c.in_ok-widest.ensures
    (rw c.fixed.ensures at c.rows.ensures)
