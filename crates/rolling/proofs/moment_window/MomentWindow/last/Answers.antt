-- The state is read where it lies. Assumes nothing.
use Rattle.std.proofs.Common.{eq-eqb, ne_eqb, ◌∙◌}
use Rattle.window.specs.Code.Stacks.{top_of}
use Rattle.rolling.proofs.moment_window.MomentWindow.last.Goals as goal

pub returns-then-n-eq0 : goal.returns-then-n-eq0
unfolding top_of
returns-then-n-eq0 g c = rw (eq-eqb _ _ c.if-n-eq0.true) c.empty.ensures

pub returns : goal.returns
unfolding top_of
returns g c = rw (ne_eqb _ _ c.if-n-eq0.false) (c.load.ensures ∙ rw (c.WIDTH.ensures, ← g.met.S.InMemory.wide))
