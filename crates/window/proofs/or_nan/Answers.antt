-- By the count and the figure's case. Assumes nothing.
use lib.Ieee.{of_bits}
use borrow.Author.Tests.{eq-eqb, ne_eqb}
use Rattle.window.specs.Window.{or_nan}
use Rattle.window.proofs.or_nan.Goals as goal

pub returns-then-nonfinite-eq0 : goal.returns-then-nonfinite-eq0
unfolding or_nan
returns-then-nonfinite-eq0 c = rw (eq-eqb _ _ c.if-nonfinite-eq0.true)

pub returns-in_default : goal.returns-in_default
unfolding or_nan
returns-in_default c = rw (ne_eqb _ _ c.if-nonfinite-eq0.false, c.in_default.is)

pub returns : goal.returns
unfolding or_nan of_bits
returns c = rw (ne_eqb _ _ c.if-nonfinite-eq0.false, c.in-Present.is)
