-- By the two tests. Assumes nothing.
use Rattle.std.proofs.Common.{sym, ◌∙◌}
use Rattle.window.specs.Code.Widening.{shown}
use Rattle.rolling.proofs.extremes.extreme.Goals as goal

pub returns-then-short : goal.returns-then-short
returns-then-short c = rw c.if-short.true

pub returns-then-is_finite : goal.returns-then-is_finite
unfolding shown
returns-then-is_finite c = rw (c.if-short.false, sym c.is_finite.ensures ∙ c.if-is_finite.true)

pub returns : goal.returns
unfolding shown
returns c = rw (c.if-short.false, sym c.is_finite.ensures ∙ c.if-is_finite.false)
