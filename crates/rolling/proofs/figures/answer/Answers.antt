-- By the test and the figure. Assumes nothing.
use Rattle.std.proofs.Common.{sym, ◌∙◌}
use Rattle.rolling.proofs.figures.answer.Goals as goal

pub returns-then-is_valid : goal.returns-then-is_valid
returns-then-is_valid g c =
    rw (sym c.is_valid.ensures ∙ c.if-is_valid.true) (rw (c.or_nan.ensures, c.finalize.ensures, c.total.ensures))

pub returns : goal.returns
returns g c = rw (sym c.is_valid.ensures ∙ c.if-is_valid.false)
