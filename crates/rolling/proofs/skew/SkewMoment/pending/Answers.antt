-- By the two tests. Assumes nothing.
use Rattle.std.proofs.Common.{Some, sym, ap, ◌∙◌}
use Rattle.rolling.specs.Code.Slots.{pending_of}
use Rattle.rolling.proofs.skew.SkewMoment.pending.Goals as goal
use Rattle.rolling.proofs.skew.SkewMoment.pending.Goals.{else-is_valid-via-then-is_valid+else-has_figure, else-is_valid-via-else-is_valid}

pub returns-then-has_figure : goal.returns-then-has_figure
unfolding pending_of
returns-then-has_figure c =
    rw (sym c.is_valid.ensures ∙ c.if-is_valid.true, sym c.has_figure.ensures ∙ c.if-has_figure.true) (ap Some c.total.ensures)

pub returns : goal.returns
unfolding pending_of
returns c =
    elim c.else-is_valid.branch [
      | else-is_valid-via-then-is_valid+else-has_figure w ↦
          rw (sym c.is_valid.ensures ∙ w.if-is_valid.true, sym w.has_figure.ensures ∙ w.if-has_figure.false)
      | else-is_valid-via-else-is_valid w ↦ rw (sym c.is_valid.ensures ∙ w.if-is_valid.false)
    ]
