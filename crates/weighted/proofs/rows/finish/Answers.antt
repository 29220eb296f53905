-- The doubles of the rows so far. Assumes nothing.
use Rattle.std.proofs.Common.{get_or, ap, refl, ◌∙◌}
use Rattle.std.specs.Prelude.{Float}
use Rattle.moment.specs.Figure.{double_of}
use Rattle.window.proofs.Outputs.{upto-start, upto_next}
use Rattle.weighted.specs.Code.Rows.{answer_of}
use Rattle.weighted.proofs.rows.finish.Goals as goal

pub loop-r-init : goal.loop-r-init
loop-r-init c = upto-start _ _

pub loop-r-preserved : goal.loop-r-preserved
loop-r-preserved c =
    upto_next _ _ _ _ _ _ c.loop-r.invariant c.loop-r-test.true (c.double.ensures ∙ ap (λ (x : Float). double_of (answer_of (get_or c.args.present.now c.loop-r.r 0) x)) c.variance-variance.ensures) refl
