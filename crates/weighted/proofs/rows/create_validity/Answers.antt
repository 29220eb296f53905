-- Row after row its window is held, and the bytes of the rows before are written. Assumes nothing.
use Rattle.std.proofs.Common.{refl, ◌∙◌, arith}
use Rattle.window.proofs.Outputs.{upto-start, upto_next}
use Rattle.plan.proofs.FixedWindows.{reaches-first, reaches-next}
use Rattle.weighted.proofs.WeightedRows.{validity-is}
use Rattle.weighted.proofs.rows.create_validity.Goals as goal

pub loop-row-init : goal.loop-row-init
loop-row-init c = record { filled = upto-start _ _; held = λ _. reaches-first _ _ _ refl c.min.ensures }

pub loop-row-preserved : goal.loop-row-preserved
loop-row-preserved c =
    let l = c.loop-row in
    let h = c.loop-row-test.true in
    record {
      filled = upto_next _ _ _ _ _ _ l.invariant.filled (omega (arith, c.requires)) (c.from.ensures ∙ validity-is _ _ _ _ l.invariant.held h _) refl;
      held = λ _. reaches-next _ _ _ _ h (omega (arith, c.ranges)) (l.invariant.held h) c.next_offsets-at.ensures;
    }
