-- One slot more: the place of the root is read before it is written. Assumes nothing.
use Rattle.std.proofs.Common.{◌≡◌, refl, ◌∙◌, get_or, length, arith}
use lib.Ieee.{nan}
use Rattle.float.specs.Tables.{table}
use Rattle.float.proofs.Tables.{table_more, table-over, table-behind}
use Rattle.rolling.proofs.skew.Slots.estimates.Goals as goal
use Rattle.rolling.proofs.skew.Slots.estimates.Goals.{then-bias, else-bias}

pub loop-i-init : goal.loop-i-init
unfolding table
loop-i-init c = refl

pub loop-i-preserved : goal.loop-i-preserved
loop-i-preserved c =
    let v = c.loop-i.invariant in
    let r : get_or c.loop-i.figures c.loop-i.i nan ≡ get_or c.args.figures.now c.loop-i.i nan = rw v (table-behind _ _ _ _) in
    rw v
    (table_more _ _ c.loop-i.i _
    (c.canonical.ensures
    ∙ (elim c.if-bias.branch [
      | then-bias w ↦ rw (w.estimate-is, w.if-bias.true, r)
      | else-bias w ↦ rw (w.estimate-is, w.if-bias.false, r)
    ]))
    (omega arith))

pub returns : goal.returns
returns c =
    let e : c.loop-i.i ≡ length c.args.figures.now = omega arith in
    rw (← e) (c.loop-i.invariant ∙ table-over _ _ c.loop-i.i (omega arith))
