-- Block after block the outputs hold the answers of the rows before. Assumes nothing.
use Rattle.std.proofs.Common.{◌≡◌, ◌+◌, refl, arith}
use Rattle.trace.specs.Lent.{traced}
use Rattle.rolling.proofs.Blocks.{blocks_start, blocks-can, blocks-next, blocks-done}
use Rattle.rolling.proofs.skew.SkewMoment.rows.Goals as goal

pub loop-first-init : goal.loop-first-init
loop-first-init c = blocks_start _ (traced c.args.x) _ _ _ _ c.requires c.new.ensures.window c.new.ensures.agg_back c.first.ensures

pub block-standing-requires : goal.block-standing-requires
block-standing-requires c =
    blocks-can _ (traced c.args.x) _ _ _ _ c.requires c.loop-first.invariant c.end_of-until.result
    (rw (← c.len-many.ensures) c.end_of-until.ensures) (rw (← c.len-many.ensures) c.loop-first-test.true)

pub loop-first-preserved : goal.loop-first-preserved
loop-first-preserved c =
    let u = c.end_of-until.ensures in
    let e : c.end_of-until.result ≡ c.loop-first.first + 32 = omega arith in
    let b = c.block-standing in
    rw (← e)
    (blocks-next _ (traced c.args.x) _ _ _ _ c.requires c.loop-first.invariant c.end_of-until.result
    (rw (← c.len-many.ensures) u) (rw (← c.len-many.ensures) c.loop-first-test.true)
    b.ensures b.auto.work b.auto.present c.finish.ensures refl)

pub returns : goal.returns
returns c =
    blocks-done _ (traced c.args.x) _ _ _ _ c.requires c.loop-first.invariant (rw (← c.len-many.ensures) (omega arith))

pub returns-2 : goal.returns-2
returns-2 c =
    let u = c.end_of-until.ensures in
    let b = c.block-standing in
    let v = blocks-next _ (traced c.args.x) _ _ _ _ c.requires c.loop-first.invariant c.end_of-until.result
    (rw (← c.len-many.ensures) u) (rw (← c.len-many.ensures) c.loop-first-test.true)
    b.ensures b.auto.work b.auto.present c.finish.ensures refl in
    blocks-done _ (traced c.args.x) _ _ _ _ c.requires v (rw (← c.len-many.ensures) (omega arith))
