-- The bytes of all rows first; then block after block the doubles of the rows before are written. Assumes nothing.
use Rattle.std.proofs.Common.{◌≡◌, ◌+◌, ◌-◌, ◌*◌, min, length, arith, rules}
use Rattle.float.proofs.Tables.{table_part}
use Rattle.plan.proofs.FixedWindows.{right-some}
use Rattle.window.proofs.Outputs.{upto-start}
use Rattle.weighted.proofs.WeightedRows.{block_doubles, rows-done}
use Rattle.weighted.proofs.rows.write_rows.Goals as goal

pub loop-k-init : goal.loop-k-init
loop-k-init c = let a : min (length c.args.values.now) (32 * 0) ≡ 0 = omega arith in rw a (upto-start _ _)

pub invariant_of-block : goal.invariant_of-block
invariant_of-block c =
    let s = c.requires in
    let t = c.loop-k-test.true in
    let e = c.div_ceil-k-end.ensures in
    let n = c.end_of-until.ensures in
    let o = right-some c.args.center (length c.args.weights.now) 0 s.some in
    let r = c.right_window-right.ensures in
    record { rows = record { some = omega arith; few = omega arith; inside = omega arith; series = s.few; before = omega arith } }

pub loop-k-preserved : goal.loop-k-preserved
loop-k-preserved c =
    let n = length c.args.values.now in
    let k = c.loop-k.k in
    let until = c.end_of-until.result in
    let R = c.right_window-right.result in
    let W = length c.args.weights.now in
    let e = c.div_ceil-k-end.ensures in
    let t = c.loop-k-test.true in
    let u = c.end_of-until.ensures in
    let r = c.right_window-right.ensures.1 in
    let a : min n (32 * k) ≡ k * 32 = omega arith in
    let b : min n (32 * (k + 1)) ≡ until = omega arith in
    let w : W - (W - R) ≡ R = omega arith in
    let i = rw a at c.loop-k.invariant in
    rw b
    (record {
      long = search rules;
      is = table_part _ _ _ _ _ _ _ (omega arith) i.is (block_doubles _ _ _ _ _ _ _ _ w (omega arith) c.create_validity.ensures) c.write_block.ensures;
    })

pub returns : goal.returns
returns c =
    let e = c.div_ceil-k-end.ensures in
    let h = c.loop-k-test.false in
    rows-done _ _ _ _ _ _ c.requires.some c.right_window-right.ensures.0 c.requires.total-is (omega arith) c.loop-k.invariant c.create_validity.ensures
