-- Of fixed windows the step of the row's own. Assumes nothing.
use Rattle.std.proofs.Common.{arith, ◌^◌, ◌<◌}
use Rattle.rolling.proofs.RowLoops.{next-fixed}
use Rattle.rolling.proofs.row.Rows.next.Goals as goal

pub returns-in-Reaching : goal.returns-in-Reaching
returns-in-Reaching c =
    let few : c.args.n < 2 ^ 64 = omega (arith, c.ranges) in
    let listed = rw c.in-Reaching.is at c.requires.listed in
    let bounds = rw c.in-Reaching.is at c.requires.bounds in
    rw c.in-Reaching.is (next-fixed c.in-Reaching.left c.in-Reaching.right c.args.n few listed bounds c.next_offsets.ensures)
