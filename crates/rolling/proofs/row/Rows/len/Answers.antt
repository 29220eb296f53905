-- Of fixed windows one a place. Assumes nothing.
use Rattle.std.proofs.Common.{sym}
use Rattle.plan.proofs.FixedWindows.{reaching_rows}
use Rattle.rolling.proofs.row.Rows.len.Goals as goal

pub returns-in-Reaching : goal.returns-in-Reaching
returns-in-Reaching c = rw c.in-Reaching.is (sym (reaching_rows c.in-Reaching.left c.in-Reaching.right c.args.n))
