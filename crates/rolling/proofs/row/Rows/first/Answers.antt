-- Of fixed windows from the first place on. Assumes nothing.
use Rattle.std.proofs.Common.{refl}
use Rattle.rolling.proofs.RowLoops.{opens-fixed}
use Rattle.rolling.proofs.row.Rows.first.Goals as goal

pub returns-in-Reaching : goal.returns-in-Reaching
returns-in-Reaching c = rw c.in-Reaching.is (opens-fixed c.in-Reaching.left c.in-Reaching.right c.args.n _ refl c.min.ensures)
