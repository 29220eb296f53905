-- The bounds of one row, by how far a fixed window reaches. Assumes nothing.
use Rattle.std.proofs.Common.{arith}
use Rattle.std.proofs.lemmas.Bool.Decides.{nat_tests}
use Rattle.plan.proofs.FixedWindows.{bounds-at}
use Rattle.plan.proofs.bounds.Fixed.det_offsets.Goals as goal

pub returns : goal.returns
returns c = let b = bounds-at c.args.self.center c.args.self.window_size c.args.len c.args.i c.if-len-i.false in grind (arith, nat_tests)
