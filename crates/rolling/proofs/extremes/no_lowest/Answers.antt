-- By the constant's bits. Assumes nothing.
use Rattle.std.proofs.Common.{refl}
use lib.Ieee.{of_bits}
use Rattle.rolling.proofs.extremes.no_lowest.Goals as goal

pub returns : goal.returns
unfolding of_bits
returns c = refl
