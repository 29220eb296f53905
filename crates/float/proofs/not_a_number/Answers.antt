-- The pattern of std's constant is a NaN's, computed. Assumes nothing.
use mathlib.Core.Path.{refl}
use lib.Ieee.{of_bits}
use Rattle.float.proofs.not_a_number.Goals as goal

pub returns : goal.returns
unfolding of_bits
returns c = refl
