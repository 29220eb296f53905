-- The correction of no reading computes to +0.0. Assumes nothing.
use Rattle.std.proofs.Common.{refl}
use lib.Ieee.{add, sub, mul, div, neg, sum, round, of_bits, of_int}
use Rattle.root.specs.Root.{root}
use Rattle.rolling.proofs.skew.Correction.of_none.Goals as goal

pub invariant_of-result : goal.invariant_of-result
unfolding root add sub mul div neg sum round of_bits of_int
invariant_of-result c = record { of_count = refl }
