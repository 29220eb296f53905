-- What the demands say of the call. Assumes nothing.
use Rattle.promises.specs.Calls.{of_skew_range}
use Rattle.demands.proofs.Demanded.{array_meets}
use Rattle.demands.proofs.arrays.SkewStateStateCallRange4.call.Goals as goal

pub returns : goal.returns
returns c = array_meets (of_skew_range _ _ _) c.moments_skew_range.ensures
