-- What the demands say of the call. Assumes nothing.
use Rattle.promises.specs.Calls.{of_skew}
use Rattle.demands.proofs.Demanded.{array_meets}
use Rattle.demands.proofs.arrays.SkewStateStateCallDoubles4.call.Goals as goal

pub returns : goal.returns
returns c = array_meets (of_skew _) c.moments_skew.ensures
