-- What the demands say of the call. Assumes nothing.
use Rattle.promises.specs.Calls.{of_kurtosis_range}
use Rattle.demands.proofs.Demanded.{array_meets}
use Rattle.demands.proofs.arrays.KurtosisStateStateCallRange5.call.Goals as goal

pub returns : goal.returns
returns c = array_meets (of_kurtosis_range _ _ _) c.moments_kurtosis_range.ensures
