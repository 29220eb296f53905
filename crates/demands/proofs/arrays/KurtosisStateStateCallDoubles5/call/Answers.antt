-- What the demands say of the call. Assumes nothing.
use Rattle.promises.specs.Calls.{of_kurtosis}
use Rattle.demands.proofs.Demanded.{array_meets}
use Rattle.demands.proofs.arrays.KurtosisStateStateCallDoubles5.call.Goals as goal

pub returns : goal.returns
returns c = array_meets (of_kurtosis _) c.moments_kurtosis.ensures
