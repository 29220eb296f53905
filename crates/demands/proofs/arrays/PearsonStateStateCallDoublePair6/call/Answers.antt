-- What the demands say of the call. Assumes nothing.
use Rattle.promises.specs.Calls.{of_pearson}
use Rattle.demands.proofs.Demanded.{array_meets}
use Rattle.demands.proofs.arrays.PearsonStateStateCallDoublePair6.call.Goals as goal

pub returns : goal.returns
returns c = array_meets (of_pearson _ _) c.moments_pearson_corr.ensures
