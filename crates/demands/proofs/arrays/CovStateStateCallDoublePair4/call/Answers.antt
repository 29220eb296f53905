-- What the demands say of the call. Assumes nothing.
use Rattle.promises.specs.Calls.{of_cov}
use Rattle.demands.proofs.Demanded.{array_meets}
use Rattle.demands.proofs.arrays.CovStateStateCallDoublePair4.call.Goals as goal

pub returns : goal.returns
returns c = array_meets (of_cov _ _) c.moments_cov.ensures
