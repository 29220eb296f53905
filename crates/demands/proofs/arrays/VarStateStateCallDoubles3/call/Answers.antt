-- What the demands say of the call. Assumes nothing.
use Rattle.promises.specs.Calls.{of_var}
use Rattle.demands.proofs.Demanded.{array_meets}
use Rattle.demands.proofs.arrays.VarStateStateCallDoubles3.call.Goals as goal

pub returns : goal.returns
returns c = array_meets (of_var _) c.moments_var.ensures
