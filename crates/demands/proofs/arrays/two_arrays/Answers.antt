-- Of two calls by what is said of each. Assumes nothing.
use Rattle.demands.proofs.Demanded.{two_arrays_meet}
use Rattle.demands.proofs.arrays.two_arrays.Goals as goal

pub returns : goal.returns
returns g c = two_arrays_meet c.call-first.ensures c.call-second.ensures
