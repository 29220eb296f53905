-- What the demands say of the call: its argument is a double. Assumes nothing.
use denote.Floats.{passes}
use Rattle.demands.proofs.Demanded.{root_meets}
use Rattle.demands.proofs.states.root.Goals as goal

pub returns : goal.returns
returns c = root_meets c.moments_root.ensures (passes _ c.well_formed.0.1)
