-- Every member of an empty state is zero. Assumes nothing.
use mathlib.Core.Path.{refl}
use Rattle.window.specs.Histories.{empty, after}
use Rattle.demands.proofs.Demanded.{made_by}
use Rattle.demands.proofs.states.both_empty.Goals as goal

pub returns : goal.returns
unfolding after
returns c = made_by empty refl refl
