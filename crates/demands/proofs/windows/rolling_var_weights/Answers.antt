-- What the demands say of the call. Assumes nothing.
use Rattle.std.proofs.Common.{refl}
use native.Mathlib.Omega.{arith}
use Rattle.demands.proofs.Demanded.{weights_meet}
use Rattle.demands.proofs.windows.rolling_var_weights.Goals as goal

pub returns : goal.returns
returns c = record { same = (refl, refl); meets = weights_meet c.moments_rolling_var_weights.ensures (omega arith) }
