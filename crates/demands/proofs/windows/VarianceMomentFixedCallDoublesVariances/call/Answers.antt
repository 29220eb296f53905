-- What the demands say of the call. Assumes nothing.
use Rattle.std.proofs.Common.{refl}
use native.Mathlib.Omega.{arith}
use Rattle.demands.proofs.Demanded.{fixed-meets}
use Rattle.demands.proofs.windows.VarianceMomentFixedCallDoublesVariances.call.Goals as goal

pub returns : goal.returns
returns c = record { same = (refl, refl, refl, refl, refl, refl, refl); meets = fixed-meets c.moments_rolling_var.ensures (omega arith) (omega arith) }
