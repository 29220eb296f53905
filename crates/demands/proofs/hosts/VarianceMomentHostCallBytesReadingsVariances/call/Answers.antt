-- What the demands say of the call. Assumes nothing.
use Rattle.std.proofs.Common.{refl}
use native.Mathlib.Omega.{arith}
use Rattle.demands.proofs.Demanded.{host_meets}
use Rattle.demands.proofs.hosts.VarianceMomentHostCallBytesReadingsVariances.call.Goals as goal

pub returns : goal.returns
returns c = record { same = (refl, (refl, refl, refl, refl, refl, refl, refl)); meets = host_meets c.moments_plan_var.ensures (omega arith) }
