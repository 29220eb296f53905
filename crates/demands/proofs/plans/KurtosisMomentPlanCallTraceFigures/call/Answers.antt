-- What the demands say of the call. Assumes nothing.
use Rattle.std.proofs.Common.{refl}
use Rattle.demands.proofs.Demanded.{plan_meets}
use Rattle.demands.proofs.plans.KurtosisMomentPlanCallTraceFigures.call.Goals as goal

pub returns : goal.returns
returns c = record { same = (refl, refl, refl); meets = plan_meets c.plan_kurtosis.ensures tt }
