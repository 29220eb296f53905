-- Of two calls by what is said of each. Assumes nothing.
use Rattle.demands.proofs.Demanded.{two_plans_meet}
use Rattle.demands.proofs.plans.two_plans.Goals as goal

pub returns : goal.returns
returns g c =
    record {
      same = (c.call-first.ensures.same, c.call-second.ensures.same);
      meet = two_plans_meet c.call-first.ensures.meets c.call-second.ensures.meets;
    }
