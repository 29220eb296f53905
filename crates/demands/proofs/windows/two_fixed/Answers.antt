-- Of two calls by what is said of each. Assumes nothing.
use Rattle.demands.proofs.Demanded.{two_fixed_meet}
use Rattle.demands.proofs.windows.two_fixed.Goals as goal

pub returns : goal.returns
returns g c =
    record {
      same = (c.call-first.ensures.same, c.call-second.ensures.same);
      meet = two_fixed_meet c.call-first.ensures.meets c.call-second.ensures.meets;
    }
