-- Of two calls by what is said of each. Assumes nothing.
use Rattle.demands.proofs.Demanded.{two_hosts_meet}
use Rattle.demands.proofs.hosts.two_hosts.Goals as goal

pub returns : goal.returns
returns g c =
    record {
      first_same = c.call-first.ensures.same;
      second_same = c.call-second.ensures.same;
      meet = two_hosts_meet c.call-first.ensures.meets c.call-second.ensures.meets;
    }
