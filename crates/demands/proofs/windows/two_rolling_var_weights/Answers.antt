-- Of two calls by what is said of each. Assumes nothing.
use Rattle.demands.proofs.Demanded.{two_weights_meet}
use Rattle.demands.proofs.windows.two_rolling_var_weights.Goals as goal

pub returns : goal.returns
returns c =
    record {
      same = (c.rolling_var_weights-first.ensures.same, c.rolling_var_weights-second.ensures.same);
      meet = two_weights_meet c.rolling_var_weights-first.ensures.meets c.rolling_var_weights-second.ensures.meets;
    }
