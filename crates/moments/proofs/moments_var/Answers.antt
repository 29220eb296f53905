-- The answer is handed out as it is. Assumes nothing.
use Rattle.moment.specs.Arrays.{var_whole, var_list}
use Rattle.moment.proofs.Lent.{trace_lent}
use Rattle.moments.proofs.moments_var.Goals as goal

pub returns : goal.returns
returns c = rw (← trace_lent c.lent.ensures var_whole, ← c.var.ensures) (c.store.ensures var_list (λ s members e. e))
