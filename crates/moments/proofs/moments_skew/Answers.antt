-- The answer is handed out as it is. Assumes nothing.
use Rattle.moment.specs.Arrays.{skew_whole, skew_list}
use Rattle.moment.proofs.Lent.{trace_lent}
use Rattle.moments.proofs.moments_skew.Goals as goal

pub returns : goal.returns
returns c = rw (← trace_lent c.lent.ensures skew_whole, ← c.skew.ensures) (c.store.ensures skew_list (λ s members e. e))
