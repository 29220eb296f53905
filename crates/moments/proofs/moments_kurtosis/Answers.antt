-- The answer is handed out as it is. Assumes nothing.
use Rattle.moment.specs.Arrays.{kurtosis_whole, kurtosis_list}
use Rattle.moment.proofs.Lent.{trace_lent}
use Rattle.moments.proofs.moments_kurtosis.Goals as goal

pub returns : goal.returns
returns c = rw (← trace_lent c.lent.ensures kurtosis_whole, ← c.kurtosis.ensures) (c.store.ensures kurtosis_list (λ s members e. e))
