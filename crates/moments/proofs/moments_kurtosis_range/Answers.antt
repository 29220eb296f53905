-- The answer is handed out as it is. Assumes nothing.
use Rattle.moment.specs.Kurtosis.{kurtosis_new}
use Rattle.moment.specs.Arrays.{kurtosis_list}
use Rattle.moment.proofs.Lent.{range_lent}
use Rattle.moments.proofs.moments_kurtosis_range.Goals as goal

pub returns : goal.returns
returns c =
    rw (← range_lent c.lent-trace.ensures kurtosis_new c.args.start c.args.length, ← c.from_array.ensures)
    (c.store.ensures kurtosis_list (λ s members e. e))
