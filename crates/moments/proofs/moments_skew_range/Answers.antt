-- The answer is handed out as it is. Assumes nothing.
use Rattle.moment.specs.Skew.{skew_new}
use Rattle.moment.specs.Arrays.{skew_list}
use Rattle.moment.proofs.Lent.{range_lent}
use Rattle.moments.proofs.moments_skew_range.Goals as goal

pub returns : goal.returns
returns c =
    rw (← range_lent c.lent-trace.ensures skew_new c.args.start c.args.length, ← c.from_array.ensures)
    (c.store.ensures skew_list (λ s members e. e))
