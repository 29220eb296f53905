-- The answer is handed out as it is. Assumes nothing.
use Rattle.moment.specs.Arrays.{cov_whole, cov_list}
use Rattle.moment.proofs.Lent.{pair_lent}
use Rattle.moments.proofs.moments_cov.Goals as goal

pub returns : goal.returns
returns c =
    rw (← pair_lent c.lent_pair-pair.ensures.x_lent c.lent_pair-pair.ensures.y_lent cov_whole, ← c.cov.ensures) (c.store.ensures cov_list (λ s members e. e))
