-- The answer is handed out as it is. Assumes nothing.
use Rattle.moment.specs.Arrays.{pearson_whole, pearson_list}
use Rattle.moment.proofs.Lent.{pair_lent}
use Rattle.moments.proofs.moments_pearson_corr.Goals as goal

pub returns : goal.returns
returns c =
    rw (← pair_lent c.lent_pair-pair.ensures.x_lent c.lent_pair-pair.ensures.y_lent pearson_whole, ← c.pearson_corr.ensures) (c.store.ensures pearson_list (λ s members e. e))
