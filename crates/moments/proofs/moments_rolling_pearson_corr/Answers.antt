-- By the flags. Assumes nothing.
use Rattle.rolling.proofs.Lent.{pearson_lent_fixed}
use Rattle.moments.proofs.moments_rolling_pearson_corr.Goals as goal

pub returns : goal.returns
returns c = rw c.number.ensures (pearson_lent_fixed c.lent_pair-pair.ensures.x_lent c.lent_pair-pair.ensures.y_lent _ _ _ c.rolling_pearson_corr.ensures)
