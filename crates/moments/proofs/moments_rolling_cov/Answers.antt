-- By the flags. Assumes nothing.
use Rattle.rolling.proofs.Lent.{cov_lent_fixed}
use Rattle.moments.proofs.moments_rolling_cov.Goals as goal

pub returns : goal.returns
returns c = rw c.number.ensures (cov_lent_fixed c.lent_pair-pair.ensures.x_lent c.lent_pair-pair.ensures.y_lent _ _ _ _ c.rolling_cov.ensures)
