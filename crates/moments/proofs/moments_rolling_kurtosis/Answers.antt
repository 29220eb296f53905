-- By the flag. Assumes nothing.
use Rattle.rolling.proofs.Lent.{kurtosis_lent_fixed}
use Rattle.moments.proofs.moments_rolling_kurtosis.Goals as goal

pub returns : goal.returns
returns c = rw c.number.ensures (kurtosis_lent_fixed c.lent-x.ensures _ _ _ _ _ c.rolling_kurtosis.ensures)
