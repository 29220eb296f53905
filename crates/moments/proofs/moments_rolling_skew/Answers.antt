-- By the flag. Assumes nothing.
use Rattle.rolling.proofs.Lent.{skew_lent_fixed}
use Rattle.moments.proofs.moments_rolling_skew.Goals as goal

pub returns : goal.returns
returns c = rw c.number.ensures (skew_lent_fixed c.lent-x.ensures _ _ _ _ c.rolling_skew.ensures)
