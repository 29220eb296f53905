-- The figure is written as it is. Assumes nothing.
use Rattle.moments.proofs.moments_var_finalize.Goals as goal

pub returns : goal.returns
returns c = rw (← c.finalize.ensures) c.store_figure.ensures
