-- The canonical pattern is the same float. Assumes nothing.
use mathlib.Core.Path.{◌∙◌}
use Rattle.moments.proofs.moments_root.Goals as goal

pub returns : goal.returns
returns c = c.canonical.ensures ∙ c.root.ensures
