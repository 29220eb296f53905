-- std's test is the logic's own. Assumes nothing.
use mathlib.Core.Path.{◌≡◌, refl}
use lib.Ieee.{Float, nan, inf, fin}
use lib.Ieee.Scale.{finite}
use Rattle.std.specs.Float.{float_is_finite}
use Rattle.float.proofs.is_finite.Goals as goal

same_test : (x : Float) → float_is_finite x ≡ finite x
unfolding float_is_finite
same_test nan = refl
same_test (inf s) = refl
same_test (fin s m e) = refl

pub returns : goal.returns
returns c = cc (same_test c.args.x)
