-- One place more. Assumes nothing.
use Rattle.std.proofs.Common.{◌≡◌}
use Rattle.window.specs.Places.{valid_count}
use Rattle.rolling.proofs.leaving.count_valid.Given as goal

abbrev pub invariant-loop-i : goal.invariant-loop-i
invariant-loop-i g l = l.valid ≡ valid_count (g.P.Places.places l.places) l.a l.i
