-- One place more, twice. Assumes nothing.
use Rattle.window.specs.Code.Stacks.{Tallied}
use Rattle.rolling.proofs.leaving.tally_range.Given as goal

abbrev pub invariant-loop-i : goal.invariant-loop-i
invariant-loop-i g l = Tallied (g.P.Places.places l.places) l.a l.i l.tally.valid l.tally.nonfinite
