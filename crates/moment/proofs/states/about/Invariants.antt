-- An entry more for each valid place. Assumes nothing.
use Rattle.std.proofs.Common.{[]}
use Rattle.moment.proofs.Folds.{Folded}
use Rattle.moment.proofs.states.about.Given as goal

abbrev pub invariant-loop-i : goal.invariant-loop-i
invariant-loop-i g l =
    let p = g.P.Places in
    let s = g.S.State in
    Folded s.with_entry (s.about l.fn.weight l.fn.mean []) (p.valid l.places) (p.entries l.places) l.state l.i
