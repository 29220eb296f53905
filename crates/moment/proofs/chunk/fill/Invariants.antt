-- Filled place by place (`Filling`). Assumes nothing.
use Rattle.moment.proofs.Filling.{Filling}
use Rattle.moment.proofs.chunk.fill.Given as goal

abbrev pub invariant-loop-at : goal.invariant-loop-at
invariant-loop-at g l = let p = g.P.Places in Filling (p.valid l.places) (p.entries l.places) l.fn.place l.chunk l.at l.count
