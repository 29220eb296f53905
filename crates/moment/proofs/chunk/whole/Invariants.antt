-- Chunk by chunk (`Chunked`). Assumes nothing.
use Rattle.std.proofs.Common.{◌≡◌, ◌-◌, [], length}
use Rattle.float.specs.Operators.{zero64}
use Rattle.moment.proofs.Chunked.{Reached}
use Rattle.moment.proofs.chunk.whole.Given as goal

abbrev pub invariant-loop-place : goal.invariant-loop-place
invariant-loop-place g l =
    let p = g.P.Places in
    let s = g.S.State in
    record {
      room : length l.chunk ≡ 128;
      reached : Reached s.new s.combine (s.about zero64 g.P.Entry.Entry.none []) (p.valid l.places) (p.entries l.places) l.out l.place;
    }

abbrev pub decreases-loop-place : goal.decreases-loop-place
decreases-loop-place g l = length (g.P.Places.entries l.places) - l.place
