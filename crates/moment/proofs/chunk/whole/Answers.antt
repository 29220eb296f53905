-- Chunk by chunk (`Chunked`). Assumes nothing.
use Rattle.std.proofs.Common.{[]}
use Rattle.float.specs.Operators.{zero64}
use Rattle.moment.proofs.Chunked.{reached_start, none_adds, reached_next, reached_end}
use Rattle.moment.proofs.chunk.whole.Goals as goal

pub loop-place-init : goal.loop-place-init
loop-place-init g c = record { room = c.requires; reached = reached_start (rw c.none.ensures at c.about-out.ensures) }

pub loop-place-preserved : goal.loop-place-preserved
loop-place-preserved g c =
    let s = g.S.State in
    let law = g.met.S.State in
    let none = none_adds _ s.new s.combine s.MERGES_EMPTY s.weight s.merge
    (law.new_is []) (law.about_weight zero64 g.P.Entry.Entry.none) law.combine_is in
    let f = c.fill-stop.ensures in
    record { room = f.room; reached = reached_next _ _ none f c.loop-place.invariant.reached c.new.ensures c.combine-out.ensures }

pub returns : goal.returns
returns g c = reached_end c.loop-place.invariant.reached (rw c.len.ensures at c.loop-place-test.false)
