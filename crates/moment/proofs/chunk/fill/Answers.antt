-- Filled place by place (`Filling`). Assumes nothing.
use Rattle.moment.proofs.Filling.{filling_step, filled_full, filled_end}
use Rattle.moment.proofs.chunk.fill.Goals as goal

pub returns-then-count-eq-CHUNK_SIZE : goal.returns-then-count-eq-CHUNK_SIZE
returns-then-count-eq-CHUNK_SIZE g c = filled_full c.loop-at.invariant c.if-count-eq-CHUNK_SIZE.true

pub loop-at-preserved : goal.loop-at-preserved
loop-at-preserved g c =
    rw c.from-count.ensures
    (filling_step _ c.loop-at.invariant (rw c.len-end.ensures at c.loop-at-test.true) c.if-count-eq-CHUNK_SIZE.false
    c.entry.ensures c.is_valid.ensures)

pub returns : goal.returns
returns g c = filled_end c.loop-at.invariant (rw c.len-end.ensures at c.loop-at-test.false) c.len-end.ensures
