-- `vectors::tally` counts no more records as agreed than it took, so the count fits. Assumes nothing.
use Rattle.std.proofs.Common.{◌+◌, ◌≤◌}
use Rattle.std.specs.Iterator.Adapters.{take_count}
use Rattle.vectors.proofs.tally.Given as goal

abbrev pub invariant-loop-rec : goal.invariant-loop-rec
invariant-loop-rec g l =
    (goal.iterator-loop-rec g).can_next l.rec-iterator
    × (goal.iterator-loop-rec g).is_finite l.rec-iterator
    × (l.agreed + take_count l.rec-iterator ≤ l.records)
