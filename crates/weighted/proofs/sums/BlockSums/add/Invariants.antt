-- The rows so far have the terms of their readings. Assumes nothing.
use Rattle.std.proofs.Common.{take}
use Rattle.weighted.specs.Code.Sums.{lists_of, Added}
use Rattle.weighted.proofs.sums.BlockSums.add.Given as goal

abbrev pub invariant-loop-r : goal.invariant-loop-r
invariant-loop-r l = Added l.w (take l.r l.values) l.row (lists_of l.initial.self) (lists_of l.self)
