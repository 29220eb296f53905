-- A weight after another. Assumes nothing.
use Rattle.weighted.specs.Code.Sums.{Weighs}
use Rattle.weighted.proofs.sums.BlockSums.weigh_all.Given as goal

abbrev pub invariant-loop-j : goal.invariant-loop-j
invariant-loop-j l = Weighs l.block l.j l.self
