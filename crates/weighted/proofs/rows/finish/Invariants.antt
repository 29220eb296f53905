-- The doubles of the rows so far. Assumes nothing.
use Rattle.window.specs.Code.Filling.{Upto}
use Rattle.weighted.specs.Weights.{variance_of}
use Rattle.weighted.specs.Code.Sums.{lists_of, sums_at}
use Rattle.weighted.specs.Code.Rows.{double_at}
use Rattle.weighted.proofs.rows.finish.Given as goal

abbrev pub invariant-loop-r : goal.invariant-loop-r
invariant-loop-r l = Upto (double_at l.present (λ i. variance_of (sums_at (lists_of l.sums) i))) l.initial.figures l.figures l.r
