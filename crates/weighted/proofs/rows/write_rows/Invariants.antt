-- The bytes of all rows first; then block after block the doubles of the rows before are written. Assumes nothing.
use Rattle.std.proofs.Common.{◌*◌, min, length}
use Rattle.moment.specs.Figure.{double_of}
use Rattle.window.specs.Code.Filling.{Upto}
use Rattle.weighted.specs.Code.Rows.{weighted_by}
use Rattle.weighted.proofs.rows.write_rows.Given as goal

abbrev pub invariant-loop-k : goal.invariant-loop-k
invariant-loop-k l =
    Upto (λ i. double_of (weighted_by l.values l.weights l.total l.left l.right l.min_periods i)) l.initial.figures l.figures (min (length l.values) (32 * l.k))
