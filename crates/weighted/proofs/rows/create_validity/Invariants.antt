-- Row after row its window is held, and the bytes of the rows before are written. Assumes nothing.
use Rattle.window.specs.Code.Filling.{Upto}
use Rattle.weighted.specs.Code.Rows.{validity_at}
use Rattle.weighted.proofs.WeightedRows.{Held}
use Rattle.weighted.proofs.rows.create_validity.Given as goal

abbrev pub invariant-loop-row : goal.invariant-loop-row
invariant-loop-row l =
    record { filled : Upto (validity_at l.n l.left l.right l.min_periods) l.initial.present l.present l.row; held : Held l.n l.left l.right l.row l.at }
