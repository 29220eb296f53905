-- The readings so far are the first of the table. Assumes nothing.
use mathlib.Core.Path.{◌≡◌}
use lib.ListN.{take}
use Rattle.float.specs.Tables.{table}
use Rattle.float.specs.Bytes.{reading_at}
use Rattle.float.proofs.decode.Given as goal

abbrev pub invariant-loop-i : goal.invariant-loop-i
invariant-loop-i l = take l.i l.reading-items ≡ table (reading_at l.trace) l.i
