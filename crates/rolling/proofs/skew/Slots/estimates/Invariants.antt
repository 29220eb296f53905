-- One slot more. Assumes nothing.
use Rattle.std.proofs.Common.{◌≡◌, ◌++◌, get_or, drop}
use lib.Ieee.{nan}
use Rattle.float.specs.Tables.{table}
use Rattle.rolling.specs.Code.Slots.{estimate}
use Rattle.rolling.proofs.skew.Slots.estimates.Given as goal

abbrev pub invariant-loop-i : goal.invariant-loop-i
invariant-loop-i l =
    l.figures ≡ table (λ j.
    estimate l.bias (get_or l.self.m2s j nan) (get_or l.self.m3s j nan) (get_or l.self.factors j nan) (get_or l.initial.figures j nan)) l.i
    ++ drop l.i l.initial.figures
