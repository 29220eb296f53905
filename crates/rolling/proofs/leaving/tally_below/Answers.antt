-- A window that starts anew has nothing to count; else by the range that leaves. Assumes nothing.
use Rattle.std.proofs.Common.{arith}
use Rattle.window.proofs.Moves.{trim-none}
use Rattle.rolling.proofs.leaving.tally_below.Goals as goal

pub returns-then-w-start : goal.returns-then-w-start
returns-then-w-start g c = λ h. absurd (omega (arith, h, c.if-w-start.true))

pub tally_leaving-requires : goal.tally_leaving-requires
tally_leaving-requires g c =
    let p = c.requires in
    record { range = record { rises = p.starts; inside = p.inside }; none = trim-none _ _ _ p.counted p.starts c.if-w-start.false }

pub returns : goal.returns
returns g c = λ h. c.tally_leaving.ensures
