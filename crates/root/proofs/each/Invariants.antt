-- `root::each` meets its contract: each turn writes one root more. Assumes nothing.
use Rattle.std.proofs.Common.{◌≡◌, map, take}
use Rattle.root.specs.Root.{root}
use Rattle.root.proofs.each.Given as goal

abbrev pub invariant-loop-i : goal.invariant-loop-i
invariant-loop-i l = take l.i l.out ≡ map root (take l.i l.x)
