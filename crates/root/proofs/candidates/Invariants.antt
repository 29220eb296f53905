-- `root::candidates` meets its contract: while no doubt is counted each turn writes one root more. Assumes nothing.
use Rattle.std.proofs.Common.{◌≡◌, ◌≤◌, map, take}
use Rattle.root.specs.Root.{root}
use Rattle.root.proofs.candidates.Given as goal

abbrev pub invariant-loop-i : goal.invariant-loop-i
invariant-loop-i l = (l.doubts ≤ l.i) × (l.doubts ≡ 0 → take l.i l.out ≡ map root (take l.i l.x))
