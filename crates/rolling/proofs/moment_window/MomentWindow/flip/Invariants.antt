-- One entry more is turned over. Assumes nothing.
use Rattle.std.proofs.Common.{◌≡◌, ◌*◌, List, length, take, drop}
use Rattle.window.specs.Code.Memory.{in_memory}
use Rattle.window.proofs.Stacks.{Flip}
use Rattle.rolling.specs.Code.Ops.{stored_by}
use Rattle.rolling.proofs.moment_window.MomentWindow.flip.Given as goal

abbrev pub invariant-loop-k : goal.invariant-loop-k
invariant-loop-k g l =
    let in_back = g.S.Entry.InMemory.layout in
    let old = l.initial.work in
    g.S.WindowState.counts l.agg l.k
    × ((B : List _) → l.n ≡ length B → take (in_back.width * l.n) (drop l.base old) ≡ in_memory in_back B
    → Flip (stored_by in_back g.S.InMemory.layout g.S.WindowState.ops) old l.n B l.work l.agg l.k)
