-- By the three ends: a flip, an emptied back stack, or a back stack that stays. Assumes nothing.
use Rattle.window.proofs.Moves.{trim-fits}
use Rattle.window.proofs.Steps.{trim-flips, trim-flip-empties, trim-empties, trim-keeps}
use Rattle.rolling.proofs.moment_window.MomentWindow.trim.Goals as goal
use Rattle.rolling.proofs.moment_window.MomentWindow.trim.Goals.{then-trim, else-trim, then-window-eq0, else-window-eq0}

pub trimmed-trim-requires : goal.trimmed-trim-requires
trimmed-trim-requires g c =
    let p = c.requires in
    λ h. let t = c.tally_below-leaving.ensures h in trim-fits _ _ _ p.held.numbers p.starts h _ _ t.valid-is t.nonfinite_is

pub returns : goal.returns
returns g c =
    let p = c.requires in
    let trims = c.trimmed-trim.ensures _ p.held.numbers p.starts c.tally_below-leaving.ensures in
    elim c.if-trim.branch [
      | then-trim w ↦
          rw w.work-is
          (elim c.if-window-eq0.branch [
            | then-window-eq0 u ↦ rw u.result-is (trim-flips _ _ p trims w.if-trim.true w.flip.ensures u.empty.ensures)
            | else-window-eq0 u ↦ absurd (u.if-window-eq0.false (trim-flip-empties _ _ p trims w.if-trim.true))
          ])
      | else-trim w ↦
          rw w.work-is
          (elim c.if-window-eq0.branch [
            | then-window-eq0 u ↦ rw u.result-is (trim-empties _ _ p trims w.if-trim.false u.if-window-eq0.true u.empty.ensures)
            | else-window-eq0 u ↦ rw u.result-is (trim-keeps _ _ p trims w.if-trim.false u.if-window-eq0.false)
          ])
    ]
