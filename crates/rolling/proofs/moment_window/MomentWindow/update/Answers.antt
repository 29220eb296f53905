-- Places leave, then places enter. Assumes nothing.
use Rattle.window.proofs.Steps.{update-trimmable, update-extendable, updated}
use Rattle.rolling.proofs.moment_window.MomentWindow.update.Goals as goal

pub trim-trimmed-requires : goal.trim-trimmed-requires
trim-trimmed-requires g c = rw (c.WIDTH.ensures, ← g.met.S.InMemory.wide) (update-trimmable _ _ c.requires)

pub extend-requires : goal.extend-requires
extend-requires g c =
    let o = c.trim-trimmed in
    let trimmed = rw (c.WIDTH.ensures, ← g.met.S.InMemory.wide) at o.ensures in
    rw (c.WIDTH.ensures, ← g.met.S.InMemory.wide) (update-extendable _ _ c.requires trimmed o.auto.work)

pub returns : goal.returns
returns g c =
    let o = c.trim-trimmed in
    let trimmed = rw (c.WIDTH.ensures, ← g.met.S.InMemory.wide) at o.ensures in
    let extended = rw (c.WIDTH.ensures, ← g.met.S.InMemory.wide) at c.extend.ensures in
    updated _ _ c.requires trimmed o.auto.work extended
