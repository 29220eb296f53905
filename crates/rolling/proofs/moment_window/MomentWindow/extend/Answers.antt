-- What is appended to the part that begins after the front stack is the back stack grown. Assumes nothing.
use Rattle.std.proofs.Common.{arith}
use Rattle.window.proofs.Steps.{extend-appendable, extend-appended}
use Rattle.rolling.proofs.Counts.{back-counts}
use Rattle.rolling.proofs.moment_window.MomentWindow.extend.Goals as goal

pub append-appended-requires-clause-appendable : goal.append-appended-requires-clause-appendable
append-appended-requires-clause-appendable g c = extend-appendable _ _ c.requires

pub append-appended-requires-clause-counted : goal.append-appended-requires-clause-counted
append-appended-requires-clause-counted g c =
    let p = c.requires in
    let h = (extend-appendable _ _ p).many_le in
    let s = g.S.WindowState in
    let laws = g.met.S.WindowState in
    back-counts s.ops s.counts laws.starts laws.grows p.held (omega (arith, p))

pub returns : goal.returns
returns g c = extend-appended _ _ c.requires c.append-appended.ensures c.extended.ensures
