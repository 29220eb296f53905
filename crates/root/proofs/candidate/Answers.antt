-- `root::candidate` meets its contract: the number is normal, `settle` gives the digits of its root, and its bits give the
-- exponent. Assumes nothing.
use Rattle.std.proofs.Common.{ap, ◌∙◌, arith}
use Rattle.root.specs.Root.{root}
use Rattle.float.proofs.Patterns.{no_nan_bits}
use Rattle.root.proofs.Patterns.{normal_root}
use Rattle.root.proofs.candidate.Goals as goal

pub float_from_bits-result : goal.float_from_bits-result
float_from_bits-result c =
    let n = c.normal.ensures.0 c.if-not-normal.false in
    let q = c.in_ok-q.ensures in
    no_nan_bits _ (omega (arith, n, q))

pub returns : goal.returns
returns c =
    let b = c.bits-b in
    let n = c.normal.ensures.0 c.if-not-normal.false in
    let q = c.in_ok-q.ensures in
    normal_root b.result c.radicand.result c.in_ok-q.q n.0 n.1 c.radicand.ensures.1 q.1 ∙ ap root b.ensures
