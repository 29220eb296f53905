-- By the roots of the first slots. Assumes nothing.
use Rattle.std.proofs.Common.{◌∙◌, arith}
use Rattle.rolling.proofs.Slots.{finished}
use Rattle.rolling.proofs.skew.Slots.finish.Goals as goal

pub returns : goal.returns
returns c = c.estimates.ensures ∙ finished _ c.args.self.now _ _ _ c.roots.auto.out (omega arith) c.roots.ensures
