-- The weight counts, so that nothing is cleared. Assumes nothing.
use Rattle.std.proofs.Common.{◌∙◌}
use Rattle.moment.proofs.Weights.{skew_inserted_lem}
use Rattle.rolling.proofs.skew.SkewStateWindowState.insert.Goals as goal

pub returns : goal.returns
returns c = c.inserted.ensures ∙ skew_inserted_lem c.args.self c.args.x _ c.requires.few c.requires.counted
