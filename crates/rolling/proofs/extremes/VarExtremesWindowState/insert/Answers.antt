-- By the test of the reading; the weight counts, so that nothing is cleared. Assumes nothing.
use Rattle.std.proofs.Common.{sym, ◌∙◌}
use Rattle.float.specs.Operators.{zero64}
use Rattle.moment.proofs.Weights.{var_inserted_lem}
use Rattle.rolling.proofs.extremes.VarExtremesWindowState.insert.Goals as goal

pub returns-then-is_finite : goal.returns-then-is_finite
returns-then-is_finite c =
    let e = var_inserted_lem c.args.self.var c.args.x _ c.requires.few c.requires.counted in
    rw (sym c.is_finite.ensures ∙ c.if-is_finite.true, c.higher_of.ensures, c.lower_of.ensures, c.inserted.ensures ∙ e)

pub returns : goal.returns
returns c =
    let e = var_inserted_lem c.args.self.var zero64 _ c.requires.few c.requires.counted in
    rw (sym c.is_finite.ensures ∙ c.if-is_finite.false, c.inserted-2.ensures ∙ e)
