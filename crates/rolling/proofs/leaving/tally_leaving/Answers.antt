-- Without a map every place is valid. Assumes nothing.
use Rattle.std.proofs.Common.{sym, ◌∙◌}
use Rattle.window.proofs.Places.{count-all}
use Rattle.rolling.proofs.leaving.tally_leaving.Goals as goal

pub returns-else-is_mapped : goal.returns-else-is_mapped
returns-else-is_mapped g c =
    let every = g.met.P.Places.unmapped c.args.places (sym c.is_mapped.ensures ∙ c.if-is_mapped.false) in
    record { valid-is = sym (count-all _ _ every _ _); nonfinite_is = sym (c.requires.none c.if-nonfinite-ne0.false) }
