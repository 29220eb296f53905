-- An entry more for each valid place. Assumes nothing.
use Rattle.std.proofs.Common.{◌∙◌}
use Rattle.trace.specs.Trace.{valid_from}
use Rattle.moment.proofs.Folds.{folded_end, one_by_one}
use Rattle.moment.proofs.states.about.Goals as goal

pub returns : goal.returns
returns g c =
    let s = g.S.State in
    let a = c.args in
    let law = g.met.S.State.about_more a.weight a.mean in
    let end = rw c.len-i-end.ensures at c.loop-i-test.false in
    folded_end c.loop-i.invariant end
    ∙ one_by_one (s.about a.weight a.mean) s.with_entry law (valid_from (g.P.Places.valid a.places) 0 (g.P.Places.entries a.places))
