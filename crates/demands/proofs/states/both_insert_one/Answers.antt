-- By what each insert answers. Assumes nothing.
use mathlib.Core.Path.{ap, ◌∙◌}
use Rattle.moment.specs.Skew.{skew_insert}
use Rattle.moment.specs.Kurtosis.{kurtosis_insert}
use Rattle.moment.specs.declared.skew_state.SkewState.{SkewState}
use Rattle.moment.specs.declared.kurtosis_state.KurtosisState.{KurtosisState}
use Rattle.window.specs.Histories.{inserted, after}
use Rattle.demands.proofs.Demanded.{made_by}
use Rattle.demands.proofs.states.both_insert_one.Goals as goal

pub returns : goal.returns
unfolding after
returns c =
    let a = c.args in
    λ h m.
    made_by (inserted h a.x)
    (c.moments_skew_insert_one.ensures ∙ ap (λ (s : SkewState). skew_insert s a.x) m.skew_is)
    (c.moments_kurtosis_insert_one.ensures ∙ ap (λ (s : KurtosisState). kurtosis_insert s a.x) m.kurtosis_is)
