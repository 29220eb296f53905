-- By what each combine answers. Assumes nothing.
use mathlib.Core.Path.{◌∙◌}
use Rattle.moment.specs.Skew.{skew_combine}
use Rattle.moment.specs.Kurtosis.{kurtosis_combine}
use Rattle.window.specs.Histories.{combined, after}
use Rattle.demands.proofs.Demanded.{made_by}
use Rattle.demands.proofs.states.both_combine.Goals as goal

pub returns : goal.returns
unfolding after
returns c =
    λ h g m o.
    made_by (combined h g)
    (c.moments_skew_combine.ensures ∙ (λ j. skew_combine (m.skew_is j) (o.skew_is j)))
    (c.moments_kurtosis_combine.ensures ∙ (λ j. kurtosis_combine (m.kurtosis_is j) (o.kurtosis_is j)))
