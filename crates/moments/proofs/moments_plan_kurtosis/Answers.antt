-- The plan call is made of what is decoded. Assumes nothing.
use Rattle.std.proofs.Common.{refl, rules}
use Rattle.plan.specs.Plan.{plan_of}
use Rattle.rolling.specs.Moments.{Kurtosis}
use Rattle.rolling.specs.Calls.{query}
use Rattle.rolling.proofs.Lent.{kurtosis_lent}
use Rattle.moments.proofs.HostCalls.{host_called, leaves, same_column}
use Rattle.moments.proofs.moments_plan_kurtosis.Goals as goal

pub returns : goal.returns
returns c =
    let g = c.args in
    let q = query (plan_of g.starts.now g.ends.now) g.min_periods (Kurtosis g.fisher g.bias) in
    rw c.number.ensures
    (host_called q _ c.min-outputs.ensures (record { answers = refl; counts = refl })
    (λ m. kurtosis_lent m.1 _ _ _ _ (leaves m.2.met.1.1 (same_column (search rules) (search rules) (search rules))))
    (λ s. same_column (search rules) (search rules) (search rules)) (c.on_bytes.ensures _ _ c.lent_map.ensures))
