-- The plan call is made of what is decoded. Assumes nothing.
use Rattle.std.proofs.Common.{refl, rules}
use Rattle.plan.specs.Plan.{plan_of}
use Rattle.rolling.specs.Moments.{Variance}
use Rattle.rolling.specs.Calls.{query}
use Rattle.rolling.proofs.Lent.{var_lent}
use Rattle.moments.proofs.HostCalls.{host_called, leaves, same_columns}
use Rattle.moments.proofs.moments_plan_var.Goals as goal

pub returns : goal.returns
returns c =
    let g = c.args in
    let q = query (plan_of g.starts.now g.ends.now) g.min_periods (Variance g.ddof) in
    rw c.number.ensures
    (host_called q _ c.shortest-outputs.ensures (record { answers = refl; counts = refl })
    (λ m. var_lent m.1 _ _ _ (leaves m.2.met.1.1 (same_columns (search rules) (search rules) (search rules) (search rules) (search rules) (search rules) (search rules))))
    (λ s. same_columns (search rules) (search rules) (search rules) (search rules) (search rules) (search rules) (search rules)) (c.on_bytes.ensures _ _ c.lent_map.ensures))
