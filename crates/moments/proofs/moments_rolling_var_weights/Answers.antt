-- By the flag: a map refuses, and its bytes change no row. Assumes nothing.
use Rattle.std.proofs.Common.{◌∙◌}
use Rattle.trace.proofs.Lent.{lent_refusal}
use Rattle.moments.proofs.moments_rolling_var_weights.Goals as goal

pub returns : goal.returns
returns c =
    let h = c.lent-x.ensures in
    let v = c.rolling_var_weights.ensures in
    rw c.number.ensures
    (record {
      number_is = v.number_is ∙ rw (lent_refusal _ _ _ _ h, h.mapped_is, h.readings_are);
      column-is = v.column-is ∙ rw h.readings_are;
    })
