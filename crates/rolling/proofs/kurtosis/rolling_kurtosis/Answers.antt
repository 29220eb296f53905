-- The call of one figure, by the plan of its bounds. Assumes nothing.
use Rattle.std.proofs.Common.{refl}
use Rattle.rolling.proofs.Calls.{fixed_call}
use Rattle.rolling.proofs.kurtosis.rolling_kurtosis.Goals as goal

pub returns : goal.returns
returns c =
    let v = c.fixed.ensures in
    fixed_call _ _ _ _ _ _ v.number_is
    (record {
      fits = record { answers = refl; counts = refl };
      written = record { answers_are = v.left.answers_are; counts_are = refl };
      work_kept = v.left.work_kept;
    })
