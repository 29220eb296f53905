-- The call of one figure; two traces that are not refused have one length. Assumes nothing.
use Rattle.std.proofs.Common.{refl, ◌∙◌}
use Rattle.rolling.proofs.Calls.{both_are}
use Rattle.rolling.proofs.OneFigure.{plan_same}
use Rattle.window.specs.Pairs.{paired}
use Rattle.rolling.proofs.pearson.plan_pearson_corr.Goals as goal

pub returns : goal.returns
returns c =
    let v = c.plan.ensures in
    record {
      number_is = v.number_is ∙ plan_same _ _ _ _ _ _ _ (both_are (paired c.args.pair));
      left = record {
        fits = record { answers = refl; counts = refl };
        written = record { answers_are = v.left.answers_are; counts_are = refl };
        work_kept = v.left.work_kept;
      };
    }
