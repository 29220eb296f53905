-- The call of one figure; two traces that are not refused have one length. Assumes nothing.
use Rattle.std.proofs.Common.{refl, sym, ap, ◌∙◌}
use Rattle.plan.specs.Bounds.{bounds}
use Rattle.rolling.proofs.Calls.{both_are, fixed_call}
use Rattle.rolling.proofs.OneFigure.{fixed_same, fixed_none, leaves_same}
use Rattle.window.specs.Pairs.{paired}
use Rattle.rolling.proofs.cov.rolling_cov.Goals as goal

pub returns : goal.returns
returns c =
    let a = c.args in
    let v = c.fixed.ensures in
    let same = both_are (paired a.pair) in
    let w = leaves_same _ _ _ _ _ _ _ (λ z. ap (λ n. bounds a.windows.center a.windows.window_size n) (same (fixed_none _ _ _ _ _ _ (sym v.number_is ∙ z)))) v.left in
    fixed_call _ _ _ _ _ _ (v.number_is ∙ fixed_same _ _ _ _ _ _ _ same)
    (record {
      fits = record { answers = refl; counts = refl };
      written = record { answers_are = w.answers_are; counts_are = refl };
      work_kept = w.work_kept;
    })
