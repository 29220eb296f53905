-- A refusal as it is checked, else the rows. Assumes nothing.
use Rattle.std.proofs.Common.{refl}
use Rattle.trace.specs.Lent.{traced}
use Rattle.window.specs.Given.{Readings}
use Rattle.rolling.proofs.Calls.{drives, plan_refused, plan-called}
use Rattle.rolling.proofs.skew.plan_skew.Goals as goal

pub returns-in_err-widest : goal.returns-in_err-widest
returns-in_err-widest c =
    plan_refused _ _ _ c.check.ensures c.len.ensures c.min.ensures c.in_err-widest.ensures _ c.from_residual.ensures.1
    (record { answers = refl; counts = refl })

pub rows-requires : goal.rows-requires
rows-requires c =
    rw c.listed-rows.ensures
    (drives _ Readings (traced c.args.x) c.check.ensures c.len.ensures c.min.ensures c.in_ok-widest.ensures.accepted)

pub returns : goal.returns
returns c =
    let v = rw c.listed-rows.ensures at c.rows.ensures in
    plan-called _ _ _ c.check.ensures c.len.ensures c.min.ensures c.in_ok-widest.ensures
    (record {
      fits = record { answers = refl; counts = refl };
      written = record { answers_are = v.answers_are; counts_are = refl };
      work_kept = v.work_kept;
    })
