-- A refusal as it is checked, else the rows that the windows reach. Assumes nothing.
use Rattle.std.proofs.Common.{refl}
use Rattle.trace.specs.Lent.{traced}
use Rattle.window.specs.Given.{Readings}
use Rattle.rolling.proofs.Calls.{drives_fixed, fixed_refused, fixed-called}
use Rattle.rolling.proofs.skew.rolling_skew.Goals as goal

pub returns-in_err-widest : goal.returns-in_err-widest
returns-in_err-widest c =
    fixed_refused _ _ _ _ _ _ c.check.ensures c.len.ensures c.min.ensures c.in_err-widest.ensures _ c.from_residual.ensures.1
    (record { answers = refl; counts = refl })

pub rows-requires : goal.rows-requires
rows-requires c =
    rw c.fixed-rows.ensures
    (drives_fixed _ _ _ _ Readings (traced c.args.x) c.check.ensures c.len.ensures c.min.ensures (c.in_ok-widest.ensures.accepted _))

pub returns : goal.returns
returns c =
    let v = rw c.fixed-rows.ensures at c.rows.ensures in
    fixed-called _ _ _ _ _ _ c.check.ensures c.len.ensures c.min.ensures c.in_ok-widest.ensures
    (record {
      fits = record { answers = refl; counts = refl };
      written = record { answers_are = v.answers_are; counts_are = refl };
      work_kept = v.work_kept;
    })
