-- The block of all rows, from a fresh window on. Assumes nothing.
use Rattle.std.proofs.Common.{refl, le_refl}
use Rattle.trace.specs.Lent.{traced}
use Rattle.rolling.specs.Code.Layouts.{var_stored}
use Rattle.rolling.specs.Code.Rows.{raw_of}
use Rattle.rolling.proofs.RowLoops.{opened_block, lists_left}
use Rattle.rolling.proofs.variance.VarianceMoment.rows.Goals as goal

pub block-requires : goal.block-requires
block-requires c =
    opened_block var_stored (raw_of (traced c.args.x)) c.len-n.ensures c.requires c.new.ensures.window c.new.ensures.agg_back c.len.ensures
    c.first.ensures

pub returns : goal.returns
returns c =
    let v = lists_left var_stored _ (raw_of (traced c.args.x)) c.len-n.ensures c.requires c.len.ensures c.block.ensures.works (le_refl _) in
    record {
      fits = record { answers = refl; counts = refl };
      written = record { answers_are = v.0; counts_are = refl };
      work_kept = v.1;
    }
