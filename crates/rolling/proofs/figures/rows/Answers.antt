-- The block of all rows, from a fresh window on. Assumes nothing.
use Rattle.rolling.specs.Code.Ops.{stored_by, series_by}
use Rattle.rolling.proofs.RowLoops.{opened_block, block_left}
use Rattle.rolling.proofs.figures.rows.Goals as goal

pub block-requires : goal.block-requires
block-requires g c =
    opened_block (stored_by g.S.Entry.InMemory.layout g.S.InMemory.layout g.S.WindowState.ops)
    (series_by (g.T.Places.places c.args.series) (g.T.Series.entries c.args.series)) c.len-n.ensures c.requires c.new.ensures.window
    c.new.ensures.agg_back c.len.ensures c.first.ensures

pub returns : goal.returns
returns g c =
    block_left (stored_by g.S.Entry.InMemory.layout g.S.InMemory.layout g.S.WindowState.ops) (g.F.Finalize.finalize c.args.moment)
    (series_by (g.T.Places.places c.args.series) (g.T.Series.entries c.args.series)) c.len-n.ensures c.requires c.len.ensures c.block.ensures.works
