-- A place of the list of pairs is a place of both lists. Assumes nothing.
use Rattle.std.proofs.Common.{sym}
use Rattle.moment.proofs.Pairs.{zip_at}
use Rattle.moment.proofs.entries.PairPlaces.entry.Goals as goal

pub returns : goal.returns
returns c = sym (zip_at _ _ _ _ _ _ c.requires)
