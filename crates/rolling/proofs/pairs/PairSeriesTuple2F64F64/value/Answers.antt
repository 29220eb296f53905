-- What is finite is inserted as it is. Assumes nothing.
use borrow.Author.Tests.{not-false}
use Rattle.window.specs.Pairs.{nonfinite_pair, inserted_pair}
use Rattle.rolling.proofs.pairs.PairSeriesTuple2F64F64.value.Goals as goal

pub returns : goal.returns
unfolding nonfinite_pair inserted_pair
returns c = let f = c.requires.finite in rw (not-false _ (rw c.requires.valid at f))
