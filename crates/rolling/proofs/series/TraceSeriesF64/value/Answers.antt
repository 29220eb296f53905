-- What is finite is inserted as it is. Assumes nothing.
use borrow.Author.Tests.{not-false}
use Rattle.window.specs.Readings.{nonfinite_at, inserted_at}
use Rattle.rolling.proofs.series.TraceSeriesF64.value.Goals as goal

pub returns : goal.returns
unfolding nonfinite_at inserted_at
returns c = let f = c.requires.finite in rw (not-false _ (rw c.requires.valid at f))
