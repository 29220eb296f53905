-- By the tests in their order. Assumes nothing.
use Rattle.window.proofs.Rows.{moves_long, moves_first}
use Rattle.rolling.proofs.row.Rows.moves.Goals as goal

pub returns-then-self-at : goal.returns-then-self-at
returns-then-self-at c = let a = c.args in moves_long a.has_map a.self.min_periods a.row a.at.start a.at.end c.if-self-at.true

pub returns : goal.returns
returns c = let a = c.args in moves_first a.has_map a.self.min_periods a.row a.at.start a.at.end c.if-self-at.false c.if-has_map.false
