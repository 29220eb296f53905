-- The blocks that the rows of a weighted call are worked in. Assumes nothing.
use Rattle.std.specs.Prelude.{ℕ, ◌+◌, ◌≤◌, ◌<◌}

-- The rows from `first` up to `until` of a series of n places, whose windows start `left` places before their own. They are at most 32,
-- the places of a block's sums on the stack.
pub record BlockRows (n weights left first until : ℕ) : Type 0 where
  pub some : first < until
  pub few : until ≤ first + 32
  pub inside : until ≤ n
  pub series : n ≤ 16777216
  pub before : left < weights
