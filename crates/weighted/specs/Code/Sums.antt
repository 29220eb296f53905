-- The sums of a block of rows, as the code makes them: weight after weight, and with each weight the term of every row that has a place
-- for it. Row k's window starts at place k - left, and weight j stands at place k + j - left. Why a row's sums are those of 002's fold: a
-- row meets the weights in their order, which is that of its places, and no row reads the sums of another. Assumes nothing.
use Rattle.std.specs.Prelude.{ℕ, ◌+◌, ◌-◌, ◌≤◌, ◌<◌, min, ◌≡◌, length, get_or, Float}
use mathlib.Core.List.{List, foldl}
use Rattle.std.specs.Float.{nan}
use Rattle.float.specs.Operators.{◌⊘◌}
use Rattle.float.specs.Tables.{table}
use Rattle.window.specs.Readings.{reading_of}
use Rattle.weighted.specs.Weights.{Sums, no_sums, plus}
use Rattle.weighted.specs.declared.sums.Block.{Block}
use Rattle.weighted.specs.declared.sums.BlockSums.{BlockSums}

-- ---- the rows of a block
-- the sums of the first c places of row k
unfoldable pub sums_of : List Float → List Float → Float → ℕ → ℕ → ℕ → Sums
unfolding table
sums_of values weights total left k c =
    foldl plus no_sums (table (λ i. (reading_of values ((k - left) + i), get_or weights ((left - k) + i) nan ⊘ total)) c)

-- how many places of row k's window over n places have one of the first j weights
abbrev pub reached : ℕ → ℕ → ℕ → ℕ → ℕ
reached n left k j = min n ((k + j) - left) - (k - left)

-- the first of the rows from `first` on that have a place for weight j; of those before it that place is before the series
pub record FirstRow (first left j row : ℕ) : Type 0 where
  pub after : first ≤ row
  pub inside : left ≤ row + j
  pub none_before : (k : ℕ) → first ≤ k → k < row → k + j < left

-- the end of the rows below `until` that have one; of those from it on that place is behind the n places
pub record LastRow (until n left j row : ℕ) : Type 0 where
  pub within : row ≤ until
  pub inside : 0 < row → row + j ≤ n + left
  pub none_behind : (k : ℕ) → row ≤ k → k < until → n + left ≤ k + j

-- the sums of a block's rows, in three lists
pub record Lists : Type 0 where
  pub wssq : List Float
  pub wsum : List Float
  pub wtot : List Float

-- those that a value of the code's type lends
abbrev pub lists_of : BlockSums → Lists
lists_of s = record { wssq = s.wssq.now; wsum = s.wsum.now; wtot = s.wtot.now }

-- the sums in place r
abbrev pub sums_at : Lists → ℕ → Sums
sums_at s r = record { wssq = get_or s.wssq r nan; wsum = get_or s.wsum r nan; wtot = get_or s.wtot r nan }

-- sums s₀ with the terms of weight w, of readings for the rows from `row` on
pub record Added (w : Float) (values : List Float) (row : ℕ) (s₀ s : Lists) : Type 0 where
  pub before : (r : ℕ) → r < row → sums_at s r ≡ sums_at s₀ r
  pub inside : (i : ℕ) → i < length values → sums_at s (row + i) ≡ plus (sums_at s₀ (row + i)) (reading_of values i, w)
  pub behind : (r : ℕ) → row + length values ≤ r → sums_at s r ≡ sums_at s₀ r

-- the sums of a block's rows after the first j weights
pub record SumsUpTo (values weights : List Float) (total : Float) (left first until j : ℕ) (s : Lists) : Type 0 where
  pub sums_are : (r : ℕ) → r < until - first →
      sums_at s r ≡ sums_of values weights total left (first + r) (reached (length values) left (first + r) j)

-- ---- the same, of a call's parameters
abbrev pub Weighs : Block → ℕ → BlockSums → Type 0
Weighs b j s = SumsUpTo b.values.now b.weights.now b.total b.left b.first b.until j (lists_of s)

-- where there is a weight more
pub record Weighable (b : Block) (j : ℕ) (s : BlockSums) : Type 0 where
  pub weight : j < length b.weights.now
  pub sums : Weighs b j s
