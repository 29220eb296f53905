-- The answers of rows, of their sums, and the lists that a block of rows and all rows of a call fill. Assumes nothing.
use Rattle.std.specs.Prelude.{ℕ, ◌+◌, ◌-◌, ◌≤◌, min, ◌≡◌, Bool, cond, List, eqb, ltb, length, get_or, Float}
use Rattle.float.specs.Tables.{table}
use Rattle.trace.specs.Slices.{Slice, MutSlice, entering, entering_mut, leaving}
use Rattle.moment.specs.Figure.{double_of}
use Rattle.moment.specs.declared.Figure.{Figure}
use Rattle.moment.specs.declared.Figure.TheVariants.{Missing, Present}
use Rattle.window.specs.Outputs.{Column, column_after}
use Rattle.weighted.specs.Weights.{total_of, variance_of, weighted_at, lending_column}
use Rattle.weighted.specs.Code.Sums.{lists_of, sums_of, sums_at}
use Rattle.weighted.specs.declared.sums.Block.{Block}
use Rattle.weighted.specs.declared.sums.BlockSums.{BlockSums}

-- how many places row k's window has, which reaches `left` places before its own and `right` places from it on
abbrev pub length_at : ℕ → ℕ → ℕ → ℕ → ℕ
length_at n left right k = min n (k + right) - (k - left)

-- row k's byte: 0 where its window is shorter than the minimum
abbrev pub validity_at : ℕ → ℕ → ℕ → ℕ → ℕ → ℕ
validity_at n left right min_periods k = cond (ltb (length_at n left right k) min_periods) 0 1

-- a row's answer, of its byte and its variance
abbrev pub answer_of : ℕ → Float → Figure
answer_of byte variance = cond (eqb byte 0) Missing (Present variance)

-- row k's variance, of all its places
abbrev pub variance_by : List Float → List Float → Float → ℕ → ℕ → ℕ → Float
variance_by values weights total left right k = variance_of (sums_of values weights total left k (length_at (length values) left right k))

-- row k's answer
unfoldable pub weighted_by : List Float → List Float → Float → ℕ → ℕ → ℕ → ℕ → Figure
unfolding variance_of sums_of
weighted_by values weights total left right min_periods k =
    cond (ltb (length_at (length values) left right k) min_periods) Missing (Present (variance_by values weights total left right k))

-- ---- the rows of a block, of their sums: one for each place of the outputs
pub record Finishable (present : List ℕ) (rows : ℕ) : Type 0 where
  pub few : rows ≤ 32
  pub present_long : rows ≤ length present

-- the double of the row in place r, of its byte and its variance
abbrev pub double_at : List ℕ → (ℕ → Float) → ℕ → Float
double_at present variance r = double_of (answer_of (get_or present r 0) (variance r))

abbrev pub Finishes : BlockSums → Slice ℕ → MutSlice Float → Type 0
Finishes sums present figures =
    leaving figures ≡ table (double_at (entering present) (λ r. variance_of (sums_at (lists_of sums) r))) (length (entering_mut figures))

-- ---- the same rows, of the readings
pub record BlockLent (b : Block) (present : List ℕ) (figures : List Float) : Type 0 where
  pub present_long : length present ≡ b.until - b.first
  pub figures_long : length figures ≡ b.until - b.first

abbrev pub WritesBlock : Block → Slice ℕ → MutSlice Float → Type 0
WritesBlock b present figures =
    leaving figures ≡ table (double_at (entering present)
    (λ r. variance_by b.values.now b.weights.now b.total b.left (length b.weights.now - b.left) (b.first + r))) (b.until - b.first)

-- ---- all rows of a call that is accepted, over n places
pub record AcceptedWeights (n : ℕ) (weights : List Float) (total : Float) (figures present : ℕ) : Type 0 where
  pub few : n ≤ 16777216
  pub some : 1 ≤ length weights
  pub total-is : total ≡ total_of weights
  pub figures_fit : n ≤ figures
  pub present_fit : n ≤ present

pub record WrittenWeights (center : Bool) (min_periods : ℕ) (weights values : List Float) (c₀ c₁ : Column) : Type 0 where
  pub column-is : c₁ ≡ column_after 0 (weighted_at center (length weights) min_periods weights values) (length values) c₀

abbrev pub WritesWeights : Slice Float → Bool → ℕ → Slice Float → MutSlice Float → MutSlice ℕ → Type 0
WritesWeights values center min_periods weights figures present =
    let c = lending_column figures present in
    WrittenWeights center min_periods (entering weights) (entering values) c.0 c.1
