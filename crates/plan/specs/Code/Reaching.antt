-- Fixed windows by how far they reach to each side of their own place: one loop serves them and plans. Assumes nothing.
use Rattle.std.specs.Prelude.{◌≡◌, ℕ, ◌+◌, ◌-◌, ◌/◌, ◌%◌, ◌^◌, min, Bool, cond, List}
use Rattle.float.specs.Tables.{table}
use Rattle.plan.specs.Plan.{Plan, plan_of}

-- how many places from its own on a fixed window reaches
unfoldable pub right_of : Bool → ℕ → ℕ
right_of center window_size = cond center ((window_size + 1) / 2) (min window_size 1)

-- the n rows that start `left` places before their own and end `right` places from it on
abbrev pub reaching : ℕ → ℕ → ℕ → Plan
reaching left right n = plan_of (table (λ i. i - left) n) (table (λ i. min n (i + right)) n)

-- the rows of a call over n places, of fixed windows or as they are listed
abbrev pub rows_of : Bool → ℕ → ℕ → ℕ → List ℕ → List ℕ → Plan
rows_of fixed left right n starts ends = cond fixed (reaching left right n) (plan_of starts ends)

-- the next row's pair as numbers of 64 bits: a start of 2^64 - 1, which no row has, wraps where it moves
pub record StepsTo (next : ℕ × ℕ) (start end : ℕ) : Type 0 where
  pub start_is : start ≡ next.0 % 2 ^ 64
  pub end_is : end ≡ next.1
