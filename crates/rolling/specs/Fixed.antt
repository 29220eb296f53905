-- Document 01, "Fixed windows (006, 004, 005)": what a call with fixed windows answers and leaves. The contract of each of these calls of
-- this crate is `CallsFixed`. Assumes nothing.
use Rattle.std.specs.Prelude.{◌≡◌, ℕ, Bool, length}
use Rattle.plan.specs.Bounds.{bounds}
use Rattle.plan.specs.Refusals.{fixed_refusal}
use Rattle.window.specs.Given.{Given, places_of, given_refusal}
use Rattle.window.specs.Outputs.{Lent, shortest_output}
use Rattle.rolling.specs.Moments.{Statistic, kind_of, work_width}
use Rattle.rolling.specs.Calls.{Query, query, Called}

-- "The n rows of these bounds are the call's plan."
abbrev pub fixed_query : Bool → ℕ → ℕ → (a : Statistic) → Given (kind_of a) → Query
fixed_query center window_size min_periods a t = query (bounds center window_size (places_of (kind_of a) t)) min_periods a

-- a call with fixed windows: its number, and that in its number, its answers and what it leaves it is the plan call of its bounds
pub record CalledFixed (center : Bool) (window_size min_periods : ℕ) (a : Statistic) (t : Given (kind_of a)) (l₀ l₁ : Lent) (number : ℕ) : Type 0 where
  pub number_is : number
      ≡ fixed_refusal (given_refusal (kind_of a) t) (places_of (kind_of a) t) window_size (shortest_output l₀.outputs) (work_width a) (length l₀.work)
  pub plan_call : Called (fixed_query center window_size min_periods a t) t l₀ l₁ number

-- the same, of a call's parameters
abbrev pub CallsFixed : Bool → ℕ → ℕ → (a : Statistic) → Given (kind_of a) → Lent × Lent → ℕ → Type 0
CallsFixed center window_size min_periods a t l number = CalledFixed center window_size min_periods a t l.0 l.1 number
