-- Document 01, "A plan call": a plan and its rows. A plan is the paper's term for a list of windows, a row for one of them. Assumes
-- nothing.
use Rattle.std.specs.Prelude.{ℕ, List, length, slice_index}
use Rattle.trace.specs.Slices.{Slice, entering}
use Rattle.plan.specs.declared.Plan as code

-- "A plan is two lists of equal length, starts and ends"
pub record Plan : Type 0 where
  pub starts : List ℕ
  pub ends : List ℕ

-- a plan of its two lists
abbrev pub plan_of : List ℕ → List ℕ → Plan
plan_of starts ends = record { starts = starts; ends = ends }

-- how many rows a plan has
abbrev pub rows : Plan → ℕ
rows p = length p.starts

-- "a row's window holds places start .."
abbrev pub row_start : Plan → ℕ → ℕ
row_start p k = slice_index p.starts k

-- ".. up to but not including end"
abbrev pub row_end : Plan → ℕ → ℕ
row_end p k = slice_index p.ends k

-- the plan that a call's parameters are
abbrev pub planning : Slice ℕ → Slice ℕ → Plan
planning starts ends = plan_of (entering starts) (entering ends)

-- the plan that a value of the code's type is
abbrev pub planned : code.Plan → Plan
planned plan = plan_of plan.starts.now plan.ends.now
