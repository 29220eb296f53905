-- Document 01, "Fixed windows (006, 004, 005)": their bounds as a plan; document 02, request 3: how a row's bounds come from those of the
-- row before. Assumes nothing.
use Rattle.std.specs.Prelude.{ℕ, ◌+◌, ◌-◌, ◌/◌, min, Bool, cond, ◌==◌, nat_lt}
use Rattle.float.specs.Tables.{table}
use Rattle.plan.specs.Plan.{Plan, plan_of}

-- 006, `det_offsets`; "size 0 gives (i, i)"
abbrev pub det_offsets : ℕ → ℕ → ℕ × ℕ
det_offsets i window_size = cond (window_size == 0) (i, i) (i - (window_size - 1), i + 1)

-- 006, `det_offsets_center`
abbrev pub det_offsets_center : ℕ → ℕ → ℕ → ℕ × ℕ
det_offsets_center i window_size len =
    let right_window = (window_size + 1) / 2 in
    cond (window_size == 0) (i, i) (i - (window_size - right_window), min len (i + right_window))

-- "Bounds by `det_offsets` and `det_offsets_center`": those of row i
abbrev pub bounds_at : Bool → ℕ → ℕ → ℕ → ℕ × ℕ
bounds_at center window_size n i = cond center (det_offsets_center i window_size n) (det_offsets i window_size)

-- Not in document 01: the bounds of one row, for a caller who asks for them alone. Past the last row, where the source goes on
-- counting, the window is empty, at the end.
abbrev pub offsets_at : Bool → ℕ → ℕ → ℕ → ℕ × ℕ
offsets_at center window_size n i = cond (nat_lt i n) (bounds_at center window_size n i) (n, n)

-- "The n rows of these bounds are the call's plan."
unfoldable pub bounds : Bool → ℕ → ℕ → Plan
unfolding table
bounds center window_size n = plan_of (table (λ i. (bounds_at center window_size n i).0) n) (table (λ i. (bounds_at center window_size n i).1) n)

-- Document 02, request 3: "Hold the previous pair and step it on". The pair of the row behind row i, of row i's pair, where windows start
-- `left` places before their own and there are len places: the start moves once row i has `left` places before it, the end until it is len.
abbrev pub next_offsets : ℕ → ℕ × ℕ → ℕ → ℕ → ℕ × ℕ
next_offsets i at left len = (cond (nat_lt i left) at.0 (at.0 + 1), cond (nat_lt at.1 len) (at.1 + 1) at.1)
