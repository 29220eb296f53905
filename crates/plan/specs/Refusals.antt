-- Document 01, "Who can cause a refusal": what refuses a call with a plan or with fixed windows, after what refuses the trace that it is
-- given: 4, then row by row 5, 6, 7, then 12 and 13. Of the lists that are lent only the lengths count. Assumes nothing.
use Rattle.std.specs.Prelude.{ℕ, zero, suc, ◌-◌, ◌*◌, min, max, Bool, not, ◌||◌, List, length, ◌==◌, nat_lt, slice_index}
use Rattle.trace.specs.Refusals.{refusal, ◌or_else◌, too_many}
use Rattle.plan.specs.Plan.{Plan, rows, row_start, row_end}

-- "4 lists differ in length or exceed 16,777,216 rows"
abbrev pub wrong_lists : Plan → Bool
wrong_lists p = not (length p.starts == length p.ends) || too_many (rows p)

-- A row from s up to e of a plan over n places, after one from s' up to e': "5 start > end; 6 end > n; 7 start or end below the
-- row before"
unfoldable pub row_refusal : ℕ → ℕ → ℕ → ℕ → ℕ → ℕ
unfolding refusal ◌or_else◌
row_refusal n s' e' s e = refusal 5 (nat_lt e s) or_else refusal 6 (nat_lt n e) or_else refusal 7 (nat_lt s s' || nat_lt e e')

-- the bound of the row before row k; row 0 has none before it, and nothing is below 0
abbrev pub before : List ℕ → ℕ → ℕ
before bounds zero = 0
before bounds (suc k) = slice_index bounds k

-- "in a plan from row 0, each row tested for 5, 6, 7": the first k rows
unfoldable pub rows_refusal : ℕ → Plan → ℕ → ℕ
unfolding row_refusal ◌or_else◌
rows_refusal n p zero = 0
rows_refusal n p (suc k) =
    rows_refusal n p k or_else row_refusal n (before p.starts k) (before p.ends k) (row_start p k) (row_end p k)

-- "the widest window of the plan", of its first k rows
unfoldable pub widest : Plan → ℕ → ℕ
widest p zero = 0
widest p (suc k) = max (widest p k) (row_end p k - row_start p k)

-- "4 lists differ in length or exceed 16,777,216 rows", then row by row: what refuses a plan over n places, whatever a call is given or lent
unfoldable pub listed_refusal : ℕ → Plan → ℕ
unfolding refusal ◌or_else◌ rows_refusal
listed_refusal n p = refusal 4 (wrong_lists p) or_else rows_refusal n p (rows p)

-- Work slice: so many doubles a place, "times the widest window of the plan"
abbrev pub needed : ℕ → Plan → ℕ
needed width p = width * widest p (rows p)

-- A call with a plan over n places: `given` is the number of what it is given, "12 an output list shorter than the rows" with
-- `outputs` the length of the shortest, "or in the host call a reading list shorter than n", which `short` says; "13 work slice too
-- short", of `width` doubles a place
unfoldable pub plan_refusal : ℕ → Plan → ℕ → Bool → ℕ → ℕ → ℕ → ℕ
unfolding refusal ◌or_else◌ rows_refusal widest
plan_refusal given p n short outputs width work =
    given
    or_else refusal 4 (wrong_lists p)
    or_else rows_refusal n p (rows p)
    or_else refusal 12 (short || nat_lt outputs (rows p))
    or_else refusal 13 (nat_lt work (needed width p))

-- A call with fixed windows over n places: "they refuse nothing more" than what is given, 12 and 13; "Widest window: the smaller of size
-- and n."
unfoldable pub fixed_refusal : ℕ → ℕ → ℕ → ℕ → ℕ → ℕ → ℕ
unfolding refusal ◌or_else◌
fixed_refusal given n window_size outputs width work =
    given or_else refusal 12 (nat_lt outputs n) or_else refusal 13 (nat_lt work (width * min window_size n))
