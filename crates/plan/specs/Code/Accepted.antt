-- What the code knows of a plan that is accepted. Assumes nothing.
use Rattle.std.specs.Prelude.{◌≡◌, ℕ, ◌+◌, ◌-◌, ◌*◌, ◌<◌, ◌≤◌, min, Bool, false, cond, List, length, ◌==◌, Option, Result, IfSome, IfOk}
use Rattle.trace.specs.Outcomes.{outcome_number}
use Rattle.trace.specs.Refusals.{refusal, ◌or_else◌}
use Rattle.trace.specs.declared.refusals.Refusal.{Refusal}
use Rattle.plan.specs.Plan.{Plan, rows, row_start, row_end}
use Rattle.plan.specs.Bounds.{bounds}
use Rattle.plan.specs.Refusals.{wrong_lists, rows_refusal, listed_refusal, widest, plan_refusal, fixed_refusal}

-- an accepted plan over n places, with no window wider than `wide`
pub record Planned (n wide : ℕ) (p : Plan) : Type 0 where
  pub same : length p.starts ≡ length p.ends
  pub row : (k : ℕ) → k < rows p → (row_start p k ≤ row_end p k) × (row_end p k ≤ n) × (row_end p k ≤ row_start p k + wide)
  pub rising : (j k : ℕ) → j ≤ k → k < rows p → (row_start p j ≤ row_start p k) × (row_end p j ≤ row_end p k)

-- a call that is accepted, whose widest window has `wide` places
pub record Accepted (given : ℕ) (p : Plan) (n : ℕ) (short : Bool) (outputs width work wide : ℕ) : Type 0 where
  pub given_is : given ≡ 0
  pub plan : Planned n wide p
  pub wide_is : wide ≡ widest p (rows p)
  pub narrow : wide ≤ n
  pub readings_fit : short ≡ false
  pub outputs_fit : rows p ≤ outputs
  pub work_fits : width * wide ≤ work

-- lists of one length, over a trace that is not too long
pub record Testable (n : ℕ) (starts ends : List ℕ) : Type 0 where
  pub same : length starts ≡ length ends
  pub few : n ≤ 16777216

-- what a check of a call answers: why it is refused, or the widest window
pub record ChecksPlan (given : ℕ) (p : Plan) (n : ℕ) (short : Bool) (outputs width work : ℕ) (result : Result ℕ Refusal) : Type 0 where
  pub number_is : outcome_number result ≡ plan_refusal given p n short outputs width work
  pub accepted : IfOk result (λ wide. Accepted given p n short outputs width work wide)

-- the same for fixed windows, trailing and centred
pub record ChecksWindows (given n size outputs width work : ℕ) (result : Result ℕ Refusal) : Type 0 where
  pub number_is : outcome_number result ≡ fixed_refusal given n size outputs width work
  pub wide_is : IfOk result (λ wide. wide ≡ min size n)
  pub accepted : (center : Bool) → IfOk result (λ wide. Accepted given (bounds center size n) n false outputs width work wide)

-- the number of a call as far as its plan tells, before the lists that it is lent are looked at
abbrev pub plan_number : ℕ → Plan → ℕ → ℕ
plan_number given p n = given or_else refusal 4 (wrong_lists p) or_else rows_refusal n p (rows p)

-- the widest window where a number is 0, else 0
abbrev pub widest_where : ℕ → Plan → ℕ
widest_where number p = cond (number == 0) (widest p (rows p)) 0

-- what a check of a call answers by numbers: its own, and the widest window of a plan that is not refused itself
pub record Checks (given : ℕ) (p : Plan) (n : ℕ) (short : Bool) (outputs width work number wide : ℕ) : Type 0 where
  pub number_is : number ≡ plan_refusal given p n short outputs width work
  pub wide_is : wide ≡ widest_where (plan_number given p n) p
  pub accepted : number ≡ 0 → Accepted given p n short outputs width work wide

-- the same for fixed windows, trailing and centred
pub record ChecksFixed (given n size outputs width work number wide : ℕ) : Type 0 where
  pub number_is : number ≡ fixed_refusal given n size outputs width work
  pub wide_is : wide ≡ min size n
  pub accepted : number ≡ 0 → (center : Bool) → Accepted given (bounds center size n) n false outputs width work wide

-- what a scan of a plan's rows answers: what refuses them, or the widest window
pub record ScansRows (n : ℕ) (p : Plan) (result : Result ℕ Refusal) : Type 0 where
  pub number_is : outcome_number result ≡ rows_refusal n p (rows p)
  pub wide_is : IfOk result (λ wide. wide ≡ widest p (rows p))

-- what a plan's own check answers, whatever a call of it is given or lent: why it is refused, or the widest window
pub record WidestOf (n : ℕ) (p : Plan) (result : Result ℕ Refusal) : Type 0 where
  pub number_is : outcome_number result ≡ listed_refusal n p
  pub wide_is : IfOk result (λ wide. wide ≡ widest p (rows p))

-- a row's width in 32 bits, which wraps where the row ends before it starts
pub record WidthOf (start end width : ℕ) : Type 0 where
  pub plain : start ≤ end → width ≡ end - start
  pub wrapped : end < start → width + start ≡ end + 4294967296

-- what the tests of all rows answer: where none fails, none is refused, and the widest window
abbrev pub TestsRows : ℕ → Plan → Option ℕ → Type 0
TestsRows n p result = IfSome result (λ wide. (rows_refusal n p (rows p) ≡ 0) × (wide ≡ widest p (rows p)))
