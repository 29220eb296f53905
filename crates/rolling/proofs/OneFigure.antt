-- Calls of one figure, over any moment and any series: what is refused changes no list, and an accepted call's rows are driven. Assumes
-- nothing.
use Rattle.std.proofs.Common.{◌≡◌, ℕ, ◌≤◌, min, Bool, false, List, [], ◌∷◌, length, refl, sym, ap, ◌∙◌, ◌⊎◌, inl, inr, eqb, true, subst, ne_eqb, arith}
use Rattle.std.specs.Prelude.{Result, Ok, Err, IsErrAnd}
use lib.Ieee.{Float}
use Rattle.trace.specs.Outcomes.{number_of, outcome_number}
use Rattle.trace.specs.declared.refusals.Refusal.{Refusal}
use Rattle.trace.proofs.Checks.{number_above, handed_on}
use Rattle.moment.specs.declared.Figure.{Figure}
use Rattle.plan.specs.Plan.{Plan, rows}
use Rattle.plan.specs.Bounds.{bounds}
use borrow.Author.Tests.{eqb-true, eqb-false}
use Rattle.plan.specs.Refusals.{needed, plan_refusal, fixed_refusal}
use Rattle.plan.proofs.Plans.{first_stands}
use Rattle.plan.specs.Code.Accepted.{Accepted, ChecksPlan, ChecksWindows}
use Rattle.plan.specs.Code.Reaching.{right_of}
use Rattle.plan.proofs.FixedWindows.{bounds_by, reach_accepted}
use Rattle.window.specs.Places.{Series}
use Rattle.window.specs.Rows.{answer_at}
use Rattle.window.specs.Outputs.{Column, kept}
use Rattle.window.specs.Code.Memory.{Stored}
use Rattle.window.specs.Code.Stacks.{place_width}
use Rattle.window.proofs.Outputs.{answered_refused, work_refused}
use Rattle.rolling.specs.Code.Rows.{plan_by, fixed_rows, Driven, LeavesBy, LeavesFigure, PlansFigure, FixesFigure}
use Rattle.rolling.specs.declared.row.Rows.{Rows}

-- an accepted call drives its rows
pub driven_by : (r : Rows) (n : ℕ) {given outputs width work : ℕ} → Accepted given (plan_by r n) n false outputs width work r.widest
    → (given ≡ 0 → n ≤ 16777216) → Driven r n outputs width work
driven_by r n a few =
    record { plan = a.plan; wide_is = a.wide_is; outputs_fit = a.outputs_fit; work_fits = a.work_fits; few = few a.given_is }

pub driven_fixed : (size : ℕ) (center : Bool) (min_periods wide n : ℕ) {given outputs width work : ℕ}
    → Accepted given (bounds center size n) n false outputs width work wide
    → (given ≡ 0 → n ≤ 16777216) → Driven (fixed_rows size center min_periods wide) n outputs width work
driven_fixed size center min_periods wide n a few =
    driven_by (fixed_rows size center min_periods wide) n (reach_accepted center size n (right_of center size) refl a) few

module _ {A : Type 0} (M : Stored Float A) (final : M.moment.State → Figure) (t : Series A) (n given min_periods : ℕ)
    {given' n' outputs place : ℕ} (given_is : given' ≡ given) (n_is : n' ≡ n) (place_is : place ≡ place_width M)
    {work₀ : List Float} {c₀ : Column} (outputs_is : outputs ≡ min (length c₀.doubles) (length c₀.bytes)) where
  -- what is refused is handed on
  unchanged : (p : Plan) (e : Refusal) → LeavesBy M final t min_periods p (number_of e) work₀ work₀ c₀ c₀
  unchanged p e =
      let z : number_of e ≡ 0 → ⊥ = λ d. let above = number_above e in omega (arith, above, d) in
      record {
        answers_are = answered_refused (number_of e) (rows p) ((λ k. answer_at M.moment final t min_periods p k) ∷ []) (c₀ ∷ []) z;
        work_kept = work_refused (number_of e) (needed (place_width M) p) work₀ z;
      }

  pub plan_stopped : (p : Plan) {e : Refusal} → ChecksPlan given' p n' false outputs place (length work₀) (Err e)
      → (r : Result (Unit {0}) Refusal) → IsErrAnd r (λ x. x ≡ e)
      → PlansFigure M final t n given min_periods p (outcome_number r) work₀ work₀ c₀ c₀
  plan_stopped p {e} k r h =
      let number_is = rw (given_is, n_is, place_is, outputs_is) at k.number_is in
      rw (handed_on r e h) (record { number_is = number_is; left = unchanged p e })

  pub plan_given : (p : Plan) {wide : ℕ} → ChecksPlan given' p n' false outputs place (length work₀) (Ok wide) → {work : List Float} {c : Column}
      → LeavesBy M final t min_periods p 0 work₀ work c₀ c → PlansFigure M final t n given min_periods p 0 work₀ work c₀ c
  plan_given p k v =
      let number_is = rw (given_is, n_is, place_is, outputs_is) at k.number_is in
      record { number_is = number_is; left = v }

  pub fixed_stopped : (center : Bool) (size : ℕ) {e : Refusal} → ChecksWindows given' n' size outputs place (length work₀) (Err e)
      → (r : Result (Unit {0}) Refusal) → IsErrAnd r (λ x. x ≡ e)
      → FixesFigure M final t n given center size min_periods (outcome_number r) work₀ work₀ c₀ c₀
  fixed_stopped center size {e} k r h =
      let number_is = rw (given_is, n_is, place_is, outputs_is) at k.number_is in
      rw (handed_on r e h) (record { number_is = number_is; left = unchanged (bounds center size n) e })

  pub fixed_given : (center : Bool) (size widest : ℕ) {wide : ℕ} → ChecksWindows given' n' size outputs place (length work₀) (Ok wide)
      → {work : List Float} {c : Column} → LeavesFigure M final t n (fixed_rows size center min_periods widest) work₀ work c₀ c
      → FixesFigure M final t n given center size min_periods 0 work₀ work c₀ c
  fixed_given center size widest k {work} {c} v =
      let number_is = rw (given_is, n_is, place_is, outputs_is) at k.number_is in
      record {
        number_is = number_is;
        left = rw (bounds_by center size n (right_of center size) refl) v;
      }

-- ---- two traces of different length are refused by a number that no count of places changes
zero_or_not : (n : ℕ) → (n ≡ 0) ⊎ (n ≡ 0 → ⊥)
zero_or_not n = go (eqb n 0) refl
  where
    go : (b : Bool) → eqb n 0 ≡ b → (n ≡ 0) ⊎ (n ≡ 0 → ⊥)
    go true e = inl (eqb-true n 0 e)
    go false e = inr (λ z. eqb-false n 0 e z)

plan_first : (given n : ℕ) (p : Plan) (outputs width work : ℕ) → (given ≡ 0 → ⊥) → plan_refusal given p n false outputs width work ≡ given
unfolding plan_refusal
plan_first given n p outputs width work z = rw (first_stands given _ z, first_stands given _ z, first_stands given _ z, first_stands given _ z)

pub plan_same : (given n n' : ℕ) (p : Plan) (outputs width work : ℕ) → (given ≡ 0 → n ≡ n')
    → plan_refusal given p n false outputs width work ≡ plan_refusal given p n' false outputs width work
plan_same given n n' p outputs width work h =
    elim (zero_or_not given) [
      | inl z ↦ ap (λ m. plan_refusal given p m false outputs width work) (h z)
      | inr z ↦ plan_first given n p outputs width work z ∙ sym (plan_first given n' p outputs width work z)
    ]

fixed_first : (given n size outputs width work : ℕ) → (given ≡ 0 → ⊥) → fixed_refusal given n size outputs width work ≡ given
unfolding fixed_refusal
fixed_first given n size outputs width work z = rw (first_stands given _ z, first_stands given _ z)

pub fixed_same : (given n n' size outputs width work : ℕ) → (given ≡ 0 → n ≡ n')
    → fixed_refusal given n size outputs width work ≡ fixed_refusal given n' size outputs width work
fixed_same given n n' size outputs width work h =
    elim (zero_or_not given) [
      | inl z ↦ ap (λ m. fixed_refusal given m size outputs width work) (h z)
      | inr z ↦ fixed_first given n size outputs width work z ∙ sym (fixed_first given n' size outputs width work z)
    ]

pub fixed_none : (given n size outputs width work : ℕ) → fixed_refusal given n size outputs width work ≡ 0 → given ≡ 0
fixed_none given n size outputs width work e =
    elim (zero_or_not given) [ inl z ↦ z | inr z ↦ absurd (z (sym (fixed_first given n size outputs width work z) ∙ e)) ]

pub leaves_same : {A : Type 0} (M : Stored Float A) (final : M.moment.State → Figure) (t : Series A) (min_periods : ℕ) (p p' : Plan) (number : ℕ)
    {work₀ work : List Float} {c₀ c : Column} → (number ≡ 0 → p ≡ p') → LeavesBy M final t min_periods p number work₀ work c₀ c
    → LeavesBy M final t min_periods p' number work₀ work c₀ c
unfolding kept
leaves_same M final t min_periods p p' number {work₀} {work} {c₀} {c} h v =
    elim (zero_or_not number) [
      | inl z ↦ subst (λ (q : Plan). LeavesBy M final t min_periods q number work₀ work c₀ c) (h z) v
      | inr z ↦
          let w = rw (ne_eqb number 0 z) at v.work_kept in
          record {
            answers_are = v.answers_are
                ∙ sym (answered_refused number (rows p) ((λ k. answer_at M.moment final t min_periods p k) ∷ []) (c₀ ∷ []) z)
                ∙ answered_refused number (rows p') ((λ k. answer_at M.moment final t min_periods p' k) ∷ []) (c₀ ∷ []) z;
            work_kept = rw (ne_eqb number 0 z) w;
          }
    ]
