-- The ends of a call: a refusal leaves every list as it was, and an accepted call's rows are those of its plan. Assumes nothing.
use Rattle.std.proofs.Common.{◌≡◌, ℕ, ◌-◌, ◌≤◌, min, Bool, false, length, sym, refl, ◌∙◌, subst, lit≤, ltb-false, arith}
use Rattle.std.specs.Prelude.{Result, Ok, Err, IsErrAnd}
use Rattle.trace.specs.Outcomes.{number_of, outcome_number}
use Rattle.trace.specs.declared.refusals.Refusal.{Refusal}
use Rattle.trace.proofs.Checks.{number_above, handed_on}
use Rattle.trace.proofs.Accepted.{none_of, not_refused_lem, pair_fits}
use Rattle.plan.specs.Plan.{Plan, rows}
use Rattle.plan.specs.Refusals.{needed, plan_refusal, fixed_refusal}
use Rattle.plan.specs.Code.Accepted.{Accepted, ChecksPlan, ChecksWindows}
use Rattle.plan.specs.Code.Reaching.{right_of, reaching}
use Rattle.plan.proofs.Plans.{neither}
use Rattle.plan.proofs.FixedWindows.{fixed-refusal, bounds_by, reach_accepted}
use Rattle.window.specs.Given.{Kind, Readings, Pairs, Given, places_of, given_refusal}
use Rattle.window.specs.Outputs.{Lent, shortest_output}
use Rattle.window.proofs.Outputs.{answered_refused, numbered_refused, work_refused}
use Rattle.rolling.specs.Moments.{Statistic, kind_of, work_width}
use Rattle.rolling.specs.Calls.{Query, query, GivenTo, Fits, Left, Called, refusal_of, yields, tallies}
use Rattle.rolling.specs.Fixed.{fixed_query, CalledFixed}
use Rattle.rolling.specs.Code.Rows.{plan_by, fixed_rows, Driven}
use Rattle.plan.specs.Bounds.{bounds}
use Rattle.rolling.specs.declared.row.Rows.{Rows}

-- two traces that are not refused have one length
pub one_length : (t : Given Pairs) → given_refusal Pairs t ≡ 0 → length t.x.readings ≡ length t.y.readings
one_length t z = pair_fits _ _ _ _ _ _ _ refl z

-- which is as many places as both have
pub both_are : (t : Given Pairs) → given_refusal Pairs t ≡ 0 → min (length t.x.readings) (length t.y.readings) ≡ length t.x.readings
both_are t z = let e = one_length t z in omega arith

-- what is given has no more places than a plan may have rows
pub few_places : (kind : Kind) (t : Given kind) → given_refusal kind t ≡ 0 → places_of kind t ≤ 16777216
few_places Readings t z = ltb-false _ _ (not_refused_lem 1 _ (lit≤ tt) (none_of _ _ z).0)
few_places Pairs t z = ltb-false _ _ (neither _ _ (not_refused_lem 1 _ (lit≤ tt) (none_of _ _ (none_of _ _ z).0).0)).0

pub refused_left : (q : Query) (t : GivenTo q) (l : Lent) (number : ℕ) → Fits q t l.outputs → (number ≡ 0 → ⊥) → Left q t l l number
refused_left q t l number f h =
    record {
      fits = f;
      written = record { answers_are = answered_refused number (rows q.plan) (yields q t) l.outputs.answers h; counts_are = numbered_refused number (rows q.plan) (tallies q t) l.outputs.counts h };
      work_kept = work_refused number (needed (work_width q.statistic) q.plan) l.work h;
    }

-- an accepted call drives its rows
pub driven : (r : Rows) (kind : Kind) (t : Given kind) {given outputs outputs' width work : ℕ} → given ≡ given_refusal kind t → outputs ≡ outputs'
    → Accepted given (plan_by r (places_of kind t)) (places_of kind t) false outputs width work r.widest
    → Driven r (places_of kind t) outputs' width work
driven r kind t g o a =
    record {
      plan = a.plan;
      wide_is = a.wide_is;
      outputs_fit = subst (λ (k : ℕ). rows (plan_by r (places_of kind t)) ≤ k) o a.outputs_fit;
      work_fits = a.work_fits;
      few = few_places kind t (sym g ∙ a.given_is);
    }

-- the same, of a count of places that is the series's own
pub drives : (r : Rows) (kind : Kind) (t : Given kind) {given n outputs outputs' width work : ℕ} → given ≡ given_refusal kind t → n ≡ places_of kind t
    → outputs ≡ outputs' → Accepted given (plan_by r n) n false outputs width work r.widest → Driven r (places_of kind t) outputs' width work
drives r kind t {given} {n} {outputs} {width = width} {work} g e o a =
    driven r kind t g o (subst (λ (k : ℕ). Accepted given (plan_by r k) k false outputs width work r.widest) e a)

-- of fixed windows, which are checked by their bounds
pub drives_fixed : (size : ℕ) (center : Bool) (min_periods wide : ℕ) (kind : Kind) (t : Given kind) {given n outputs outputs' width work : ℕ}
    → given ≡ given_refusal kind t → n ≡ places_of kind t → outputs ≡ outputs'
    → Accepted given (bounds center size n) n false outputs width work wide
    → Driven (fixed_rows size center min_periods wide) (places_of kind t) outputs' width work
drives_fixed size center min_periods wide kind t {n = n} g e o a =
    drives (fixed_rows size center min_periods wide) kind t g e o (reach_accepted center size n (right_of center size) refl a)

-- ---- a plan call, whose check is put together of its own numbers
module _ (q : Query) (t : GivenTo q) (l : Lent) {given n outputs : ℕ} (given_is : given ≡ given_refusal (kind_of q.statistic) t)
    (n_is : n ≡ places_of (kind_of q.statistic) t) (outputs-is : outputs ≡ shortest_output l.outputs) where
  checked : {number : ℕ} → number ≡ plan_refusal given q.plan n false outputs (work_width q.statistic) (length l.work)
      → number ≡ refusal_of q t false l
  checked e = e ∙ rw (given_is, n_is, outputs-is)

  -- what is refused is handed on
  pub plan_refused : {e : Refusal} → ChecksPlan given q.plan n false outputs (work_width q.statistic) (length l.work) (Err e)
      → (r : Result (Unit {0}) Refusal) → IsErrAnd r (λ x. x ≡ e) → Fits q t l.outputs → Called q t l l (outcome_number r)
  plan_refused {e} k r h f =
      let z : number_of e ≡ 0 → ⊥ = λ d. let above = number_above e in omega (arith, above, d) in
      rw (handed_on r e h) (record { number_is = checked k.number_is; left = refused_left q t l (number_of e) f z })

  pub plan-called : {wide : ℕ} → ChecksPlan given q.plan n false outputs (work_width q.statistic) (length l.work) (Ok wide)
      → {l₁ : Lent} → Left q t l l₁ 0 → Called q t l l₁ 0
  plan-called k w = record { number_is = checked k.number_is; left = w }

-- ---- a call with fixed windows
module _ (center : Bool) (size min_periods : ℕ) (a : Statistic) (t : Given (kind_of a)) (l : Lent) where
  abbrev n : ℕ
  n = places_of (kind_of a) t

  abbrev Number : ℕ
  Number = fixed_refusal (given_refusal (kind_of a) t) n size (shortest_output l.outputs) (work_width a) (length l.work)

  abbrev as-plan : Number ≡ refusal_of (fixed_query center size min_periods a t) t false l
  as-plan = fixed-refusal center size n (given_refusal (kind_of a) t) (shortest_output l.outputs) (work_width a) (length l.work) (few_places (kind_of a) t)

  pub fixed_call : {number : ℕ} {l₁ : Lent} → number ≡ Number → Left (fixed_query center size min_periods a t) t l l₁ number
      → CalledFixed center size min_periods a t l l₁ number
  fixed_call e w = record { number_is = e; plan_call = record { number_is = e ∙ as-plan; left = w } }

  module _ {given places outputs : ℕ} (given_is : given ≡ given_refusal (kind_of a) t) (n_is : places ≡ n)
      (outputs-is : outputs ≡ shortest_output l.outputs) where
    told : {number : ℕ} → number ≡ fixed_refusal given places size outputs (work_width a) (length l.work) → number ≡ Number
    told e = e ∙ rw (given_is, n_is, outputs-is)

    pub fixed_refused : {e : Refusal} → ChecksWindows given places size outputs (work_width a) (length l.work) (Err e)
        → (r : Result (Unit {0}) Refusal) → IsErrAnd r (λ x. x ≡ e) → Fits (fixed_query center size min_periods a t) t l.outputs
        → CalledFixed center size min_periods a t l l (outcome_number r)
    fixed_refused {e} k r h f =
        let z : number_of e ≡ 0 → ⊥ = λ d. let above = number_above e in omega (arith, above, d) in
        rw (handed_on r e h)
        (record {
          number_is = told k.number_is;
          plan_call = record {
            number_is = told k.number_is ∙ as-plan;
            left = refused_left (fixed_query center size min_periods a t) t l (number_of e) f z;
          };
        })

    pub fixed-called : {wide : ℕ} → ChecksWindows given places size outputs (work_width a) (length l.work) (Ok wide) → {l₁ : Lent}
        → Left (query (reaching (size - right_of center size) (right_of center size) n) min_periods a) t l l₁ 0
        → CalledFixed center size min_periods a t l l₁ 0
    fixed-called k {l₁} w =
        record {
          number_is = told k.number_is;
          plan_call = record {
            number_is = told k.number_is ∙ as-plan;
            left = subst (λ (p : Plan). Left (query p min_periods a) t l l₁ 0) (sym (bounds_by center size n (right_of center size) refl)) w;
          };
        }
