-- The check of a call, as it is put together: over any number of what is given, any outputs, any need of work. Assumes nothing.
use Rattle.std.proofs.Common.{not, ap, ◌≡◌, ℕ, ◌*◌, min, Bool, ◌||◌, eqb, ltb, sym, refl, ◌∙◌, arith, lit≤, ltb-false, eqb-true}
use Rattle.std.proofs.lemmas.Bool.Decides.{nat_tests}
use borrow.Author.Tests.{not-false}
use Rattle.trace.specs.Refusals.{refusal, ◌or_else◌}
use Rattle.trace.proofs.Accepted.{none_of, not_refused_lem}
use Rattle.plan.specs.Plan.{Plan, rows}
use Rattle.std.specs.Prelude.{Result, Ok, Err, IsErrAnd}
use Rattle.trace.specs.Outcomes.{number_of}
use Rattle.trace.specs.declared.refusals.Refusal.{Refusal}
use Rattle.plan.specs.Refusals.{wrong_lists, rows_refusal, listed_refusal, widest, plan_refusal, fixed_refusal}
use Rattle.plan.specs.Code.Accepted.{Accepted, ScansRows, WidestOf, ChecksPlan, ChecksWindows}
use Rattle.plan.proofs.Plans.{neither, planned, widest-le}

-- The shorter of two lists is too short where one of them is
pub below_min : (a b n : ℕ) → ltb (min a b) n ≡ (ltb a n || ltb b n)
below_min a b n = grind (arith, nat_tests)

-- what holds of a call that nothing refuses
pub taken : (given : ℕ) (p : Plan) (n : ℕ) (short : Bool) (outputs width work : ℕ) →
    plan_refusal given p n short outputs width work ≡ 0 → Accepted given p n short outputs width work (widest p (rows p))
unfolding plan_refusal
taken given p n short outputs width work e =
    let a = none_of _ _ e in
    let b = none_of _ _ a.0 in
    let c = none_of _ _ b.0 in
    let d = none_of _ _ c.0 in
    let lists = neither _ _ (not_refused_lem 4 _ (lit≤ tt) d.1) in
    let rest = neither _ _ (not_refused_lem 12 _ (lit≤ tt) b.1) in
    record {
      given_is = d.0;
      wide_is = refl;
      plan = planned n p (eqb-true _ _ (not-false _ lists.0)) c.1;
      narrow = widest-le n p (rows p) c.1;
      readings_fit = rest.0;
      outputs_fit = ltb-false _ _ rest.1;
      work_fits = ltb-false _ _ (not_refused_lem 13 _ (lit≤ tt) a.1);
    }

-- rows that are refused have no width
pub rows_stop : (n : ℕ) (p : Plan) (r : Result ℕ Refusal) (e : Refusal) → IsErrAnd r (λ x. x ≡ e) → number_of e ≡ rows_refusal n p (rows p) → ScansRows n p r
rows_stop n p (Ok _) e h q = elim h [ ]
rows_stop n p (Err x) e h q = record { number_is = ap number_of h ∙ q; wide_is = tt }

-- nor has a plan
pub widest_stops : (n : ℕ) (p : Plan) (r : Result ℕ Refusal) (e : Refusal) → IsErrAnd r (λ x. x ≡ e) → number_of e ≡ listed_refusal n p → WidestOf n p r
widest_stops n p (Ok _) e h q = elim h [ ]
widest_stops n p (Err x) e h q = record { number_is = ap number_of h ∙ q; wide_is = tt }

-- a plan's own number behind what a call of it is given
pub listed : (given n m : ℕ) (p : Plan) → 0 ≡ given → m ≡ listed_refusal n p → m ≡ given or_else refusal 4 (wrong_lists p) or_else rows_refusal n p (rows p)
unfolding listed_refusal ◌or_else◌
listed given n m p z e = rw (← z) e

-- nor has a call that is refused
pub plan_stops : (given : ℕ) (p : Plan) (n : ℕ) (short : Bool) (outputs width work : ℕ) (r : Result ℕ Refusal) (e : Refusal) → IsErrAnd r (λ x. x ≡ e) →
    number_of e ≡ plan_refusal given p n short outputs width work → ChecksPlan given p n short outputs width work r
plan_stops given p n short outputs width work (Ok _) e h q = elim h [ ]
plan_stops given p n short outputs width work (Err x) e h q = record { number_is = ap number_of h ∙ q; accepted = tt }

pub fixed_stops : (given n size outputs width work : ℕ) (r : Result ℕ Refusal) (e : Refusal) → IsErrAnd r (λ x. x ≡ e) →
    number_of e ≡ fixed_refusal given n size outputs width work → ChecksWindows given n size outputs width work r
fixed_stops given n size outputs width work (Ok _) e h q = elim h [ ]
fixed_stops given n size outputs width work (Err x) e h q = record { number_is = ap number_of h ∙ q; wide_is = tt; accepted = λ center. tt }

-- lists that no check refuses
pub lists_pass : (a b : ℕ) (t : Bool) → 0 ≡ refusal 4 (not (eqb a b) || t) → a ≡ b
lists_pass a b t z = eqb-true a b (not-false _ (neither _ _ (not_refused_lem 4 _ (lit≤ tt) (sym z))).0)

-- a check that passes
pub plan_passes : (given : ℕ) (p : Plan) (n : ℕ) (short : Bool) (outputs width work wide : ℕ) → wide ≡ widest p (rows p) →
    0 ≡ plan_refusal given p n short outputs width work → ChecksPlan given p n short outputs width work (Ok wide)
plan_passes given p n short outputs width work wide e z = record { number_is = z; accepted = rw e (taken given p n short outputs width work (sym z)) }

-- the work that the widest window needs
pub work_check : (work width wide wide' : ℕ) (t : Bool) → t ≡ ltb work (width * wide) → wide ≡ wide' → refusal 13 t ≡ refusal 13 (ltb work (width * wide'))
work_check work width wide wide' t e f = rw (e, f)
