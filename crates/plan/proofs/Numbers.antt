-- A check by numbers: of what is given, of the plan itself, and of what is lent. Assumes nothing.
use Rattle.std.proofs.Common.{◌≡◌, ℕ, ◌*◌, min, Bool, ◌||◌, ltb, sym, ◌∙◌, eq-eqb}
use borrow.Author.Tests.{ne_eqb}
use Rattle.trace.specs.Refusals.{refusal, ◌or_else◌}
use Rattle.trace.proofs.Accepted.{none_of}
use Rattle.plan.specs.Plan.{Plan, rows}
use Rattle.plan.specs.Refusals.{wrong_lists, rows_refusal, listed_refusal, widest, plan_refusal}
use Rattle.plan.specs.Code.Accepted.{Checks, plan_number, widest_where}
use Rattle.plan.proofs.Plans.{first_stands, none_then}
use Rattle.plan.proofs.Checks.{taken, listed}

-- the width that goes with a number
pub wide_where : (number : ℕ) (p : Plan) → number ≡ 0 → widest_where number p ≡ widest p (rows p)
wide_where number p z = rw (eq-eqb number 0 z)

pub wide_nowhere : (number : ℕ) (p : Plan) → (number ≡ 0 → ⊥) → 0 ≡ widest_where number p
wide_nowhere number p h = rw (ne_eqb number 0 h)

module _ (given : ℕ) (p : Plan) (n : ℕ) (short : Bool) (outputs width work : ℕ) where
  abbrev Told : ℕ → ℕ → Type 0
  Told number wide = Checks given p n short outputs width work number wide

  abbrev Twelve : ℕ
  Twelve = refusal 12 (short || ltb outputs (rows p))

  abbrev Listed : ℕ
  Listed = plan_number given p n

  -- a number that the plan alone tells stands before what is tested of the lists
  stands_first : (number : ℕ) → number ≡ Listed → (number ≡ 0 → ⊥) → Told number 0
  unfolding plan_refusal
  stands_first number e h =
      let l : Listed ≡ 0 → ⊥ = λ q. h (e ∙ q) in
      record {
        number_is = e ∙ sym (first_stands (Listed or_else Twelve) _ (λ q. l (none_of _ _ q).0) ∙ first_stands Listed Twelve l);
        wide_is = wide_nowhere Listed p l;
        accepted = λ q. absurd (h q);
      }

  pub given_told : (given ≡ 0 → ⊥) → Told given 0
  given_told h = stands_first given (sym (first_stands _ _ (λ q. h (none_of _ _ q).0) ∙ first_stands given _ h)) h

  pub plan_told : (number : ℕ) → given ≡ 0 → number ≡ listed_refusal n p → (number ≡ 0 → ⊥) → Told number 0
  plan_told number z e h = stands_first number (listed given n number p (sym z) e) h

  pub lent_told : (number wide : ℕ) → given ≡ 0 → 0 ≡ listed_refusal n p → wide ≡ widest p (rows p)
      → number ≡ Twelve or_else refusal 13 (ltb work (width * wide)) → Told number wide
  unfolding plan_refusal
  lent_told number wide z e w q =
      let l = sym (listed given n 0 p (sym z) e) in
      let is : number ≡ plan_refusal given p n short outputs width work = q ∙ rw (w, none_then Listed Twelve l) in
      record {
        number_is = is;
        wide_is = w ∙ sym (wide_where Listed p l);
        accepted = λ o. rw w (taken given p n short outputs width work (sym is ∙ o));
      }
