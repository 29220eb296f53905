-- A list of checks, each with a `?`, answers the first number that applies. Assumes nothing.
use Rattle.std.proofs.Common.{◌≡◌, ℕ, ◌<◌, lit<, sym, ◌∙◌, ap}
use Rattle.std.specs.Prelude.{Bool, true, false, ◌||◌, Result, Ok, Err, IsErrAnd}
use borrow.Author.Tests.{ne_eqb}
use native.Mathlib.Omega.{arith}
use Rattle.trace.specs.Refusals.{◌or_else◌}
use Rattle.trace.specs.Outcomes.{number_of, outcome_number}
use Rattle.trace.specs.declared.refusals.Refusal.{Refusal}
use Rattle.trace.specs.declared.refusals.Refusal.TheVariants as refused

-- no refusal has the number of an accepted call
pub number_above : (e : Refusal) → 0 < number_of e
number_above refused.TooManyReadings = lit< tt
number_above refused.LengthsDiffer = lit< tt
number_above refused.MapTooShort = lit< tt
number_above refused.WrongLists = lit< tt
number_above refused.StartAboveEnd = lit< tt
number_above refused.EndPastTrace = lit< tt
number_above refused.BoundsFall = lit< tt
number_above refused.WeightsWithMap = lit< tt
number_above refused.WeightsSumToZero = lit< tt
number_above refused.WeightCount = lit< tt
number_above refused.RangePastTrace = lit< tt
number_above refused.OutputTooShort = lit< tt
number_above refused.WorkTooShort = lit< tt
number_above refused.BytesNotWhole = lit< tt

-- a refusal's number is the first, whatever is checked behind it
pub stands : (e : Refusal) (a b : ℕ) → number_of e ≡ a → number_of e ≡ a or_else b
unfolding ◌or_else◌
stands e a b n =
    let positive : 0 < a = omega (arith, number_above e, n) in
    rw (n, ne_eqb a 0 (λ z. omega (arith, positive, z)))

-- the error that a `?` hands on
pub handed_on : {A : Type 0} (r : Result A Refusal) (e : Refusal) → IsErrAnd r (λ x. x ≡ e) → outcome_number r ≡ number_of e
handed_on {A = A} (Ok _) e h = elim h [ ]
handed_on (Err x) e h = ap number_of h

pub stops : {A : Type 0} (r : Result A Refusal) (e : Refusal) (a b : ℕ)
    → IsErrAnd r (λ x. x ≡ e) → number_of e ≡ a → outcome_number r ≡ a or_else b
stops r e a b h n = handed_on r e h ∙ stands e a b n

-- a check that passes leaves the number to what is checked behind it
pub goes_on : (a b n : ℕ) → 0 ≡ a → n ≡ b → n ≡ a or_else b
unfolding ◌or_else◌
goes_on a b n z e = rw (sym z, e)

-- the second of two tests is looked at where the first fails
pub first_holds : (a b t : Bool) → a ≡ true → t ≡ a → t ≡ (a || b)
first_holds a b t h e = rw (e, h)

pub second_tells : (a b t : Bool) → a ≡ false → t ≡ b → t ≡ (a || b)
second_tells a b t h e = rw (h, e)
