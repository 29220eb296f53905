-- The answer of a call, from the check that it begins with. Assumes nothing.
use Rattle.std.proofs.Common.{◌≡◌, ℕ, suc, ◌+◌, ◌-◌, ◌<◌, Bool, true, List, [], ◌∷◌, take, drop, Result, Ok, Err, Option, Some, None}
use Rattle.std.proofs.Common.{IsErrAnd, refl, sym, ◌∙◌, arith, eq-eqb, ne_eqb, add-zero, add-suc}
use Rattle.std.specs.Borrow.{Bor}
use Rattle.trace.specs.declared.refusals.Refusal.{Refusal}
use Rattle.trace.specs.Outcomes.{number_of}
use Rattle.trace.proofs.Checks.{number_above}
use Rattle.trace.specs.Lent.{mapped, bytes_of}
use Rattle.trace.specs.Trace.{valid_at, valid_from}
use lib.Ieee.{Float}
use Rattle.moment.specs.Arrays.{State, answer, answered, range_readings}
use Rattle.moment.proofs.Folds.{all_valid}

module _ {S : Type 0} (number : ℕ) (s : S) where
  pub answer_refused : (r : Result S Refusal) (e : Refusal) → IsErrAnd r (λ x. x ≡ e) → number_of e ≡ number → answered r ≡ answer number s
  unfolding answer
  answer_refused (Ok _) e h n = elim h [ ]
  answer_refused (Err x) e h n =
      let positive : 0 < number = rw n at (number_above e) in
      rw (h, n, ne_eqb number 0 (λ z. omega (arith, positive, z)))

  pub answer_state : (t : S) → 0 ≡ number → t ≡ s → State t ≡ answer number s
  unfolding answer
  answer_state t z e = rw (e, eq-eqb number 0 (sym z))

-- ---- the valid ones of a range, which is lent as the part from its start to its end
-- of a part that starts at place s
shifted : {A : Type 0} (valid : ℕ → Bool) (s k : ℕ) (xs : List A) → valid_from (λ i. valid (s + i)) k xs ≡ valid_from valid (s + k) xs
unfolding valid_from
shifted valid s k [] = refl
shifted valid s k (x ∷ xs) = rw (shifted valid s (suc k) xs, add-suc)

module _ (values : List Float) (map : Option (Bor (List ℕ))) (start len : ℕ) where
  abbrev part : List Float
  part = take (start + len - start) (drop start values)

  part_is : part ≡ take len (drop start values)
  part_is = let long : start + len - start ≡ len = omega arith in rw long

  -- without a map the part is all
  pub range_plain : (map ≡ None) → part ≡ range_readings (mapped map) (bytes_of map) values start len
  unfolding valid_at
  range_plain e = rw e (part_is ∙ sym (all_valid start (take len (drop start values))))

  pub range_mapped : (m : Bor (List ℕ)) → (map ≡ Some m)
      → valid_from (λ i. valid_at true m.now (start + i)) 0 part ≡ range_readings (mapped map) (bytes_of map) values start len
  range_mapped m e = rw (e, part_is, shifted (valid_at true m.now) start 0, add-zero)
