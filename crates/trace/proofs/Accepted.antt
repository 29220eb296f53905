-- What no refusal tells: an accepted range lies inside its trace, and accepted traces of a pair have one length. Assumes nothing.
use Prim.Native.Nat.{ℕ, ◌+◌, ◌<◌, ◌≤◌, min}
use lib.ListN.{length}
use mathlib.Core.Path.{◌≡◌, refl, sym, ◌∙◌}
use mathlib.Core.Bool.{Bool, true, false, ◌||◌}
use mathlib.Core.List.{List}
use mathlib.Core.Logic.{◌⊎◌, inl, inr, ⊎_elim}
use native.Mathlib.Omega.{arith}
use lib.Dec.{eqb}
use borrow.Author.Tests.{eqb-true, eqb-false, ltb-false, not-false}
use Rattle.trace.specs.Trace.{Trace}
use Rattle.trace.specs.Refusals.{refusal, ◌or_else◌, too_many, range_refusal, pair_refusal, trace_refusal, paired_refusal}

bool_cases : (t : Bool) → (t ≡ true) ⊎ (t ≡ false)
bool_cases true = inl refl
bool_cases false = inr refl

pub none_of : (a b : ℕ) → a or_else b ≡ 0 → (a ≡ 0) × (b ≡ 0)
unfolding ◌or_else◌
none_of a b e = ⊎_elim (λ t. (eqb-true a 0 t, rw t at e)) (λ t. let z : a ≡ 0 = rw t at e in absurd (eqb-false a 0 t z)) (bool_cases (eqb a 0))

pub not_refused_lem : (number : ℕ) (t : Bool) → 0 < number → refusal number t ≡ 0 → t ≡ false
unfolding refusal
not_refused_lem number true h e = absurd (omega arith)
not_refused_lem number false h e = refl

pub range_fits_lem : (n : ℕ) (has : Bool) (map : List ℕ) (start len r : ℕ) → r ≡ range_refusal n has map start len → r ≡ 0 → start + len ≤ n
range_fits_lem n has map start len r e h =
    let a = none_of _ _ (sym e ∙ h) in
    ltb-false _ _ (not_refused_lem 11 _ (omega arith) a.1)

pub pair_fits : (n : ℕ) (has : Bool) (map : List ℕ) (n' : ℕ) (has' : Bool) (map' : List ℕ) (r : ℕ) → r ≡ pair_refusal n has map n' has' map' → r ≡ 0 → n ≡ n'
pair_fits n has map n' has' map' r e h =
    let a = none_of _ _ (sym e ∙ h) in
    let b = none_of _ _ a.0 in
    eqb-true n n' (not-false _ (not_refused_lem 2 _ (omega arith) b.1))

-- an accepted trace, and two, have no more readings than a trace may
pub few_readings : (t : Trace) → trace_refusal t ≡ 0 → length t.readings ≤ 16777216
few_readings t z = ltb-false _ _ (not_refused_lem 1 _ (omega arith) (none_of _ _ z).0)

neither_of : (a b : Bool) → (a || b) ≡ false → a ≡ false
neither_of true b e = e
neither_of false b e = refl

pub few_pairs : (x y : Trace) → paired_refusal x y ≡ 0 → min (length x.readings) (length y.readings) ≤ 16777216
few_pairs x y z =
    let one = not_refused_lem 1 _ (omega arith) (none_of _ _ (none_of _ _ z).0).0 in
    let h = ltb-false _ _ (neither_of (too_many (length x.readings)) _ one) in
    omega arith
