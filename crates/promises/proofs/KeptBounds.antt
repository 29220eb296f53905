-- A step moves a start once the row has all places before it, and an end until the places end: so the pair is the next row's. Assumes
-- nothing.
use Prim.Native.Nat.{ℕ, ◌+◌, ◌-◌}
use mathlib.Core.Path.{◌≡◌, refl, sym, ap, ◌∙◌}
use mathlib.Core.Bool.{Bool, true, false, cond}
use native.Mathlib.Omega.{arith}
use lib.Dec.{ltb}
use Rattle.plan.specs.Bounds.{bounds_at, next_offsets}
use Rattle.plan.specs.Code.Reaching.{right_of}
use Rattle.plan.proofs.FixedWindows.{next-bounds}
use Rattle.promises.specs.KeptBounds.{left_window, StepsOn, AtMostOne, RaisesEach, KeptBounds}

-- as far as the code's windows reach
pub left_is : (center : Bool) (size : ℕ) → size - right_of center size ≡ left_window center size
unfolding right_of
left_is true size = refl
left_is false size = omega arith

-- a bound that stays or moves to the next place
stays_or_moves : (b : Bool) (bound : ℕ) → AtMostOne bound (cond b bound (bound + 1))
stays_or_moves true bound = record { not_lowered = omega arith; by_one = omega arith }
stays_or_moves false bound = record { not_lowered = omega arith; by_one = omega arith }

moves_or_stays : (b : Bool) (bound : ℕ) → AtMostOne bound (cond b (bound + 1) bound)
moves_or_stays true bound = stays_or_moves false bound
moves_or_stays false bound = stays_or_moves true bound

pub raises_each : (i : ℕ) (at : ℕ × ℕ) (left len : ℕ) → RaisesEach at (next_offsets i at left len)
raises_each i at left len = record { start = stays_or_moves (ltb i left) at.0; end = moves_or_stays (ltb at.1 len) at.1 }

pub kept_bounds : KeptBounds
kept_bounds =
    record {
      raises = raises_each;
      next = λ center size len i h.
          ap (λ (left : ℕ). next_offsets i (bounds_at center size len i) left len) (sym (left_is center size))
          ∙ next-bounds center size len i h;
    }

-- ---- computed: every row of 5 places that has a next one
abbrev EveryRow : Bool → ℕ → Type 0
EveryRow center size = StepsOn center size 5 0 × StepsOn center size 5 1 × StepsOn center size 5 2 × StepsOn center size 5 3

-- of windows of 0, 1, 4, 5, 6, 2^63 and 2^64 - 1
abbrev EverySize : Bool → Type 0
EverySize center =
    EveryRow center 0 × EveryRow center 1 × EveryRow center 4 × EveryRow center 5 × EveryRow center 6 × EveryRow center 9223372036854775808
    × EveryRow center 18446744073709551615

pub trailing_steps : EverySize false
trailing_steps = (
  (refl, refl, refl, refl),
  (refl, refl, refl, refl),
  (refl, refl, refl, refl),
  (refl, refl, refl, refl),
  (refl, refl, refl, refl),
  (refl, refl, refl, refl),
  (refl, refl, refl, refl),
)

pub centred_steps : EverySize true
centred_steps = (
  (refl, refl, refl, refl),
  (refl, refl, refl, refl),
  (refl, refl, refl, refl),
  (refl, refl, refl, refl),
  (refl, refl, refl, refl),
  (refl, refl, refl, refl),
  (refl, refl, refl, refl),
)

-- without a next row a trailing window's step is not 006's pair, which goes on counting
pub last_row_apart : StepsOn false 2 5 4 → ⊥
last_row_apart e = let h : ◌≡◌ {A = ℕ} 5 6 = ap (λ (p : ℕ × ℕ). p.1) e in omega arith
