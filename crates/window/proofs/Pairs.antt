-- Pairs of readings: when both maps are missing, and a pair stored. Assumes nothing.
use Prim.Native.Nat.{ℕ, ◌+◌}
use mathlib.Core.Path.{◌≡◌, refl}
use mathlib.Core.Bool.{Bool, true, false, ◌||◌, true≢false}
use mathlib.Core.List.{List, [], ◌∷◌}
use native.Mathlib.Numerals.{add-one}
use lib.ListN.{set}
use lib.Seq.{sets}
use lib.Ieee.{Float}
use Rattle.trace.specs.Trace.{valid_at, both_at}

-- without a map of either every place is valid
pub unmapped_both : (has has' : Bool) (map map' : List ℕ) → (has || has') ≡ false → (i : ℕ) → both_at has map has' map' i ≡ true
unfolding both_at valid_at
unmapped_both true has' map map' e i = absurd (true≢false e)
unmapped_both false true map map' e i = absurd (true≢false e)
unmapped_both false false map map' e i = refl

-- a pair stored
pub puts_pair : (l : List Float) (at : ℕ) (x y : Float) → set (set l at x) (at + 1) y ≡ sets l at (x ∷ y ∷ [])
puts_pair l at x y = rw add-one
