-- A law of Bool that the laws on floats lean on. Assumes nothing.
use mathlib.Core.Path.{◌≡◌, refl}
use mathlib.Core.Bool.{Bool, true, false}
use lib.Dec.{T}

-- two tests that say the same are the same
pub bool_same : (a b : Bool) → (T a → T b) → (T b → T a) → a ≡ b
bool_same true true f g = refl
bool_same true false f g = absurd (f tt)
bool_same false true f g = absurd (g tt)
bool_same false false f g = refl
