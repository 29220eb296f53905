-- Document 01, States, stand-ins: "`alg_sum_f64` and `alg_add_f64`: plain additions, left to right from +0.0". The sums that
-- each state's `new` takes, and that of weights. Assumes nothing.
use Rattle.std.specs.Prelude.{List, Float}
use mathlib.Core.List.{foldl}
use Rattle.float.specs.Operators.{◌⊕◌, ◌⊖◌, ◌⊗◌, zero64}

-- the sum of what f gives of each, added left to right from +0.0
abbrev pub sum_of : {A : Type 0} → (A → Float) → List A → Float
sum_of f xs = foldl (λ t x. t ⊕ f x) zero64 xs

-- a reading itself
abbrev pub itself : Float → Float
itself x = x

-- (x - mean) * (x - mean)
abbrev pub square : Float → Float → Float
square mean x = (x ⊖ mean) ⊗ (x ⊖ mean)

-- d * d2, where d is the deviation and d2 its square
abbrev pub cube : Float → Float → Float
cube mean x = (x ⊖ mean) ⊗ square mean x

-- d2 * d2
abbrev pub fourth : Float → Float → Float
fourth mean x = square mean x ⊗ square mean x

-- the members of a pair of readings
abbrev pub first_of : Float × Float → Float
first_of p = p.0

abbrev pub second_of : Float × Float → Float
second_of p = p.1

-- (x - mean_x) * (y - mean_y)
abbrev pub deviation_product : Float → Float → Float × Float → Float
deviation_product mean_x mean_y p = (p.0 ⊖ mean_x) ⊗ (p.1 ⊖ mean_y)
