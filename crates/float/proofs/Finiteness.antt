-- Zeros, and the one float that is not equal to itself. Assumes nothing.
use mathlib.Core.Path.{◌≡◌, refl, sym, ◌∙◌}
use Prim.Native.Nat.{ℕ, ◌<◌}
use native.Mathlib.Nat.{zero-mul, zero-lt-suc}
use mathlib.Core.Bool.{Bool, true, false}
use lib.IntN.{pos}
use lib.Ieee.{Float, nan, fin, binary64, round, eq, ne, of_bits}
use lib.Ieee.Compare.{differs_from_itself}
use lib.Ieee.Scale.{round_same}
use Rattle.float.specs.Operators.{zero64}

-- only the NaN is not equal to itself
pub not_itself : (x : Float) → eq x x ≡ false → x ≡ nan
unfolding ne
not_itself x e = differs_from_itself x (rw e tt)

-- +0.0 as the logic writes it
abbrev pub plus_zero : Float
plus_zero = fin false 0 (pos 0)

pub zero_fin : zero64 ≡ plus_zero
unfolding of_bits
zero_fin = refl

round_zero_one : (s : Bool) → round binary64 s 0 1 ≡ fin s 0 (pos 0)
unfolding round
round_zero_one true = refl
round_zero_one false = refl

pub round-zero : (s : Bool) (c : ℕ) → 0 < c → round binary64 s 0 c ≡ fin s 0 (pos 0)
round-zero s c C = round_same binary64 s 0 c 0 1 C (zero-lt-suc 0) (sym (zero-mul c)) ∙ round_zero_one s
