-- Which patterns of 64 bits are a NaN's: those whose lower 63 bits are above plus infinity's. Assumes nothing.
use mathlib.Core.Path.{◌≡◌, refl, sym, ◌∙◌}
use Prim.Native.Nat.{ℕ, ◌%◌, ◌<◌}
use native.Mathlib.Omega.{arith}
use mathlib.Core.Bool.{true, not, false≢true}
use lib.Dec.{T}
use lib.Ieee.{Float, nan, inf, fin, binary64, of_bits, nan_bits, is_nan}
use lib.Ieee.Bits.{nan_bits_is, nan_bits_above}
use Rattle.std.proofs.lemmas.Float.{not_nan_f64_bits}
use borrow.Author.Tests.{lt-ltb}

-- there is one NaN
pub only_nan : (x : Float) → is_nan x ≡ true → x ≡ nan
unfolding is_nan
only_nan nan e = refl
only_nan (inf s) e = absurd (false≢true e)
only_nan (fin s m d) e = absurd (false≢true e)

pub pattern_nan : (n : ℕ) → 0x7ff0_0000_0000_0000 < n % 0x8000_0000_0000_0000 → of_bits binary64 n ≡ nan
pattern_nan n h = only_nan (of_bits binary64 n) (sym (nan_bits_is binary64 n) ∙ nan_bits_above binary64 n ∙ lt-ltb 0x7ff0_0000_0000_0000 (n % 0x8000_0000_0000_0000) h)

-- no pattern below plus infinity's is a NaN's
pub no_nan_bits : (n : ℕ) → n < 0x7ff0_0000_0000_0000 → T (not (nan_bits binary64 n))
no_nan_bits n h = not_nan_f64_bits n (omega arith)
