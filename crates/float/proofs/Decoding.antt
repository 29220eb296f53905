-- Readings that are lent as bytes: eight bytes spell a number of 64 bits, and the reading is the float of these bits, which are
-- unchanged but for a NaN's. Assumes nothing.
use Prim.Native.Nat.{ℕ, ◌*◌, ◌%◌, ◌^◌, ◌+◌, ◌<◌, ◌≤◌}
use mathlib.Core.Path.{◌≡◌, subst}
use mathlib.Core.Bool.{Bool, not}
use mathlib.Core.List.{List}
use native.Mathlib.Omega.{arith}
use lib.Dec.{T}
use lib.ListN.{get_or}
use lib.Ieee.{nan, binary64, to_bits}
use lib.Ieee.Bits.{to_bits-of_bits, nan_bits_is}
use Rattle.float.specs.Bytes.{le64, reading_at}
use Rattle.std.proofs.lemmas.Float.{not_nan_f64_bits}
use Rattle.float.proofs.Patterns.{pattern_nan}

module _ (bytes : List ℕ) (small : (k : ℕ) → get_or bytes k 0 < 256) where
  pub le64-lt : (at : ℕ) → le64 bytes at < 2 ^ 64
  le64-lt at =
      omega (
        arith,
        small at,
        small (at + 1),
        small (at + 2),
        small (at + 3),
        small (at + 4),
        small (at + 5),
        small (at + 6),
        small (at + 7),
      )

  -- "bits unchanged"
  pub bits-unchanged : (i : ℕ) → le64 bytes (i * 8) % 0x8000_0000_0000_0000 ≤ 0x7ff0_0000_0000_0000
      → to_bits binary64 (reading_at bytes i) ≡ le64 bytes (i * 8)
  bits-unchanged i h =
      to_bits-of_bits binary64 (le64 bytes (i * 8)) (le64-lt (i * 8))
      (subst (λ (b : Bool). T (not b)) (nan_bits_is binary64 (le64 bytes (i * 8))) (not_nan_f64_bits (le64 bytes (i * 8)) h))

  -- a NaN is a NaN
  pub nan-decoded : (i : ℕ) → 0x7ff0_0000_0000_0000 < le64 bytes (i * 8) % 0x8000_0000_0000_0000 → reading_at bytes i ≡ nan
  nan-decoded i h = pattern_nan (le64 bytes (i * 8)) h
