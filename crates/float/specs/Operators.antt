-- Document 01, States: "every operation rounded once in the source's order". The operators of the source on 64-bit floats,
-- each rounded once, and its constants, under short names; a definition that uses them reads like the source. Their
-- meaning is the logic's own, lib.Ieee. Assumes nothing.
use Rattle.std.specs.Prelude.{ℕ, pos}
use lib.Ieee.{Float, binary64, of_bits, of_int, add, sub, mul, div}

infixl 6 ◌⊕◌ ◌⊖◌
infixl 7 ◌⊗◌ ◌⊘◌
-- the source's +
abbrev pub ◌⊕◌ : Float → Float → Float
a ⊕ b = add binary64 a b

-- the source's -
abbrev pub ◌⊖◌ : Float → Float → Float
a ⊖ b = sub binary64 a b

-- the source's *
abbrev pub ◌⊗◌ : Float → Float → Float
a ⊗ b = mul binary64 a b

-- the source's /
abbrev pub ◌⊘◌ : Float → Float → Float
a ⊘ b = div binary64 a b

-- 0.0
abbrev pub zero64 : Float
zero64 = of_bits binary64 0

-- 1.0
abbrev pub one64 : Float
one64 = of_bits binary64 0x3ff0_0000_0000_0000

-- 2.0
abbrev pub two64 : Float
two64 = of_bits binary64 0x4000_0000_0000_0000

-- 3.0
abbrev pub three64 : Float
three64 = of_bits binary64 0x4008_0000_0000_0000

-- 4.0
abbrev pub four64 : Float
four64 = of_bits binary64 0x4010_0000_0000_0000

-- 6.0
abbrev pub six64 : Float
six64 = of_bits binary64 0x4018_0000_0000_0000

-- "`f64::EPSILON` is 2^-52"
abbrev pub epsilon64 : Float
epsilon64 = of_bits binary64 0x3cb0_0000_0000_0000

-- n as f64, for a whole number n: the nearest float, which is n itself up to 2 ^ 53
abbrev pub of_nat64 : ℕ → Float
of_nat64 n = of_int binary64 (pos n)
