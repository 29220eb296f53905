-- `root::longhand` meets its contract: the bits tell each case of the definition apart, and those of a positive number go to
-- `positive`. Assumes nothing.
use Rattle.std.proofs.Common.{◌≡◌, sym, refl, ap, ◌∙◌, arith}
use lib.Ieee.{nan, binary64, of_bits}
use Rattle.root.specs.Root.{root}
use Rattle.float.proofs.Patterns.{no_nan_bits}
use Rattle.root.proofs.Patterns.{no_root_lem, own, zero_own, minus_zero_own, infinity_own}
use Rattle.root.proofs.longhand.Goals as goal

pub float_from_bits-result : goal.float_from_bits-result
float_from_bits-result c = no_nan_bits c.positive.result c.positive.ensures.0

pub returns-in-0 : goal.returns-in-0
returns-in-0 c = own _ _ 0 c.bits.ensures c.in-0.is zero_own

pub returns-in-9218868437227405312 : goal.returns-in-9218868437227405312
returns-in-9218868437227405312 c = own _ _ 0x7ff0000000000000 c.bits.ensures c.in-9218868437227405312.is infinity_own

pub returns-in-9223372036854775808 : goal.returns-in-9223372036854775808
returns-in-9223372036854775808 c = own _ _ 0x8000000000000000 c.bits.ensures c.in-9223372036854775808.is minus_zero_own

nan-is : of_bits binary64 0x7ff8000000000000 ≡ nan
unfolding of_bits
nan-is = refl

pub returns-in_default : goal.returns-in_default
returns-in_default c =
    let b = c.bits.result in
    nan-is ∙ sym (no_root_lem b (omega arith) (omega arith) (λ e. omega arith)) ∙ ap root c.bits.ensures
