-- `root::assemble` meets its contract: the exponent and the 53 digits of the rounded root, side by side, are the bits of
-- the root. Assumes nothing.
use Rattle.std.proofs.Common.{◌≡◌, ℕ, ◌+◌, ◌-◌, ◌*◌, ◌/◌, ◌^◌, ◌<◌, ap, ◌∙◌, arith}
use lib.Ieee.{binary64, of_bits}
use Rattle.root.specs.Root.{rounded_root, root_of_units}
use Rattle.root.proofs.Patterns.{word, word_in, root-bits}
use Rattle.root.proofs.assemble.Goals as goal

bits : (c : goal.After-digits-q) → let s = c in let q = c.digits-q.result in let k = s.args.j / 2 - 26 in
    (k * 2 ^ 52 + q < 0x7ff0000000000000) × (of_bits binary64 (k * 2 ^ 52 + q) ≡ root_of_units (s.args.m * 2 ^ s.args.j))
bits c =
    let s = c in
    let w = word s.args.m s.args.j s.requires in
    let e : w * 1024 * 2 ^ 42 ≡ w * 2 ^ 52 = omega arith in
    root-bits s.args.m s.args.j s.requires c.digits-q.result (c.digits-q.ensures ∙ ap (λ (n : ℕ). rounded_root 0 n) e)

pub overflow_mul-m : goal.overflow_mul-m
overflow_mul-m c = omega (arith, word_in c.args.m c.args.j c.requires)

pub overflow_add-result : goal.overflow_add-result
overflow_add-result c = omega (arith, bits c)

pub returns : goal.returns
returns c = bits c
