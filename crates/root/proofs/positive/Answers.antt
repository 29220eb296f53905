-- `root::positive` meets its contract: below 2 ^ 52 the bits are a number of units, which its leading zeros move up to 53
-- digits, and above they are the digits and the exponent. Assumes nothing.
use Rattle.std.proofs.Common.{ℕ, ◌-◌, ◌*◌, ◌^◌, sym, ap, ◌∙◌, arith}
use Rattle.root.specs.Root.{root_of_units}
use Rattle.root.proofs.Patterns.{shift, zeros-in, moved-lo, moved-hi, moved, low-root, high_root}
use Rattle.root.proofs.positive.Goals as goal

pub overflow_sub-b : goal.overflow_sub-b
overflow_sub-b c = omega (arith, zeros-in c.args.b c.requires.0 c.if-b-lt-FIRST_DIGIT.true)

pub assemble-requires : goal.assemble-requires
assemble-requires c =
    let b = c.args.b in
    let p = c.requires.0 in
    let h = c.if-b-lt-FIRST_DIGIT.true in
    rw c.from-shift.ensures (omega (arith, zeros-in b p h, moved-lo b p h, moved-hi b p h, moved b p h))

pub returns-then-b-lt-FIRST_DIGIT : goal.returns-then-b-lt-FIRST_DIGIT
returns-then-b-lt-FIRST_DIGIT c =
    let b = c.args.b in
    let p = c.requires.0 in
    let h = c.if-b-lt-FIRST_DIGIT.true in
    let j = 1074 - shift b p h in
    let r = rw c.from-shift.ensures at c.assemble.ensures in
    (r.0, r.1 ∙ ap (λ (x : ℕ). root_of_units (x * 2 ^ j)) (moved b p h) ∙ sym (low-root b p h))

pub returns-else-b-lt-FIRST_DIGIT : goal.returns-else-b-lt-FIRST_DIGIT
returns-else-b-lt-FIRST_DIGIT c =
    let r = c.assemble-else-b-lt-FIRST_DIGIT.ensures in
    (r.0, r.1 ∙ sym (high_root c.args.b c.if-b-lt-FIRST_DIGIT.false c.requires.1))
