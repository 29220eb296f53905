-- `root::digits` meets its contract: after i turns `root` and `remainder` are the integer root of the first 2 * i digits
-- of a * 2 ^ 42 and what is left of them, and at the end the remainder tells which way to round. Assumes nothing.
use Rattle.std.proofs.Common.{◌≡◌, ℕ, ◌+◌, ◌-◌, ◌*◌, ◌/◌, ◌%◌, ◌^◌, ◌<◌, ◌≤◌, sym, ap, ◌∙◌, pow-suc, add-one, arith, pow_mono}
use Rattle.root.proofs.IntegerRoot.{rounded_down, rounded_up}
use Rattle.root.proofs.digits.Goals as goal
use Rattle.root.proofs.digits.Goals.{then-trial-next, else-trial-next}
use Rattle.root.proofs.digits.Invariants.{State}

next-pow : (n i : ℕ) → n ^ (i + 1) ≡ n * n ^ i
next-pow n i = ap (λ (k : ℕ). n ^ k) (add-one i) ∙ pow-suc n i ∙ omega arith

-- one turn
module _ (a rest root remainder i : ℕ) (s : State a rest root remainder i) (h : i < 53) where
  step : (r m : ℕ) → r < 2 * 2 ^ i → m ≤ 2 * r → r * r + m ≡ 4 * (root * root) + (remainder * 4 + rest / 2 ^ 62)
      → State a ((rest * 2 ^ 2) % 2 ^ 64) r m (i + 1)
  step r m b l e =
      let p = next-pow 4 i in
      let q = next-pow 2 i in
      let k : i + 1 ≤ 53 = omega arith in
      let t : 2 ^ (i + 1) ≤ 2 ^ 53 = pow_mono k in
      record {
        value = omega (arith, ap (λ (x : ℕ). a * x) p);
        left = omega arith;
        short = l;
        small = omega arith;
        few = omega arith;
      }

  zero-digit : remainder * 4 + rest / 2 ^ 62 < root * 4 + 1
      → State a ((rest * 2 ^ 2) % 2 ^ 64) (root * 2) (remainder * 4 + rest / 2 ^ 62) (i + 1)
  zero-digit k = step (root * 2) (remainder * 4 + rest / 2 ^ 62) (omega arith) (omega arith) (omega arith)

  one-digit : root * 4 + 1 ≤ remainder * 4 + rest / 2 ^ 62
      → State a ((rest * 2 ^ 2) % 2 ^ 64) (root * 2 + 1) (remainder * 4 + rest / 2 ^ 62 - (root * 4 + 1)) (i + 1)
  one-digit k = step (root * 2 + 1) (remainder * 4 + rest / 2 ^ 62 - (root * 4 + 1)) (omega arith) (omega arith) (omega arith)

pub loop-preserved : goal.loop-preserved
loop-preserved c =
    let a = c.args.a in
    let l = c.loop in
    let h = c.loop-test.true in
    elim c.if-trial-next.branch [
      | then-trial-next w ↦ rw (w.root-is, w.remainder-is) (one-digit a l.rest l.root l.remainder l.counter l.invariant h w.if-trial-next.true)
      | else-trial-next w ↦ rw (w.root-is, w.remainder-is) (zero-digit a l.rest l.root l.remainder l.counter l.invariant h w.if-trial-next.false)
    ]

-- the last digit is found
at-end : (a rest root remainder i : ℕ) → State a rest root remainder i → i ≡ 53 → a * 2 ^ 42 ≡ root * root + remainder
at-end a rest root remainder i s e =
    let v : (root * root + remainder) * 2 ^ 64 + rest ≡ a * 4 ^ 53 = rw e at s.value in
    omega arith

pub returns-then-remainder-root : goal.returns-then-remainder-root
returns-then-remainder-root c =
    let l = c.loop in
    let s = l.invariant in
    sym (rounded_up _ l.root l.remainder (omega arith) (at-end _ _ _ _ _ s (omega arith)) c.if-remainder-root.true s.short)

pub returns-else-remainder-root : goal.returns-else-remainder-root
returns-else-remainder-root c =
    let l = c.loop in
    sym (rounded_down _ l.root l.remainder (omega arith) (at-end _ _ _ _ _ l.invariant (omega arith)) c.if-remainder-root.false)
