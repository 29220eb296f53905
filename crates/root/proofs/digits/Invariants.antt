-- `root::digits` meets its contract: after i turns `root` and `remainder` are the integer root of the first 2 * i digits
-- of a * 2 ^ 42 and what is left of them, and at the end the remainder tells which way to round. Assumes nothing.
use Rattle.std.proofs.Common.{◌≡◌, ℕ, ◌+◌, ◌*◌, ◌^◌, ◌<◌, ◌≤◌}
use Rattle.root.proofs.digits.Given as goal

-- a has 64 digits, of which `rest` holds those to come
pub record State (a rest root remainder i : ℕ) : Type 0 where
  pub value : (root * root + remainder) * 2 ^ 64 + rest ≡ a * 4 ^ i
  pub left : rest < 2 ^ 64
  pub short : remainder ≤ 2 * root
  pub small : root < 2 ^ i
  pub few : root < 2 ^ 53

abbrev pub invariant-loop : goal.invariant-loop
invariant-loop l = State l.a l.rest l.root l.remainder l.counter
