-- The root in whole numbers: `integer_root` is the largest number whose square fits, since each step keeps that true of
-- one more digit, and which way `rounded_root` goes is told by the remainder. Assumes nothing.
use Rattle.std.proofs.Common.{◌≡◌, ℕ, zero, suc, ◌+◌, ◌-◌, ◌*◌, ◌/◌, ◌^◌, ◌<◌, ◌≤◌, Bool, true, false, cond, not, T, eqb, leb, refl, ap, ◌∙◌, subst, le_of_suc-le-suc, mul-le-mul, le_antisymm, mul-lt-mul_of_pos_right, lt_of_not-le, mul-one, not-le_of_lt, div-one, arith, eqb→eq, leb→le}
use Prim.Native.Nat.{compare, Ordering}
use native.Mathlib.Decide.{dec_le}
use lib.Dec.{is_le, compare_is_eq, nleb→lt, eqb_refl}
use lib.Ieee.{nearest}
use Rattle.root.specs.Root.{square, digit, integer_root, rounded_root}

-- ---- the integer root
abbrev pub Floor : ℕ → ℕ → Type 0
Floor n r = (square r ≤ n) × (n < square (r + 1))

digit_floor : (r n : ℕ) → Floor (n / 4) r → Floor n (digit (2 * r) n)
digit_floor r n f =
    let s = square (2 * r + 1) in
    go (leb s n) (leb→le s n) (nleb→lt s n)
  where
    go : (b : Bool) → (T b → square (2 * r + 1) ≤ n) → (T (not b) → n < square (2 * r + 1)) → Floor n (2 * r + cond b 1 0)
    go true h k = let g = h tt in omega arith
    go false h k = let g = k tt in omega arith

pub integer_root_floor : (d n : ℕ) → n < 4 ^ d → Floor n (integer_root d n)
unfolding integer_root
integer_root_floor zero n h = omega arith
integer_root_floor (suc d) n h =
    digit_floor (integer_root d (n / 4)) n (integer_root_floor d (n / 4) (omega arith))

pub at_most : (n q r : ℕ) → square q ≤ n → n < square (r + 1) → q ≤ r
at_most n q r h k =
    le_of_suc-le-suc
    (lt_of_not-le (λ (g : suc r ≤ q). not-le_of_lt k (omega (arith, mul-le-mul g g))))

pub floor_unique : (n q r : ℕ) → Floor n q → Floor n r → q ≡ r
floor_unique n q r f g = le_antisymm (at_most n q r f.0 g.1) (at_most n r q g.0 f.1)

-- ---- `compare`
abbrev pub Cmp : Ordering → ℕ → ℕ → Type 0
Cmp Ordering.lt a b = a < b
Cmp Ordering.eq a b = a ≡ b
Cmp Ordering.gt a b = b < a

pub cmp : (a b : ℕ) → Cmp (compare a b) a b
cmp a b =
    go (compare a b) (leb→le a b) (nleb→lt a b) (eqb→eq a b)
    (λ (e : a ≡ b). subst (λ (x : ℕ). T (eqb a x)) e (eqb_refl a))
  where
    less : a ≤ b → (a ≡ b → ⊥) → a < b
    less h n = omega arith

    go : (o : Ordering) → (T (is_le o) → a ≤ b) → (T (not (is_le o)) → b < a) → (T (compare_is_eq o) → a ≡ b) → (a ≡ b → T (compare_is_eq o))
        → Cmp o a b
    go Ordering.lt h k e n = less (h tt) n
    go Ordering.eq h k e n = e tt
    go Ordering.gt h k e n = k tt

-- one order at most holds of two numbers
pub compare_is : (o : Ordering) (a b : ℕ) → Cmp o a b → compare a b ≡ o
compare_is o a b h = go (compare a b) o (cmp a b) h
  where
    go : (p o : Ordering) → Cmp p a b → Cmp o a b → p ≡ o
    go Ordering.lt Ordering.lt c d = refl
    go Ordering.lt Ordering.eq c d = absurd (omega arith)
    go Ordering.lt Ordering.gt c d = absurd (omega arith)
    go Ordering.eq Ordering.lt c d = absurd (omega arith)
    go Ordering.eq Ordering.eq c d = refl
    go Ordering.eq Ordering.gt c d = absurd (omega arith)
    go Ordering.gt Ordering.lt c d = absurd (omega arith)
    go Ordering.gt Ordering.eq c d = absurd (omega arith)
    go Ordering.gt Ordering.gt c d = refl

pub compare_scaled : (a b c : ℕ) → 0 < c → compare (a * c) (b * c) ≡ compare a b
compare_scaled a b c C = compare_is (compare a b) (a * c) (b * c) (go (compare a b) (cmp a b))
  where
    go : (o : Ordering) → Cmp o a b → Cmp o (a * c) (b * c)
    go Ordering.lt h = mul-lt-mul_of_pos_right h C
    go Ordering.eq h = ap (λ (x : ℕ). x * c) h
    go Ordering.gt h = mul-lt-mul_of_pos_right h C

-- ---- which way the root is rounded: by the remainder
integer_root_is : (n q rem : ℕ) → n < 2 ^ 106 → n ≡ q * q + rem → rem ≤ 2 * q → integer_root 53 n ≡ q
integer_root_is n q rem h e l =
    floor_unique n (integer_root 53 n) q (integer_root_floor 53 n h) (omega arith)

-- q, or q + 1, by the number half way, where k digits are dropped
abbrev pub toward : ℕ → ℕ → ℕ → ℕ
toward n k q = nearest q (compare (4 * n) (square ((2 * q + 1) * 2 ^ k)))

pub rounded_root_at : (k n : ℕ) → rounded_root k n ≡ toward n k (integer_root 53 (n / 2 ^ (2 * k)))
unfolding rounded_root
rounded_root_at k n = refl

-- with no digit dropped
pub rounded_root_is : (n : ℕ) → rounded_root 0 n ≡ nearest (integer_root 53 n) (compare (4 * n) (square (2 * integer_root 53 n + 1)))
rounded_root_is n =
    let q = integer_root 53 n in
    rounded_root_at 0 n
    ∙ ap (λ (z : ℕ). toward n 0 (integer_root 53 z)) (div-one n)
    ∙ ap (λ (z : ℕ). nearest q (compare (4 * n) (square z))) (mul-one (2 * q + 1))

rounded_by : (n q : ℕ) (o : Ordering) → integer_root 53 n ≡ q → Cmp o (4 * n) (square (2 * q + 1)) → rounded_root 0 n ≡ nearest q o
rounded_by n q o e c =
    rounded_root_is n
    ∙ ap (λ (q : ℕ). nearest q (compare (4 * n) (square (2 * q + 1)))) e
    ∙ ap (nearest q) (compare_is o (4 * n) (square (2 * q + 1)) c)

pub rounded_down : (n q rem : ℕ) → n < 2 ^ 106 → n ≡ q * q + rem → rem ≤ q → rounded_root 0 n ≡ q
rounded_down n q rem h e l = rounded_by n q Ordering.lt (integer_root_is n q rem h e (omega arith)) (omega arith)

pub rounded_up : (n q rem : ℕ) → n < 2 ^ 106 → n ≡ q * q + rem → q < rem → rem ≤ 2 * q → rounded_root 0 n ≡ q + 1
rounded_up n q rem h e g l = rounded_by n q Ordering.gt (integer_root_is n q rem h e l) (omega arith) ∙ omega arith

-- r is the rounded root of every n with r * (r - 1) < n ≤ r * (r + 1)
pub rounded_to : (n r : ℕ) → n < 2 ^ 106 → 0 < r → r * r < n + r → n ≤ r * r + r → rounded_root 0 n ≡ r
rounded_to n r b p h g = elim (dec_le (r * r) n) [
  | yes d ↦ let rem = n - r * r in rounded_down n r rem b (omega arith) (omega arith)
  | no d ↦
      let k : n < r * r = lt_of_not-le d in
      up n r b p h k
]
  where
    up : (n r : ℕ) → n < 2 ^ 106 → 0 < r → r * r < n + r → n < r * r → rounded_root 0 n ≡ r
    up n zero b p h k = absurd (omega arith)
    up n (suc q) b p h k = rounded_up n q (n - q * q) b (omega arith) (omega arith) (omega arith) ∙ omega arith

-- and r + 1 that of those above them, up to (r + 1) * (r + 2)
pub rounded_next : (n r : ℕ) → n < 2 ^ 106 → r * r + r < n → n ≤ r * r + (r * 3 + 2) → rounded_root 0 n ≡ r + 1
rounded_next n r b h g = rounded_to n (r + 1) b (omega arith) (omega arith) (omega arith)
