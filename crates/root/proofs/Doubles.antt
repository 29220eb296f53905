-- The doubles as whole numbers of units: each finite one is an odd number below 2 ^ 53 moved some places up, or zero. So
-- large doubles are multiples of a power of 2, and two positive doubles of the same size are one. Assumes nothing.
use Rattle.std.proofs.Common.{◌≡◌, ℕ, zero, suc, ◌+◌, ◌-◌, ◌*◌, ◌/◌, ◌%◌, ◌^◌, ◌<◌, ◌≤◌, Bool, true, false, ◌&&◌, T, eqb, ltb, leb, ℤ, pos, negsuc, sym, refl, ap, ◌∙◌, subst, le_trans, le_of_eq, le_of_lt, mul-le-mul_right, mul_assoc, lt_of_mul-lt-mul_right, mul-lt-mul_of_pos_right, lt_of_not-le, zero-mul, mul-one, not-le_of_lt, div-one, mul-div_cancel, mul_left_comm, arith, eqb→eq, ltb→lt, leb→le, pow_pos, pow_mono, pow-add}
use native.Mathlib.Nat.{eq_of_mul-eq-mul_right, pow-succ'}
use native.Mathlib.Decide.{dec_le}
use lib.Pow.{pow-lt}
use lib.Ieee.{Float, nan, inf, fin, binary64, up, down, fits}
use lib.Ieee.Fits.{and_l, and_r, down_pos}
use lib.Ieee.Positive.{positive}
use Rattle.root.specs.Root.{in_units}

-- ---- a number moved up twice
pub pow_sum : (a b c : ℕ) → a + b ≡ c → 2 ^ a * 2 ^ b ≡ 2 ^ c
pow_sum a b c e = sym (pow-add 2 a b) ∙ ap (λ (x : ℕ). 2 ^ x) e

pub shift_sum : (m a b c : ℕ) → a + b ≡ c → m * 2 ^ a * 2 ^ b ≡ m * 2 ^ c
shift_sum m a b c e = mul_assoc m (2 ^ a) (2 ^ b) ∙ ap (λ (x : ℕ). m * x) (pow_sum a b c e)

-- ---- what `fits` says of a finite double that is not zero
pub record Written (m : ℕ) (e : ℤ) : Type 0 where
  pub odd : m % 2 ≡ 1
  pub short : m < 2 ^ 53
  pub low : down e ≤ 2 ^ 1074
  pub high : m * up e < 2 ^ 1024 * down e

pub written : (s : Bool) (m : ℕ) (e : ℤ) → T (fits binary64 (fin s (suc m) e)) → Written (suc m) e
unfolding fits
written s m e h =
    let A = eqb (suc m % 2) 1 in
    let B = ltb (suc m) (2 ^ 53) in
    let C = leb (down e) (2 ^ 1074) in
    let D = ltb (suc m * up e) (2 ^ 1024 * down e) in
    let abc = and_l (A && B && C) D h in
    let ab = and_l (A && B) C abc in
    record {
      odd = eqb→eq (suc m % 2) 1 (and_l A B ab);
      short = ltb→lt (suc m) (2 ^ 53) (and_r A B ab);
      low = leb→le (down e) (2 ^ 1074) (and_r (A && B) C abc);
      high = ltb→lt (suc m * up e) (2 ^ 1024 * down e) (and_r (A && B && C) D h);
    }

-- ---- how many places up: 2 ^ e is 2 ^ place e units
abbrev pub place : ℤ → ℕ
place (pos a) = a + 1074
place (negsuc a) = 1074 - suc a

place_low : (a : ℕ) → down (negsuc a) ≤ 2 ^ 1074 → suc a ≤ 1074
place_low a h = elim (dec_le (suc a) 1074) [
  | yes y ↦ y
  | no n ↦ absurd (not-le_of_lt (pow-lt (lt_of_not-le n)) h)
]

place_unique : (e g : ℤ) → down e ≤ 2 ^ 1074 → down g ≤ 2 ^ 1074 → place e ≡ place g → e ≡ g
place_unique (pos a) (pos b) h k p = ap pos (omega arith)
place_unique (pos a) (negsuc b) h k p = let l = place_low b k in absurd (omega arith)
place_unique (negsuc a) (pos b) h k p = let l = place_low a h in absurd (omega arith)
place_unique (negsuc a) (negsuc b) h k p = let l = place_low a h in let m = place_low b k in ap negsuc (omega arith)

pub in_units_is : (s : Bool) (m : ℕ) (e : ℤ) → down e ≤ 2 ^ 1074 → in_units (fin s m e) ≡ m * 2 ^ place e
in_units_is s m (pos a) h = div-one (m * 2 ^ a * 2 ^ 1074) ∙ shift_sum m a 1074 (a + 1074) refl
in_units_is s m (negsuc a) h =
    let l = place_low a h in
    let i = 1074 - suc a in
    let e : i + suc a ≡ 1074 = omega arith in
    ap (λ (x : ℕ). x * 2 ^ 1074 / 2 ^ suc a) (mul-one m)
    ∙ ap (λ (x : ℕ). x / 2 ^ suc a) (sym (shift_sum m i (suc a) 1074 e))
    ∙ mul-div_cancel (m * 2 ^ i) (pow_pos (suc a))

pub zero_units : (s : Bool) (e : ℤ) → in_units (fin s zero e) ≡ 0
zero_units s e =
    ap (λ (x : ℕ). x * 2 ^ 1074 / down e) (zero-mul (up e))
    ∙ ap (λ (x : ℕ). x / down e) (zero-mul (2 ^ 1074) ∙ sym (zero-mul (down e)))
    ∙ mul-div_cancel 0 (down_pos e)

-- ---- a number below 2 ^ 53, some places up
abbrev pub Short : ℕ → Type 0
Short v = (m : ℕ) × (i : ℕ) × (v ≡ m * 2 ^ i) × (m < 2 ^ 53)

pub zero_short : Short 0
zero_short = (0, 0, refl, pow_pos 53)

pub short : (y : Float) → T (fits binary64 y) → Short (in_units y)
short nan h = zero_short
short (inf s) h = zero_short
short (fin s zero e) h = subst Short (sym (zero_units s e)) zero_short
short (fin s (suc m) e) h = let w = written s m e h in (suc m, place e, in_units_is s (suc m) e w.low, w.short)

pub short_up : (a i : ℕ) → Short a → Short (a * 2 ^ i)
short_up a i s = (s.0, s.1 + i, ap (λ (x : ℕ). x * 2 ^ i) s.2 ∙ shift_sum s.0 s.1 i (s.1 + i) refl, s.3)

-- a number that is moved up far enough is a multiple of a power of 2
pub whole_part : (v k : ℕ) (s : Short v) → k ≤ s.1 → (c : ℕ) × (v ≡ c * 2 ^ k)
whole_part v k s g =
    let e : s.1 - k + k ≡ s.1 = omega arith in
    (s.0 * 2 ^ (s.1 - k), s.2 ∙ sym (shift_sum s.0 (s.1 - k) k s.1 e))

-- from 2 ^ 52 times 2 ^ k on every double is a multiple of 2 ^ k
multiple : (v k : ℕ) → Short v → 2 ^ 52 * 2 ^ k ≤ v → (c : ℕ) × (v ≡ c * 2 ^ k)
multiple v k s h = elim (dec_le k s.1) [
  | yes g ↦ whole_part v k s g
  | no g ↦
      let a : 2 ^ suc s.1 ≤ 2 ^ k = pow_mono (lt_of_not-le g) in
      let b : s.0 * 2 ^ s.1 < 2 ^ 53 * 2 ^ s.1 = mul-lt-mul_of_pos_right s.3 (pow_pos s.1) in
      absurd (no_room v (2 ^ s.1) (2 ^ k) (s.0 * 2 ^ s.1) s.2 h (le_trans (le_of_eq (twice s.1)) a) b)
]
  where
    twice : (i : ℕ) → 2 * 2 ^ i ≡ 2 ^ suc i
    twice i = omega arith

    no_room : (v p q w : ℕ) → v ≡ w → 2 ^ 52 * q ≤ v → 2 * p ≤ q → w < 2 ^ 53 * p → ⊥
    no_room v p q w e h a b = omega arith

-- so above q * 2 ^ k there is none below (q + 1) * 2 ^ k, for a q of 2 ^ 52 or more
pub next : (v k q : ℕ) → Short v → 2 ^ 52 ≤ q → q * 2 ^ k < v → (q + 1) * 2 ^ k ≤ v
next v k q s h g =
    let m = multiple v k s (le_trans (mul-le-mul_right (2 ^ k) h) (le_of_lt g)) in
    let l : q < m.0 = lt_of_mul-lt-mul_right (2 ^ k) (subst (λ (x : ℕ). q * 2 ^ k < x) m.1 g) in
    let l' : q + 1 ≤ m.0 = omega arith in
    subst (λ (x : ℕ). (q + 1) * 2 ^ k ≤ x) (sym m.1) (mul-le-mul_right (2 ^ k) l')

-- ---- two positive doubles of the same size are one
odd_below_lem : (m n a b : ℕ) → m % 2 ≡ 1 → m * 2 ^ a ≡ n * 2 ^ b → b ≤ a
odd_below_lem m n a b o h = elim (dec_le b a) [
  | yes y ↦ y
  | no x ↦
      let d = b - suc a in
      let f : suc d + a ≡ b = omega (arith, lt_of_not-le x) in
      let g : m * 2 ^ a ≡ n * 2 ^ suc d * 2 ^ a = h ∙ sym (shift_sum n (suc d) a b f) in
      let e : m ≡ n * 2 ^ suc d = eq_of_mul-eq-mul_right (2 ^ a) (pow_pos a) m (n * 2 ^ suc d) g in
      absurd (even m (n * 2 ^ d) o (e ∙ ap (λ (x : ℕ). n * x) (pow-succ' 2 d) ∙ mul_left_comm n 2 (2 ^ d)))
]
  where
    even : (m t : ℕ) → m % 2 ≡ 1 → m ≡ 2 * t → ⊥
    even m t o h = omega arith

odd_unique : (m n a b : ℕ) → m % 2 ≡ 1 → n % 2 ≡ 1 → m * 2 ^ a ≡ n * 2 ^ b → (m ≡ n) × (a ≡ b)
odd_unique m n a b o p h =
    let l = odd_below_lem m n a b o h in
    let k = odd_below_lem n m b a p (sym h) in
    let e : a ≡ b = omega arith in
    (eq_of_mul-eq-mul_right (2 ^ a) (pow_pos a) m n (h ∙ ap (λ (x : ℕ). n * 2 ^ x) (sym e)), e)

pub same_size : (r y : Float) → T (fits binary64 r) → T (fits binary64 y) → T (positive r) → T (positive y)
    → in_units r ≡ in_units y → r ≡ y
same_size (fin false (suc m) e) (fin false (suc n) g) h k p q u =
    let v = written false m e h in
    let w = written false n g k in
    let o =
    odd_unique (suc m) (suc n) (place e) (place g) v.odd w.odd
    (sym (in_units_is false (suc m) e v.low) ∙ u ∙ in_units_is false (suc n) g w.low) in
    let s : e ≡ g = place_unique e g v.low w.low o.1 in
    λ i. fin false (o.0 i) (s i)
same_size (fin false zero e) y h k p q u = absurd p
same_size (fin true m e) y h k p q u = absurd p
same_size (inf s) y h k p q u = absurd p
same_size nan y h k p q u = absurd p
same_size (fin false (suc m) e) (fin false zero g) h k p q u = absurd q
same_size (fin false (suc m) e) (fin true n g) h k p q u = absurd q
same_size (fin false (suc m) e) (inf s) h k p q u = absurd q
same_size (fin false (suc m) e) nan h k p q u = absurd q
