-- The root of a double by its bits: they are a number of units, the root of that number is an integer root moved some
-- places up, and it has 53 digits, so its bits are the digits beside the exponent. Assumes nothing.
use Rattle.std.proofs.Common.{◌≡◌, ℕ, zero, suc, ◌+◌, ◌-◌, ◌*◌, ◌/◌, ◌%◌, ◌^◌, ◌<◌, ◌≤◌, Bool, true, false, cond, T, eqb, ltb, leb, ℤ, sym, refl, ap, ◌∙◌, subst, ap₂, lt_of_lt_of_le, lt_irrefl, mul-le-mul_right, mod-eq_of_lt, mul-le-mul, mul-pos, lt_of_not-le, zero-mul, mul-one, not-le_of_lt, mul-div_cancel, arith, eqb→eq, lt→ltb, pow_pos, pow_mono, pow-add, shl_lt}
use Prim.Native.Nat.{compare}
use native.Mathlib.Decide.{dec_le}
use lib.Dec.{not_T, eqb-suc-zero}
use lib.Pow.{shl-shr}
use Rattle.std.proofs.lemmas.Bool.{lt-leb, le-leb}
use lib.Count.{count_trailing_zeros, under, count_leading_zeros, leading_top}
use lib.Ieee.{Float, nan, inf, fin, binary64, up, down, size, nearest, odd, units, of_fields, of_bits}
use lib.Ieee.Digits.{size-le, size-lt}
use lib.Ieee.Fits.{down_pos}
use lib.Ieee.Bits.{is_true, cond_no}
use lib.Ieee.Exact.{HasValue, odd_sign}
use Rattle.root.specs.Root.{square, integer_root, rounded_root, root_of_units, root}
use Rattle.root.proofs.IntegerRoot.{Floor, integer_root_floor, at_most, compare_scaled, toward, rounded_root_at, rounded_root_is, rounded_down, rounded_up}
use Rattle.root.proofs.Doubles.{pow_sum, shift_sum}

-- ---- the root of n * 4 ^ k units, for an n of 105 or 106 digits, is that of n, k places up
pub pow_twice : (k : ℕ) → 2 ^ (2 * k) ≡ 2 ^ k * 2 ^ k
pow_twice k = let e : 2 * k ≡ k + k = omega arith in ap (λ (x : ℕ). 2 ^ x) e ∙ pow-add 2 k k

pub size-gt : (n j : ℕ) → 2 ^ j ≤ n → j < size n
size-gt n j h =
    lt_of_not-le (λ (g : size n ≤ j). not-le_of_lt (lt_of_lt_of_le (size-lt n) (pow_mono g)) h)

-- how many digits of the root are dropped
dropped : (n k : ℕ) → 2 ^ 104 ≤ n → n < 2 ^ 106 → (size (n * 2 ^ (2 * k)) + 1) / 2 - 53 ≡ k
dropped n k h g =
    let v = n * 2 ^ (2 * k) in
    let l : 2 ^ (104 + 2 * k) ≤ v =
    subst (λ (x : ℕ). x ≤ v) (sym (pow-add 2 104 (2 * k))) (mul-le-mul_right (2 ^ (2 * k)) h) in
    by_size (size v) (size-le v (106 + 2 * k) (shl_lt 106 (2 * k) g)) (size-gt v (104 + 2 * k) l)
  where
    by_size : (z : ℕ) → z ≤ 106 + 2 * k → 104 + 2 * k < z → (z + 1) / 2 - 53 ≡ k
    by_size z h g = omega arith

pub root_of_units_is : (n k : ℕ) → (size n + 1) / 2 - 53 ≡ k → root_of_units n ≡ units binary64 false (rounded_root k n) k
unfolding root_of_units
root_of_units_is n k e = ap (λ (k : ℕ). units binary64 false (rounded_root k n) k) e

half_way : (n k q : ℕ) → compare (4 * (n * 2 ^ (2 * k))) (square ((2 * q + 1) * 2 ^ k)) ≡ compare (4 * n) (square (2 * q + 1))
half_way n k q =
    let p = pow_twice k in
    let P = 2 ^ k in
    let x : 4 * (n * 2 ^ (2 * k)) ≡ 4 * n * (P * P) = ap (λ (z : ℕ). 4 * (n * z)) p ∙ omega arith in
    let y : square ((2 * q + 1) * P) ≡ square (2 * q + 1) * (P * P) = omega arith in
    ap₂ compare x y ∙ compare_scaled (4 * n) (square (2 * q + 1)) (P * P) (mul-pos (pow_pos k) (pow_pos k))

rounded_root_scaled : (n k : ℕ) → rounded_root k (n * 2 ^ (2 * k)) ≡ rounded_root 0 n
rounded_root_scaled n k =
    let v = n * 2 ^ (2 * k) in
    let q = integer_root 53 n in
    rounded_root_at k v
    ∙ ap (λ (z : ℕ). toward v k (integer_root 53 z)) (shl-shr n (2 * k))
    ∙ ap (nearest q) (half_way n k q)
    ∙ sym (rounded_root_is n)

root_of_units_scaled : (n k : ℕ) → 2 ^ 104 ≤ n → n < 2 ^ 106
    → root_of_units (n * 2 ^ (2 * k)) ≡ units binary64 false (rounded_root 0 n) k
root_of_units_scaled n k h g =
    root_of_units_is (n * 2 ^ (2 * k)) k (dropped n k h g)
    ∙ ap (λ (q : ℕ). units binary64 false q k) (rounded_root_scaled n k)

-- ---- the fields of a pattern with the sign clear
pub of_bits_is : (b : ℕ) → of_bits binary64 b ≡ of_fields binary64 (leb (2 ^ 63) b) (b % 2 ^ 63 / 2 ^ 52) (b % 2 ^ 52)
unfolding of_bits
of_bits_is b = refl

pub fields : (b x t : ℕ) → x < 2 ^ 11 → t < 2 ^ 52 → b ≡ x * 2 ^ 52 + t → of_bits binary64 b ≡ of_fields binary64 false x t
fields b x t X H e =
    let s : b < 2 ^ 63 = omega arith in
    let p : b % 2 ^ 63 / 2 ^ 52 ≡ x = omega arith in
    let q : b % 2 ^ 52 ≡ t = omega arith in
    of_bits_is b ∙ ap (λ (s : Bool). of_fields binary64 s (b % 2 ^ 63 / 2 ^ 52) (b % 2 ^ 52)) (lt-leb (2 ^ 63) b s)
    ∙ ap₂ (λ (x t : ℕ). of_fields binary64 false x t) p q

pub field_low : (t : ℕ) → of_fields binary64 false 0 t ≡ odd 53 false t 0 1074
unfolding of_fields
field_low t = refl

pub field_mid : (x t : ℕ) → suc x < 2047 → of_fields binary64 false (suc x) t ≡ odd 53 false (2 ^ 52 + t) x 1074
unfolding of_fields
field_mid x t h =
    cond_no (eqb (suc x) 2047) (cond (eqb t 0) (inf false) nan) (odd 53 false (2 ^ 52 + t) x 1074)
    (not_T (eqb (suc x) 2047) (λ (u : T (eqb (suc x) 2047)). let z = eqb→eq (suc x) 2047 u in omega arith))

-- ---- a number of 53 digits, k places up, and its pattern
tz_more : (d n : ℕ) → 0 < n → n < 2 ^ d → count_trailing_zeros (suc d) n ≡ count_trailing_zeros d n
unfolding count_trailing_zeros
tz_more zero n p h = absurd (omega arith)
tz_more (suc d) n p h = go (n % 2) refl (λ (e : n % 2 ≡ 0). tz_more d (n / 2) (omega arith) (omega arith))
  where
    a : ℕ
    a = count_trailing_zeros (suc d) (n / 2)

    b : ℕ
    b = count_trailing_zeros d (n / 2)

    go : (r : ℕ) → n % 2 ≡ r → (n % 2 ≡ 0 → a ≡ b) → under r a ≡ under r b
    go zero e ih = ap suc (ih e)
    go (suc r) e ih = refl

odd_more : (d : ℕ) (s : Bool) (q k l : ℕ) → 0 < q → q < 2 ^ d → odd (suc d) s q k l ≡ odd d s q k l
unfolding odd
odd_more d s zero k l p h = absurd (lt_irrefl 0 p)
odd_more d s (suc q) k l p h = ap (odd-by s (suc q) k l) (tz_more d (suc q) p h)
  where
    odd-by : Bool → ℕ → ℕ → ℕ → ℕ → Float
    odd-by s q k l t = fin s (q / 2 ^ t) (lib.Ieee.minus (k + t) l)

units-is : (q k : ℕ) → q < 2 ^ 53 → k ≤ 1533 → units binary64 false q k ≡ odd 54 false q k 1074
unfolding units
units-is q k h g =
    let i : q * 2 ^ k < 2 ^ (53 + k) = shl_lt 53 k h in
    let j : 53 + k ≤ 2098 = omega arith in
    let t : T (ltb (q * 2 ^ k) (2 ^ 2098)) = lt→ltb (q * 2 ^ k) (2 ^ 2098) (lt_of_lt_of_le i (pow_mono j)) in
    ap (λ (b : Bool). cond b (odd 54 false q k 1074) (inf false)) (is_true (ltb (q * 2 ^ k) (2 ^ 2098)) t)

pub as_bits : (q k : ℕ) → 2 ^ 52 ≤ q → q < 2 ^ 53 → k ≤ 1533 → of_bits binary64 (k * 2 ^ 52 + q) ≡ units binary64 false q k
as_bits q k h g K =
    let t = q - 2 ^ 52 in
    let e : 2 ^ 52 + t ≡ q = omega arith in
    fields (k * 2 ^ 52 + q) (suc k) t (omega arith) (omega arith) (omega arith)
    ∙ field_mid k t (omega arith)
    ∙ ap (λ (x : ℕ). odd 53 false x k 1074) e
    ∙ sym (odd_more 53 false q k 1074 (omega arith) g)
    ∙ sym (units-is q k g K)

-- ---- the root of a double that is a units
not-zero : (e : ℤ) (a c : ℕ) → 0 < a → zero * up e * c ≡ a * down e → ⊥
not-zero e a c p h =
    let z : a * down e ≡ 0 = sym h ∙ ap (λ (x : ℕ). x * c) (zero-mul (up e)) ∙ zero-mul c in
    lt_irrefl 0 (subst (λ (x : ℕ). 0 < x) z (mul-pos p (down_pos e)))

root_fin : (m : ℕ) (e : ℤ) (a : ℕ) → 0 < a → m * up e * 2 ^ 1074 ≡ a * down e → root (fin false m e) ≡ root_of_units (a * 2 ^ 1074)
unfolding root
root_fin zero e a p h = absurd (not-zero e a (2 ^ 1074) p h)
root_fin (suc m) e a p h =
    ap (λ (x : ℕ). root_of_units (x * 2 ^ 1074)) (ap (λ (x : ℕ). x / down e) h ∙ mul-div_cancel a (down_pos e))

root_val : (x : Float) (a : ℕ) → 0 < a → HasValue x false a (2 ^ 1074) → root x ≡ root_of_units (a * 2 ^ 1074)
root_val nan a p h = absurd h
root_val (inf s) a p h = absurd h
root_val (fin s m e) a p h = ap (λ (s : Bool). root (fin s m e)) h.0 ∙ root_fin m e a p h.1

pub root_odd : (q k : ℕ) → 0 < q → root (odd 53 false q k 1074) ≡ root_of_units (q * 2 ^ k * 2 ^ 1074)
root_odd q k p =
    root_val (odd 53 false q k 1074) (q * 2 ^ k) (mul-pos p (pow_pos k)) (odd_sign 53 false q k 1074)

-- ---- the nearest whole number to the root of n, for an n of 105 or 106 digits whose last 53 are 0: it has 53 digits
abbrev In : ℕ → Type 0
In q = (2 ^ 52 ≤ q) × (q < 2 ^ 53)

floor_in : (n q : ℕ) → 2 ^ 104 ≤ n → n < 2 ^ 106 → Floor n q → In q
floor_in n q h g f =
    let x : 2 ^ 52 ≤ q = at_most n (2 ^ 52) q h f.1 in
    let y : q ≤ 2 ^ 53 - 1 = at_most n q (2 ^ 53 - 1) f.0 g in
    omega arith

no_carry_lem : (n q : ℕ) → n ≤ 2 ^ 106 - 2 ^ 53 → q < 2 ^ 53 → q < n - q * q → q + 1 < 2 ^ 53
no_carry_lem n q g h l = lt_of_not-le λ (k : 2 ^ 53 ≤ q + 1).
    let z : 2 ^ 53 - 1 ≤ q = omega arith in
    let w = mul-le-mul z z in
    absurd (omega arith)

pub rounded_in_lem : (n : ℕ) → 2 ^ 104 ≤ n → n ≤ 2 ^ 106 - 2 ^ 53 → In (rounded_root 0 n)
rounded_in_lem n h g =
    let b : n < 2 ^ 106 = omega arith in
    let q = integer_root 53 n in
    let f = integer_root_floor 53 n b in
    let i = floor_in n q h b f in
    let rem = n - q * q in
    let e : n ≡ q * q + rem = omega arith in
    elim (dec_le rem q) [
      | yes d ↦ subst In (sym (rounded_down n q rem b e d)) i
      | no d ↦
          let u : q < rem = lt_of_not-le d in
          let w : rem ≤ 2 * q = omega arith in
          let c : q + 1 < 2 ^ 53 = no_carry_lem n q g i.1 u in
          let z : In (q + 1) = omega arith in
          subst In (sym (rounded_up n q rem b e u w)) z
    ]

-- ---- m * 2 ^ j units, m of 53 digits
shifted : (m p : ℕ) → p < 2 → m < 2 ^ 53 → (m * 2 ^ p) % 2 ^ 64 * 2 ^ 52 ≡ m * 2 ^ (52 + p)
shifted m zero h g = omega arith
shifted m (suc zero) h g = omega arith
shifted m (suc (suc p)) h g = absurd (omega arith)

unshortened : (m p : ℕ) → p < 2 → m < 2 ^ 53 → (m * 2 ^ p) % 2 ^ 64 ≡ m * 2 ^ p
unshortened m zero h g = omega arith
unshortened m (suc zero) h g = omega arith
unshortened m (suc (suc p)) h g = absurd (omega arith)

in_range_lem : (m p : ℕ) → p < 2 → 2 ^ 52 ≤ m → m < 2 ^ 53 → (2 ^ 104 ≤ m * 2 ^ (52 + p)) × (m * 2 ^ (52 + p) ≤ 2 ^ 106 - 2 ^ 53)
in_range_lem m zero h k g = omega arith
in_range_lem m (suc zero) h k g = omega arith
in_range_lem m (suc (suc p)) h k g = absurd (omega arith)

abbrev pub Normal : ℕ → ℕ → Type 0
Normal m j = (2 ^ 52 ≤ m) × (m < 2 ^ 53) × (1022 ≤ j) × (j ≤ 3119)

module _ (m j : ℕ) (normal : Normal m j) where
  abbrev pub word : ℕ
  word = (m * 2 ^ (j % 2)) % 2 ^ 64

  bit : j % 2 < 2
  bit = omega arith

  word-is : word * 2 ^ 52 ≡ m * 2 ^ (52 + j % 2)
  word-is = shifted m (j % 2) bit normal.1

  range : (2 ^ 104 ≤ m * 2 ^ (52 + j % 2)) × (m * 2 ^ (52 + j % 2) ≤ 2 ^ 106 - 2 ^ 53)
  range = in_range_lem m (j % 2) bit normal.0 normal.1

  pub word-whole : word ≡ m * 2 ^ (j % 2)
  word-whole = unshortened m (j % 2) bit normal.1

  pub word_in : (2 ^ 52 ≤ word) × (word < 2 ^ 54)
  word_in = omega (arith, word-is, range)

  pub root-bits : (q : ℕ) → q ≡ rounded_root 0 (word * 2 ^ 52)
      → ((j / 2 - 26) * 2 ^ 52 + q < 0x7ff0000000000000) × (of_bits binary64 ((j / 2 - 26) * 2 ^ 52 + q) ≡ root_of_units (m * 2 ^ j))
  root-bits q is =
      let k = j / 2 - 26 in
      let n = m * 2 ^ (52 + j % 2) in
      let f : q ≡ rounded_root 0 n = is ∙ ap (λ (n : ℕ). rounded_root 0 n) word-is in
      let i : In q = subst In (sym f) (rounded_in_lem n range.0 range.1) in
      let e : 52 + j % 2 + 2 * k ≡ j = omega arith in
      let K : k ≤ 1533 = omega arith in
      let N : n < 2 ^ 106 = omega (arith, range) in (
        omega arith,
        as_bits q k i.0 i.1 K
            ∙ ap (λ (q : ℕ). units binary64 false q k) f
            ∙ sym (root_of_units_scaled n k range.0 N)
            ∙ ap root_of_units (shift_sum m (52 + j % 2) (2 * k) j e),
      )

-- ---- a subnormal double: b units, normalised by its leading zeros
module _ (b : ℕ) (some : 0 < b) (few : b < 2 ^ 52) where
  abbrev pub shift : ℕ
  shift = count_leading_zeros 64 b - 11

  -- the place of the highest digit
  lead : (i : ℕ) × (count_leading_zeros 64 b + suc i ≡ 64) × (2 ^ i ≤ b) × (b < 2 ^ suc i)
  lead = let h : b < 2 ^ 64 = omega arith in leading_top 64 b some h

  lead-lt : lead.0 < 52
  lead-lt = lt_of_not-le λ (g : 52 ≤ lead.0).
      let z : 2 ^ 52 ≤ 2 ^ lead.0 = pow_mono g in
      let w = lead.2 in
      absurd (omega arith)

  pub zeros-in : (12 ≤ count_leading_zeros 64 b) × (count_leading_zeros 64 b ≤ 63)
  zeros-in = let w = lead.1 in let l = lead-lt in omega arith

  makes : lead.0 + shift ≡ 52
  makes = let w = lead.1 in let l = lead-lt in omega arith

  pub moved-lo : 2 ^ 52 ≤ b * 2 ^ shift
  moved-lo = subst (λ (x : ℕ). x ≤ b * 2 ^ shift) (pow_sum lead.0 shift 52 makes) (mul-le-mul_right (2 ^ shift) lead.2)

  pub moved-hi : b * 2 ^ shift < 2 ^ 53
  moved-hi =
      let e : suc lead.0 + shift ≡ 53 = omega (arith, makes) in
      subst (λ (x : ℕ). b * 2 ^ shift < 2 ^ x) e (shl_lt (suc lead.0) shift lead.3)

  pub moved : (b * 2 ^ shift) % 2 ^ 64 ≡ b * 2 ^ shift
  moved = let h = moved-hi in let g : b * 2 ^ shift < 2 ^ 64 = omega arith in mod-eq_of_lt g

  pub low-root : root (of_bits binary64 b) ≡ root_of_units (b * 2 ^ shift * 2 ^ (1074 - shift))
  low-root =
      let e : shift + (1074 - shift) ≡ 1074 = omega (arith, makes) in
      let f : b ≡ 0 * 2 ^ 52 + b = omega arith in
      let z : 0 < 2 ^ 11 = omega arith in
      ap root (fields b 0 b z few f ∙ field_low b)
      ∙ root_odd b 0 some
      ∙ ap (λ (x : ℕ). root_of_units (x * 2 ^ 1074)) (mul-one b)
      ∙ ap root_of_units (sym (shift_sum b shift (1074 - shift) 1074 e))

-- ---- a normal double
pub high_root : (b : ℕ) → 2 ^ 52 ≤ b → b < 0x7ff0000000000000
    → root (of_bits binary64 b) ≡ root_of_units ((b % 2 ^ 52 + 2 ^ 52) * 2 ^ (1073 + b / 2 ^ 52))
high_root b h g =
    let x = b / 2 ^ 52 - 1 in
    let t = b % 2 ^ 52 in
    let e : x + 1074 ≡ 1073 + b / 2 ^ 52 = omega arith in
    let p : 0 < 2 ^ 52 + t = omega arith in
    let y : suc x < 2047 = omega arith in
    ap root (fields b (suc x) t (omega arith) (omega arith) (omega arith) ∙ field_mid x t y)
    ∙ root_odd (2 ^ 52 + t) x p
    ∙ ap root_of_units (shift_sum (2 ^ 52 + t) x 1074 (1073 + b / 2 ^ 52) e)
    ∙ ap (λ (z : ℕ). root_of_units (z * 2 ^ (1073 + b / 2 ^ 52))) (omega arith)

-- the exponent of its root is half of its own, which half of its bits holds
pub normal_root : (b w q : ℕ) → 2 ^ 52 ≤ b → b < 0x7ff0000000000000
    → w ≡ (b % 2 ^ 52 + 2 ^ 52) * 2 ^ ((1073 + b / 2 ^ 52) % 2) → q ≡ rounded_root 0 (w * 2 ^ 52)
    → of_bits binary64 ((b / 2 + 0x1fe8000000000000) / 2 ^ 52 * 2 ^ 52 + q) ≡ root (of_bits binary64 b)
normal_root b w q h g f is =
    let m = b % 2 ^ 52 + 2 ^ 52 in
    let j = 1073 + b / 2 ^ 52 in
    let n : Normal m j = omega arith in
    let k : (b / 2 + 0x1fe8000000000000) / 2 ^ 52 ≡ j / 2 - 26 = omega arith in
    let r = root-bits m j n q (is ∙ ap (λ (x : ℕ). rounded_root 0 (x * 2 ^ 52)) (f ∙ sym (word-whole m j n))) in
    ap (λ (x : ℕ). of_bits binary64 (x * 2 ^ 52 + q)) k ∙ r.1 ∙ sym (high_root b h g)

-- ---- below zero, minus infinity and NaN
neg_fin : (m : ℕ) (e : ℤ) (a c : ℕ) → 0 < a → m * up e * c ≡ a * down e → root (fin true m e) ≡ nan
unfolding root
neg_fin zero e a c p h = absurd (not-zero e a c p h)
neg_fin (suc m) e a c p h = refl

neg-val : (x : Float) (a c : ℕ) → 0 < a → HasValue x true a c → root x ≡ nan
neg-val nan a c p h = absurd h
neg-val (inf s) a c p h = absurd h
neg-val (fin s m e) a c p h = ap (λ (s : Bool). root (fin s m e)) h.0 ∙ neg_fin m e a c p h.1

neg-odd : (q k : ℕ) → 0 < q → root (odd 53 true q k 1074) ≡ nan
neg-odd q k p =
    neg-val (odd 53 true q k 1074) (q * 2 ^ k) (2 ^ 1074) (mul-pos p (pow_pos k)) (odd_sign 53 true q k 1074)

neg_fields : (x t : ℕ) → 0 < x + t → root (of_fields binary64 true x t) ≡ nan
unfolding of_fields
neg_fields zero t p = neg-odd t 0 (omega arith)
neg_fields (suc x) t p = go (eqb (suc x) 2047) (eqb t 0)
  where
    go : (a b : Bool) → root (cond a (cond b (inf true) nan) (odd 53 true (2 ^ 52 + t) x 1074)) ≡ nan
    go true true = unfold root in refl
    go true false = unfold root in refl
    go false b = neg-odd (2 ^ 52 + t) x (omega arith)

nan_fields : (t : ℕ) → 0 < t → root (of_fields binary64 false 2047 t) ≡ nan
unfolding of_fields root
nan_fields zero p = absurd (lt_irrefl 0 p)
nan_fields (suc t) p = ap (λ (b : Bool). root (cond b (inf false) nan)) (eqb-suc-zero t)

-- every pattern above that of plus infinity but that of -0
pub no_root_lem : (b : ℕ) → b < 2 ^ 64 → 0x7ff0000000000000 < b → (b ≡ 2 ^ 63 → ⊥) → root (of_bits binary64 b) ≡ nan
no_root_lem b w h n = elim (dec_le (2 ^ 63) b) [
  | yes d ↦
      let x = b % 2 ^ 63 / 2 ^ 52 in
      let t = b % 2 ^ 52 in
      let s : 0 < x + t = omega arith in
      ap root (of_bits_is b ∙ ap (λ (s : Bool). of_fields binary64 s x t) (le-leb (2 ^ 63) b d)) ∙ neg_fields x t s
  | no d ↦
      let t = b % 2 ^ 52 in
      let l : b < 2 ^ 63 = lt_of_not-le d in
      let s : 0 < t = omega arith in
      let e : b ≡ 2047 * 2 ^ 52 + t = omega arith in
      ap root (fields b 2047 t (omega arith) (omega arith) e) ∙ nan_fields t s
]

-- ---- the doubles that are their own root
pub zero_own : root (of_bits binary64 0) ≡ of_bits binary64 0
unfolding root of_bits
zero_own = refl

pub minus_zero_own : root (of_bits binary64 0x8000000000000000) ≡ of_bits binary64 0x8000000000000000
unfolding root of_bits
minus_zero_own = refl

pub infinity_own : root (of_bits binary64 0x7ff0000000000000) ≡ of_bits binary64 0x7ff0000000000000
unfolding root of_bits
infinity_own = refl

pub own : (x : Float) (b k : ℕ) → of_bits binary64 b ≡ x → b ≡ k → root (of_bits binary64 k) ≡ of_bits binary64 k → x ≡ root x
own x b k e f r = let g : of_bits binary64 k ≡ x = ap (of_bits binary64) (sym f) ∙ e in sym (ap root (sym g) ∙ r ∙ g)
