-- The order of finite floats, once over the comparison, and the sum with +0.0, in which numbers that are equal have the same
-- bits. Assumes nothing.
use mathlib.Core.Path.{◌≡◌, refl, sym, ap, ◌∙◌, subst}
use Prim.Native.Nat.{ℕ, zero, suc, ◌+◌, ◌-◌, ◌*◌, ◌/◌, ◌%◌, ◌^◌, ◌≤◌, ◌<◌, suc-le-suc}
use native.Mathlib.Nat.{zero-lt-suc, le_antisymm, lt_of_not-le, not-le_of_lt, zero-mul, one-mul, mul-one, mul_comm, mul_assoc}
use native.Mathlib.Nat.{mul_right_comm, mul-pos, mul-lt-mul_of_pos_right, le_of_mul-le-mul_right, lt_of_mul-lt-mul_right}
use native.Mathlib.Omega.{arith}
use mathlib.Core.Bool.{Bool, true, false, not, ◌&&◌, ◌||◌, beq, cond, false≢true}
use mathlib.Core.Logic.{inl, inr}
use lib.IntN.{ℤ, pos, negsuc}
use lib.Dec.{T, ltb, leb, eqb, ltb→lt, lt→ltb, leb→le, eqb→eq}
use lib.Pow.{pow-add, pow_pos, pow-lt}
use lib.Ieee.{Float, nan, inf, fin, Format, binary64, prec, emax, low, up, down, size, round, sum, add, lt, eq, fits}
use lib.Ieee.{hid, top, of_bits, to_bits, le, level, is_nan}
use lib.Ieee.Bits.{cond_no, is_true, of_bits-to_bits}
use lib.Ieee.Digits.{back}
use lib.Ieee.Exact.{HasValue, round_exact}
use lib.Ieee.Fits.{down_pos, up_pos, round-fits, and_l, and_r}
use lib.Ieee.Nearest.{div_same}
use lib.Ieee.Scale.{round_same, finite}
use Rattle.std.proofs.lemmas.Bool.{both_ways, false_from_ne_true, le-ltb, ne_eqb}
use Rattle.std.proofs.lemmas.Float.{lt_irrefl, lt_trans, lt_of_lt_of_le, le_of_not-lt, lt-or-eq, T_from_true, T_from_false}
use Rattle.float.specs.Operators.{◌⊕◌, zero64}
use Rattle.float.proofs.Booleans.{bool_same}
use Rattle.float.proofs.Finiteness.{plus_zero, zero_fin, round-zero}

-- a strict order `beyond` of the finite floats, and a float that all of them are beyond
pub record Orders (beyond : Float → Float → Bool) (limit : Float) : Type 0 where
  pub limit_out : finite limit ≡ false
  pub within : (x : Float) → finite x ≡ true → beyond x limit ≡ true
  pub last : (x : Float) → finite x ≡ true → beyond limit x ≡ false
  pub limit_self : beyond limit limit ≡ false
  pub itself : (x : Float) → finite x ≡ true → beyond x x ≡ false
  pub one_way : (x y : Float) → finite x ≡ true → finite y ≡ true → beyond x y ≡ true → beyond y x ≡ false
  pub along : (x y z : Float) → finite x ≡ true → finite y ≡ true → finite z ≡ true → beyond y x ≡ false → beyond z y ≡ false
      → beyond z x ≡ false
  pub same : (x y : Float) → finite x ≡ true → finite y ≡ true → beyond x y ≡ false → beyond y x ≡ false → x ⊕ zero64 ≡ y ⊕ zero64

-- ---- the laws of `lt`
number : (x : Float) → finite x ≡ true → T (not (is_nan x))
unfolding is_nan
number nan f = absurd (false≢true f)
number (inf s) f = tt
number (fin s m e) f = tt

lt_itself : (x : Float) → finite x ≡ true → lt x x ≡ false
lt_itself x f = false_from_ne_true (lt x x) (λ e. lt_irrefl x (T_from_true (lt x x) e))

lt_one_way : (x y : Float) → finite x ≡ true → finite y ≡ true → lt x y ≡ true → lt y x ≡ false
lt_one_way x y f g h = false_from_ne_true (lt y x) (λ e. lt_irrefl x (lt_trans x y x (T_from_true (lt x y) h) (T_from_true (lt y x) e)))

not_under : (x y : Float) → finite x ≡ true → finite y ≡ true → lt y x ≡ false → T (le x y)
not_under x y f g h = le_of_not-lt y x (number y g) (number x f) (T_from_false (lt y x) h)

lt_along : (x y z : Float) → finite x ≡ true → finite y ≡ true → finite z ≡ true → lt y x ≡ false → lt z y ≡ false → lt z x ≡ false
lt_along x y z f g i h k =
    false_from_ne_true (lt z x) (λ e.
    both_ways (lt z y) k (is_true (lt z y) (lt_of_lt_of_le z x y (T_from_true (lt z x) e) (not_under x y f g h))))

-- ---- the sum with +0.0: the number itself, rounded; the sign of a zero is lost
plain_num : (a p : ℕ) → a * 1 + 0 * 1 * p ≡ a
plain_num a p = omega arith

plain_less : (a p : ℕ) → a * 1 - 0 * 1 * p ≡ a
plain_less a p = omega arith

plain_zero_lem : (p : ℕ) → 0 * 1 * p ≡ 0
plain_zero_lem p = omega arith

sum-zero : (s : Bool) (a p : ℕ) → sum binary64 s (a * 1) false (0 * 1 * p) (p * 1) ≡ round binary64 (s && ltb 0 a) a p
unfolding sum
sum-zero false a p = ap (λ (k : ℕ). round binary64 false k (p * 1)) (plain_num a p) ∙ ap (λ (k : ℕ). round binary64 false a k) (mul-one p)
sum-zero true a p =
    cond_no (ltb (a * 1) (0 * 1 * p)) (round binary64 false (0 * 1 * p - a * 1) (p * 1))
    (round binary64 (ltb (0 * 1 * p) (a * 1)) (a * 1 - 0 * 1 * p) (p * 1))
    (rw (le-ltb (a * 1) (0 * 1 * p) (omega arith)) tt)
    ∙ ap (λ (k : ℕ). round binary64 (ltb (0 * 1 * p) (a * 1)) k (p * 1)) (plain_less a p)
    ∙ ap (λ (k : ℕ). round binary64 (ltb (0 * 1 * p) (a * 1)) a k) (mul-one p)
    ∙ ap (λ (k : ℕ). round binary64 (ltb (0 * 1 * p) k) a p) (mul-one a)
    ∙ ap (λ (k : ℕ). round binary64 (ltb k a) a p) (plain_zero_lem p)

add-zero : (s : Bool) (m : ℕ) (e : ℤ) → fin s m e ⊕ zero64 ≡ round binary64 (s && ltb 0 (m * up e)) (m * up e) (down e)
unfolding add
add-zero s m e = rw zero_fin (sum-zero s (m * up e) (down e))

-- where neither of two numbers is below the other they are one fraction, or both zero
positive : (a b p q : ℕ) → 0 < q → a * q ≡ b * p → T (ltb 0 a) → T (ltb 0 b)
positive zero b p q Q e t = absurd t
positive (suc a) zero p q Q e t =
    let h : 0 < suc a * q = mul-pos (zero-lt-suc a) Q in let k : 0 * p ≡ 0 = zero-mul p in let c : ⊥ = omega arith in absurd c
positive (suc a) (suc b) p q Q e t = lt→ltb 0 (suc b) (zero-lt-suc b)

no_sign : (s : Bool) (a : ℕ) → a ≡ 0 → (s && ltb 0 a) ≡ false
no_sign false a e = refl
no_sign true a e = le-ltb 0 a (omega arith)

no_number : (a k : ℕ) → 0 < k → a * k ≡ 0 → a ≡ 0
no_number a k K e = let h : a * k ≤ 0 * k = omega arith in le_antisymm (le_of_mul-le-mul_right h K) (omega arith)

same_sign : (s : Bool) (a p : ℕ) (t : Bool) (b q : ℕ) → 0 < p → 0 < q → a * q ≡ b * p → T (beq s t || eqb (a * q) 0)
    → (s && ltb 0 a) ≡ (t && ltb 0 b)
same_sign false a p false b q P Q e h = refl
same_sign true a p true b q P Q e h = bool_same (ltb 0 a) (ltb 0 b) (positive a b p q Q e) (positive b a q p P (sym e))
same_sign false a p true b q P Q e h = let z = eqb→eq (a * q) 0 h in sym (no_sign true b (no_number b p P (omega arith)))
same_sign true a p false b q P Q e h = let z = eqb→eq (a * q) 0 h in no_sign true a (no_number a q Q z)

round_plain : (s : Bool) (a p : ℕ) (t : Bool) (b q : ℕ) → 0 < p → 0 < q → T (level s (a * q) t (b * p))
    → round binary64 (s && ltb 0 a) a p ≡ round binary64 (t && ltb 0 b) b q
round_plain s a p t b q P Q l =
    let e : a * q ≡ b * p = eqb→eq (a * q) (b * p) (and_l (eqb (a * q) (b * p)) (beq s t || eqb (a * q) 0) l) in
    ap (λ (c : Bool). round binary64 c a p) (same_sign s a p t b q P Q e (and_r (eqb (a * q) (b * p)) (beq s t || eqb (a * q) 0) l))
    ∙ round_same binary64 (t && ltb 0 b) a p b q P Q e

eq_same : (x y : Float) → finite x ≡ true → finite y ≡ true → T (eq x y) → x ⊕ zero64 ≡ y ⊕ zero64
unfolding eq
eq_same nan y f g h = absurd (false≢true f)
eq_same (inf s) y f g h = absurd (false≢true f)
eq_same (fin s m e) nan f g h = absurd (false≢true g)
eq_same (fin s m e) (inf t) f g h = absurd (false≢true g)
eq_same (fin s m e) (fin t n d) f g h =
    add-zero s m e ∙ round_plain s (m * up e) (down e) t (n * up d) (down d) (down_pos e) (down_pos d) h ∙ sym (add-zero t n d)

lt_same : (x y : Float) → finite x ≡ true → finite y ≡ true → lt x y ≡ false → lt y x ≡ false → x ⊕ zero64 ≡ y ⊕ zero64
lt_same x y f g h k = elim (lt-or-eq x y (not_under x y f g k)) [
  | inl l ↦ absurd (both_ways (lt x y) h (is_true (lt x y) l))
  | inr e ↦ eq_same x y f g e
]

-- ---- the infinities
lt_last : (s : Bool) (x : Float) → finite x ≡ true → lt (inf s) x ≡ s
unfolding lt
lt_last s nan f = absurd (false≢true f)
lt_last s (inf t) f = absurd (false≢true f)
lt_last s (fin t m e) f = refl

lt_within : (s : Bool) (x : Float) → finite x ≡ true → lt x (inf s) ≡ not s
unfolding lt
lt_within s nan f = absurd (false≢true f)
lt_within s (inf t) f = absurd (false≢true f)
lt_within s (fin t m e) f = refl

lt_inf_itself : (s : Bool) → lt (inf s) (inf s) ≡ false
unfolding lt
lt_inf_itself true = refl
lt_inf_itself false = refl

pub lower_orders : Orders lt (inf false)
lower_orders = record {
  limit_out = refl;
  within = lt_within false;
  last = lt_last false;
  limit_self = lt_inf_itself false;
  itself = lt_itself;
  one_way = lt_one_way;
  along = lt_along;
  same = lt_same;
}

pub higher_orders : Orders (λ x y. lt y x) (inf true)
higher_orders = record {
  limit_out = refl;
  within = lt_last true;
  last = lt_within true;
  limit_self = lt_inf_itself true;
  itself = lt_itself;
  one_way = λ x y f g. lt_one_way y x g f;
  along = λ x y z f g i h k. lt_along z y x i g f k h;
  same = λ x y f g h k. lt_same x y f g k h;
}

-- ---- a double, which the sum with +0.0 does not round: it is written in one way, and the sum has its value
same_bits : (f : Format) (x : Float) (s : Bool) (m : ℕ) (e : ℤ) → HasValue x s (m * up e) (down e) → to_bits f x ≡ to_bits f (fin s m e)
unfolding to_bits
same_bits f nan s m e v = absurd v
same_bits f (inf t) s m e v = absurd v
same_bits f (fin t n d) s m e v =
    let a = n * up d * 2 ^ low f in
    let b = m * up e * 2 ^ low f in
    let c : a * down e ≡ b * down d =
    mul_right_comm (n * up d) (2 ^ low f) (down e)
    ∙ ap (λ (k : ℕ). k * 2 ^ low f) v.1
    ∙ mul_right_comm (m * up e) (down d) (2 ^ low f) in
    let bits : Bool → ℕ → ℕ = λ u k. cond u (top f) 0 + (size k - prec f) * hid f + k / 2 ^ (size k - prec f) in
    ap (λ (u : Bool). bits u (a / down d)) v.0 ∙ ap (bits s) (div_same a (down d) b (down e) (down_pos d) (down_pos e) c)

written_once : (f : Format) (x y : Float) → T (fits f x) → T (fits f y) → to_bits f x ≡ to_bits f y → x ≡ y
written_once f x y p q e = sym (of_bits-to_bits f x p) ∙ ap (of_bits f) e ∙ of_bits-to_bits f y q

-- 2 ^ e in units of 2 ^ -l, for an e that is not below -l
whole_units : (l : ℕ) (e : ℤ) → down e ≤ 2 ^ l → (j : ℕ) × (up e * 2 ^ l ≡ 2 ^ j * down e)
whole_units l (pos k) h = (k + l, sym (pow-add 2 k l) ∙ sym (mul-one (2 ^ (k + l))))
whole_units l (negsuc k) h =
    let g : suc k ≤ l = lt_of_not-le (λ (i : l ≤ k). not-le_of_lt (pow-lt (suc-le-suc i)) h) in
    (l - suc k, one-mul (2 ^ l) ∙ ap (λ (i : ℕ). 2 ^ i) (sym (back l (suc k) g)) ∙ pow-add 2 (l - suc k) (suc k))

round_held : (f : Format) (s : Bool) (m : ℕ) (e : ℤ) → m < 2 ^ prec f → down e ≤ 2 ^ low f → m * up e < 2 ^ suc (emax f) * down e
    → HasValue (round f s (m * up e) (down e)) s (m * up e) (down e)
round_held f s m e small low-enough fine =
    let l = 2 ^ low f in
    let w = whole_units (low f) e low-enough in
    let j = w.0 in
    let v : m * up e * l ≡ m * 2 ^ j * down e = mul_assoc m (up e) l ∙ ap (λ (k : ℕ). m * k) w.1 ∙ sym (mul_assoc m (2 ^ j) (down e)) in
    let r : 2 ^ suc (emax f) * down e * l ≡ 2 ^ (low f + suc (emax f)) * down e =
    mul_right_comm (2 ^ suc (emax f)) (down e) l
    ∙ ap (λ (k : ℕ). k * down e) (mul_comm (2 ^ suc (emax f)) l ∙ sym (pow-add 2 (low f) (suc (emax f)))) in
    round_exact f s (m * up e) (down e) m j (down_pos e) small
    (lt_of_mul-lt-mul_right (down e)
    (subst (λ (k : ℕ). k < 2 ^ (low f + suc (emax f)) * down e) v
    (subst (λ (k : ℕ). m * up e * l < k) r (mul-lt-mul_of_pos_right fine (pow_pos (low f))))))
    v

round_back : (f : Format) (s : Bool) (m : ℕ) (e : ℤ) → T (fits f (fin s (suc m) e)) → round f s (suc m * up e) (down e) ≡ fin s (suc m) e
round_back f s m e t =
    written_once f (round f s (suc m * up e) (down e)) (fin s (suc m) e) (round-fits f s (suc m * up e) (down e)) t
    (same_bits f (round f s (suc m * up e) (down e)) s (suc m) e (held t))
  where
    held : T (fits f (fin s (suc m) e)) → HasValue (round f s (suc m * up e) (down e)) s (suc m * up e) (down e)
    held t =
        let A = eqb (suc m % 2) 1 in
        let B = ltb (suc m) (2 ^ prec f) in
        let C = leb (down e) (2 ^ low f) in
        let D = ltb (suc m * up e) (2 ^ suc (emax f) * down e) in
        unfold fits in
        round_held f s (suc m) e
        (ltb→lt (suc m) (2 ^ prec f) (and_r A B (and_l (A && B) C (and_l (A && B && C) D t))))
        (leb→le (down e) (2 ^ low f) (and_r (A && B) C (and_l (A && B && C) D t)))
        (ltb→lt (suc m * up e) (2 ^ suc (emax f) * down e) (and_r (A && B && C) D t))

-- zeros and the others
eq-zero : (s : Bool) (e : ℤ) → eq (fin s 0 e) plus_zero ≡ true
unfolding eq
eq-zero true e = rw (zero-mul (up e)) (rw (zero-mul (down e)) refl)
eq-zero false e = rw (zero-mul (up e)) (rw (zero-mul (down e)) refl)

above_zero : (m : ℕ) (e : ℤ) → 0 < suc m * up e
above_zero m e = mul-pos (zero-lt-suc m) (up_pos e)

eq_other : (s : Bool) (m : ℕ) (e : ℤ) → eq (fin s (suc m) e) plus_zero ≡ false
unfolding eq
eq_other s m e =
    let h : 0 < suc m * up e = above_zero m e in
    ap (λ (b : Bool). b && (beq s false || eqb (suc m * up e * 1) 0)) (ne_eqb (suc m * up e * 1) (0 * 1 * down e) (λ e. omega arith))

signed : (s b : Bool) → T b → (s && b) ≡ s
signed true true t = refl
signed false true t = refl
signed true false t = elim t [ ]
signed false false t = elim t [ ]

by_cases : (x : Float) → T (fits binary64 x) → finite x ≡ true → x ⊕ zero64 ≡ cond (eq x plus_zero) plus_zero x
by_cases nan t f = absurd (false≢true f)
by_cases (inf s) t f = absurd (false≢true f)
by_cases (fin s zero e) t f =
    add-zero s 0 e
    ∙ rw (zero-mul (up e)) (ap (λ (b : Bool). round binary64 b 0 (down e)) (no_sign s) ∙ round-zero false (down e) (down_pos e))
    ∙ ap (λ (b : Bool). cond b plus_zero (fin s 0 e)) (sym (eq-zero s e))
  where
    no_sign : (s : Bool) → (s && ltb 0 0) ≡ false
    no_sign true = refl
    no_sign false = refl
by_cases (fin s (suc m) e) t f =
    add-zero s (suc m) e
    ∙ ap (λ (b : Bool). round binary64 b (suc m * up e) (down e))
    (signed s (ltb 0 (suc m * up e)) (lt→ltb 0 (suc m * up e) (above_zero m e)))
    ∙ round_back binary64 s m e t
    ∙ ap (λ (b : Bool). cond b plus_zero (fin s (suc m) e)) (sym (eq_other s m e))

-- of a double, the sum with +0.0 is the double itself, and of a zero of either sign +0.0
pub plain_double : (x : Float) → T (fits binary64 x) → finite x ≡ true → x ⊕ zero64 ≡ cond (eq x zero64) zero64 x
plain_double x t f = by_cases x t f ∙ rw zero_fin refl
