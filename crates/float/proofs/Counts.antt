-- The float of a whole number up to 2 ^ 53 is that number: such floats add and compare as the numbers do. So a weight that
-- starts at 0.0 and is raised by 1.0 counts exactly. Assumes nothing.
use mathlib.Core.Path.{◌≡◌, refl, sym, ap, ◌∙◌, subst}
use Prim.Native.Nat.{ℕ, ◌+◌, ◌*◌, ◌^◌, ◌≤◌, ◌<◌}
use native.Mathlib.Nat.{mul-one, mul_comm, mul_assoc, add-mul, mul-pos, eq_of_mul-eq-mul_right, mul-lt-mul_of_pos_right, lt_of_mul-lt-mul_right, zero-lt-suc}
use native.Mathlib.Omega.{arith}
use mathlib.Core.Bool.{Bool, true, false, ◌||◌, true≢false}
use lib.IntN.{ℤ}
use lib.Dec.{ltb, leb, eqb, lt→ltb, ltb→lt, eqb→eq, lit≤}
use lib.Ieee.{Float, nan, inf, fin, binary64, up, down, round, sum, add, eq, lt, le, of_int, of_bits}
use lib.Ieee.Fits.{down_pos, eq→eqb}
use lib.Ieee.Exact.{HasValue}
use lib.Ieee.Back.{round_whole}
use lib.Ieee.Scale.{round_same}
use Rattle.float.specs.Operators.{◌⊕◌, zero64, one64, of_nat64}
use mathlib.Core.Bool.{and-true}
use Rattle.std.proofs.lemmas.Bool.Decides.{nat_tests}
use Rattle.float.proofs.Booleans.{bool_same}

-- ---- sums
add_values_lem : (x y : Float) (a b : ℕ) → HasValue x false a 1 → HasValue y false b 1 → add binary64 x y ≡ round binary64 false (a + b) 1
unfolding add sum
add_values_lem nan y a b p q = absurd p
add_values_lem (inf s) y a b p q = absurd p
add_values_lem (fin s m e) nan a b p q = absurd q
add_values_lem (fin s m e) (inf t) a b p q = absurd q
add_values_lem (fin true m e) (fin t n d) a b p q = absurd (true≢false p.0)
add_values_lem (fin false m e) (fin true n d) a b p q = absurd (true≢false q.0)
add_values_lem (fin false m e) (fin false n d) a b p q =
    let u : m * up e ≡ a * down e = sym (mul-one (m * up e)) ∙ p.1 in
    let v : n * up d ≡ b * down d = sym (mul-one (n * up d)) ∙ q.1 in
    let w : m * up e * down d + n * up d * down e ≡ (a + b) * (down e * down d) =
    ap (λ (z : ℕ). z * down d + n * up d * down e) u
    ∙ ap (λ (z : ℕ). a * down e * down d + z * down e) v
    ∙ simp (add-mul, mul_assoc, mul_comm) in
    round_same binary64 false (m * up e * down d + n * up d * down e) (down e * down d) (a + b) 1 (mul-pos (down_pos e) (down_pos d)) (zero-lt-suc 0) (mul-one _ ∙ w)

-- the float of a plus the float of b is the float of a + b
pub count_add : (a b : ℕ) → a ≤ 2 ^ 53 → b ≤ 2 ^ 53 → of_nat64 a ⊕ of_nat64 b ≡ of_nat64 (a + b)
unfolding of_int
count_add a b h k = add_values_lem (round binary64 false a 1) (round binary64 false b 1) a b (round_whole binary64 false a h) (round_whole binary64 false b k)

pub one_is_lem : one64 ≡ of_nat64 1
unfolding of_bits of_int
one_is_lem = refl

pub zero_is : zero64 ≡ of_nat64 0
unfolding of_bits of_int
zero_is = refl

-- raised by 1.0
pub count_one : (n : ℕ) → n ≤ 2 ^ 53 → of_nat64 n ⊕ one64 ≡ of_nat64 (n + 1)
count_one n h = rw one_is_lem (count_add n 1 h (lit≤ tt))

-- ---- order
eqb_scaled : (a b k x y : ℕ) → 0 < k → x ≡ a * k → y ≡ b * k → eqb x y ≡ eqb a b
eqb_scaled a b k x y K p q =
    bool_same (eqb x y) (eqb a b)
    (λ t. eq→eqb (eq_of_mul-eq-mul_right k K a b (sym p ∙ eqb→eq x y t ∙ q)))
    (λ t. eq→eqb (p ∙ ap (λ (z : ℕ). z * k) (eqb→eq a b t) ∙ sym q))

ltb_scaled : (a b k x y : ℕ) → 0 < k → x ≡ a * k → y ≡ b * k → ltb x y ≡ ltb a b
ltb_scaled a b k x y K p q =
    bool_same (ltb x y) (ltb a b)
    (λ t. lt→ltb a b (lt_of_mul-lt-mul_right k (subst (λ (z : ℕ). z < b * k) p (subst (λ (z : ℕ). x < z) q (ltb→lt x y t)))))
    (λ t. lt→ltb x y (subst (λ (z : ℕ). z < y) (sym p) (subst (λ (z : ℕ). a * k < z) (sym q) (mul-lt-mul_of_pos_right (ltb→lt a b t) K))))

-- of two values that are whole: the two cross products are those numbers, times one number
cross_left : (a m : ℕ) (e d : ℤ) → m * up e * 1 ≡ a * down e → m * up e * down d ≡ a * (down e * down d)
cross_left a m e d p = ap (λ (z : ℕ). z * down d) (sym (mul-one (m * up e)) ∙ p) ∙ mul_assoc a (down e) (down d)

cross_right : (b n : ℕ) (d e : ℤ) → n * up d * 1 ≡ b * down d → n * up d * down e ≡ b * (down e * down d)
cross_right b n d e q = cross_left b n d e q ∙ ap (λ (z : ℕ). b * z) (mul_comm (down d) (down e))

lt_values : (x y : Float) (a b : ℕ) → HasValue x false a 1 → HasValue y false b 1 → lt x y ≡ ltb a b
unfolding lt
lt_values nan y a b p q = absurd p
lt_values (inf s) y a b p q = absurd p
lt_values (fin s m e) nan a b p q = absurd q
lt_values (fin s m e) (inf t) a b p q = absurd q
lt_values (fin true m e) (fin t n d) a b p q = absurd (true≢false p.0)
lt_values (fin false m e) (fin true n d) a b p q = absurd (true≢false q.0)
lt_values (fin false m e) (fin false n d) a b p q =
    ltb_scaled a b (down e * down d) (m * up e * down d) (n * up d * down e) (mul-pos (down_pos e) (down_pos d)) (cross_left a m e d p.1) (cross_right b n d e q.1)

eq_values_lem : (x y : Float) (a b : ℕ) → HasValue x false a 1 → HasValue y false b 1 → eq x y ≡ eqb a b
unfolding eq
eq_values_lem nan y a b p q = absurd p
eq_values_lem (inf s) y a b p q = absurd p
eq_values_lem (fin s m e) nan a b p q = absurd q
eq_values_lem (fin s m e) (inf t) a b p q = absurd q
eq_values_lem (fin true m e) (fin t n d) a b p q = absurd (true≢false p.0)
eq_values_lem (fin false m e) (fin true n d) a b p q = absurd (true≢false q.0)
eq_values_lem (fin false m e) (fin false n d) a b p q =
    and-true (eqb (m * up e * down d) (n * up d * down e))
    ∙ eqb_scaled a b (down e * down d) (m * up e * down d) (n * up d * down e) (mul-pos (down_pos e) (down_pos d)) (cross_left a m e d p.1) (cross_right b n d e q.1)

-- below or equal is at most
pub or_leb : (a b : ℕ) → (ltb a b || eqb a b) ≡ leb a b
or_leb a b = grind (arith, nat_tests)

le_values : (x y : Float) (a b : ℕ) → HasValue x false a 1 → HasValue y false b 1 → le x y ≡ leb a b
unfolding le
le_values x y a b p q = ap (λ (z : Bool). z || eq x y) (lt_values x y a b p q) ∙ ap (λ (z : Bool). ltb a b || z) (eq_values_lem x y a b p q) ∙ or_leb a b

count_value : (n : ℕ) → n ≤ 2 ^ 53 → HasValue (of_nat64 n) false n 1
unfolding of_int
count_value n h = round_whole binary64 false n h

-- a count is at most another exactly where the numbers are so
pub count-le : (a b : ℕ) → a ≤ 2 ^ 53 → b ≤ 2 ^ 53 → le (of_nat64 a) (of_nat64 b) ≡ leb a b
count-le a b h k = le_values (of_nat64 a) (of_nat64 b) a b (count_value a h) (count_value b k)

pub count-eq : (a b : ℕ) → a ≤ 2 ^ 53 → b ≤ 2 ^ 53 → eq (of_nat64 a) (of_nat64 b) ≡ eqb a b
count-eq a b h k = eq_values_lem (of_nat64 a) (of_nat64 b) a b (count_value a h) (count_value b k)

pub count-zero : (n : ℕ) → n ≤ 2 ^ 53 → eq (of_nat64 n) zero64 ≡ eqb n 0
count-zero n h = rw zero_is (count-eq n 0 h (lit≤ tt))
