-- `root x` is the double nearest to the root of a positive x, and the only one: of the doubles on either side of the root
-- `root` takes the one on whose side the number half way does not lie, no other double stands between, and a tie would
-- make an odd square a multiple of 4. Assumes nothing.
use Rattle.std.proofs.Common.{◌≡◌, ℕ, zero, suc, ◌+◌, ◌-◌, ◌*◌, ◌/◌, ◌^◌, ◌<◌, ◌≤◌, true, false, T, ltb, ◌⊎◌, ℤ, sym, refl, ap, ◌∙◌, subst, inl, inr, le_trans, le_of_eq, lt_of_lt_of_le, lt_of_le_of_lt, lt_irrefl, mul-le-mul_right, zero-lt-suc, div-lt_iff_lt-mul, mul-le-mul, le_antisymm, mul-lt-mul_of_pos_right, mul-pos, one-mul, lt_of_not-le, le-div_iff_mul-le, mul_right_comm, not-le_of_lt, mul-div_cancel, arith, lt→ltb, pow_pos, pow_mono, pow-add, shl_lt}
use Prim.Native.Nat.{compare, Ordering}
use native.Mathlib.Nat.{eq_of_mul-eq-mul_right}
use native.Mathlib.Decide.{dec_le}
use lib.Ieee.{Float, nan, inf, fin, binary64, up, down, size, nearest, odd, units, fits}
use lib.Ieee.Digits.{size-le, size-lt, size_reaches}
use lib.Ieee.Fits.{down_pos, up_pos, nearest-le, odd-fits, cond-fits, inf-fits, nan-fits}
use lib.Ieee.Exact.{HasValue, units_val}
use lib.Ieee.Nearest.{nearest-ge}
use lib.Ieee.Positive.{positive, positive_of_value}
use Rattle.root.specs.Root.{square, integer_root, rounded_root, root_of_units, in_units, square_of_root, root, Further, Nearest}
use Rattle.root.proofs.IntegerRoot.{Floor, integer_root_floor, at_most, Cmp, cmp, toward, rounded_root_at}
use Rattle.root.proofs.Doubles.{written, Short, zero_short, short, short_up, whole_part, next, zero_units, same_size}
use Rattle.root.proofs.Patterns.{size-gt, pow_twice, root_of_units_is}

-- ---- of two sizes: the number half way between r and v, doubled and squared, is below 4 * n where v is below r, and
-- above it where v is above r
abbrev Nearer : ℕ → ℕ → ℕ → Type 0
Nearer n r v = (v < r → square (v + r) < 4 * n) × (r < v → 4 * n < square (v + r))

rounded_down : (n q k v : ℕ) → Short v → 2 ^ 52 ≤ q → square (q * 2 ^ k) ≤ n → 4 * n < square ((2 * q + 1) * 2 ^ k)
    → Nearer n (q * 2 ^ k) v
rounded_down n q k v s h f g = (
  λ l.
      let r = q * 2 ^ k in
      let z : v + r + 1 ≤ r + r = omega arith in
      let w = mul-le-mul z z in
      omega arith,
  λ l.
      let r = q * 2 ^ k in
      let z : (2 * q + 1) * 2 ^ k ≤ v + r = omega (arith, next v k q s h l) in
      lt_of_lt_of_le g (mul-le-mul z z),
)

rounded_up : (n q k v : ℕ) → Short v → 2 ^ 52 ≤ q → n ≤ square ((q + 1) * 2 ^ k) → square ((2 * q + 1) * 2 ^ k) < 4 * n
    → Nearer n ((q + 1) * 2 ^ k) v
rounded_up n q k v s h f g = (
  λ l.
      let r = (q + 1) * 2 ^ k in
      let b : v ≤ q * 2 ^ k = under l in
      let z : v + r ≤ (2 * q + 1) * 2 ^ k = omega arith in
      lt_of_le_of_lt (mul-le-mul z z) g,
  λ l.
      let r = (q + 1) * 2 ^ k in
      let z : r + r + 1 ≤ v + r = omega arith in
      let w = mul-le-mul z z in
      omega arith,
)
  where
    under : v < (q + 1) * 2 ^ k → v ≤ q * 2 ^ k
    under l = elim (dec_le v (q * 2 ^ k)) [
      | yes y ↦ y
      | no x ↦ absurd (not-le_of_lt l (next v k q s h (lt_of_not-le x)))
    ]

-- the square of an odd number is no multiple of 4
no_tie : (n N q k : ℕ) → n ≡ N * 2 ^ (2 * k) → 4 * n ≡ square ((2 * q + 1) * 2 ^ k) → ⊥
no_tie n N q k e g =
    let P = 2 ^ k in
    let p : n ≡ N * (P * P) = e ∙ ap (λ (x : ℕ). N * x) (pow_twice k) in
    let f : 4 * N * (P * P) ≡ square (2 * q + 1) * (P * P) = omega arith in
    let c : 4 * N ≡ square (2 * q + 1) =
    eq_of_mul-eq-mul_right (P * P) (mul-pos (pow_pos k) (pow_pos k)) (4 * N) (square (2 * q + 1)) f in
    omega arith

module _ (n N q k v : ℕ) (s : Short v) (e : n ≡ N * 2 ^ (2 * k)) (h : 2 ^ 52 ≤ q)
    (lo : square (q * 2 ^ k) ≤ n) (hi : n ≤ square ((q + 1) * 2 ^ k)) where
  rounded : (o : Ordering) → Cmp o (4 * n) (square ((2 * q + 1) * 2 ^ k)) → Nearer n (nearest q o * 2 ^ k) v
  rounded Ordering.lt a = rounded_down n q k v s h lo a
  rounded Ordering.eq a = absurd (no_tie n N q k e a)
  rounded Ordering.gt a =
      let u : suc q ≡ q + 1 = omega arith in
      subst (λ (r : ℕ). Nearer n (r * 2 ^ k) v) (sym u) (rounded_up n q k v s h hi a)

-- ---- the root of n units, for an n from 2 ^ 104 up that a square of doubles can reach
module _ (n : ℕ) (t : Short n) (big : 2 ^ 104 ≤ n) (most : n < 2 ^ 3172) where
  -- the root's digits: k dropped, q kept, and d after rounding
  k : ℕ
  k = (size n + 1) / 2 - 53

  q : ℕ
  q = integer_root 53 (n / 2 ^ (2 * k))

  d : ℕ
  d = rounded_root k n

  sizes : (105 + 2 * k ≤ size n) × (size n ≤ 106 + 2 * k)
  unfolding k
  sizes = by_size (size n) (size-gt n 104 big)
    where
      by_size : (z : ℕ) → 104 < z → (105 + 2 * ((z + 1) / 2 - 53) ≤ z) × (z ≤ 106 + 2 * ((z + 1) / 2 - 53))
      by_size z h = omega arith

  kept-lo : 2 ^ 104 ≤ n / 2 ^ (2 * k)
  kept-lo =
      let s : 104 + 2 * k < size n = omega (arith, sizes) in
      let h : 2 ^ (104 + 2 * k) ≤ n = size_reaches n (104 + 2 * k) s in
      (le-div_iff_mul-le (pow_pos (2 * k))).1 (le_trans (le_of_eq (sym (pow-add 2 104 (2 * k)))) h)

  kept-hi : n / 2 ^ (2 * k) < 2 ^ 106
  kept-hi =
      let h : n < 2 ^ (106 + 2 * k) = lt_of_lt_of_le (size-lt n) (pow_mono sizes.1) in
      (div-lt_iff_lt-mul (pow_pos (2 * k))).1 (lt_of_lt_of_le h (le_of_eq (pow-add 2 106 (2 * k))))

  q-floor : Floor (n / 2 ^ (2 * k)) q
  unfolding q
  q-floor = integer_root_floor 53 (n / 2 ^ (2 * k)) kept-hi

  q-in : (2 ^ 52 ≤ q) × (q < 2 ^ 53)
  q-in =
      let a : 2 ^ 52 ≤ q = at_most (n / 2 ^ (2 * k)) (2 ^ 52) q kept-lo q-floor.1 in
      let b : q ≤ 2 ^ 53 - 1 = at_most (n / 2 ^ (2 * k)) q (2 ^ 53 - 1) q-floor.0 kept-hi in
      omega arith

  q-lo : square (q * 2 ^ k) ≤ n
  q-lo =
      let p = pow_twice k in
      let a : square q * 2 ^ (2 * k) ≤ n = (le-div_iff_mul-le (pow_pos (2 * k))).0 q-floor.0 in
      omega (arith, ap (λ (x : ℕ). square q * x) p)

  q-hi : n ≤ square ((q + 1) * 2 ^ k)
  q-hi =
      let p = pow_twice k in
      let a : n < square (q + 1) * 2 ^ (2 * k) = (div-lt_iff_lt-mul (pow_pos (2 * k))).0 q-floor.1 in
      omega (arith, ap (λ (x : ℕ). square (q + 1) * x) p)

  d-is : d ≡ toward n k q
  unfolding d q
  d-is = rounded_root_at k n

  d-in : (2 ^ 52 ≤ d) × (d ≤ 2 ^ 53)
  d-in =
      let o = compare (4 * n) (square ((2 * q + 1) * 2 ^ k)) in
      let a = nearest-ge q o in
      let b = nearest-le q o in
      omega (arith, q-in, d-is)

  -- n is a number below 2 ^ 53 moved up by 2 * k places at least
  even : (N : ℕ) × (n ≡ N * 2 ^ (2 * k))
  even =
      let b : n < 2 ^ (53 + t.1) = subst (λ (x : ℕ). x < 2 ^ (53 + t.1)) (sym t.2) (shl_lt 53 t.1 t.3) in
      let l : size n ≤ 53 + t.1 = size-le n (53 + t.1) b in
      let e : 2 * k ≤ t.1 = omega (arith, sizes) in
      whole_part n (2 * k) t e

  nearer : (v : ℕ) → Short v → Nearer n (d * 2 ^ k) v
  nearer v s =
      let b = square ((2 * q + 1) * 2 ^ k) in
      subst (λ (d : ℕ). Nearer n (d * 2 ^ k) v) (sym d-is)
      (rounded n even.0 q k v s even.1 q-in.0 q-lo q-hi (compare (4 * n) b) (cmp (4 * n) b))

  d-short : d * 2 ^ k < 2 ^ 2098
  d-short =
      let z : size n ≤ 3172 = size-le n 3172 most in
      let e : d < 2 ^ 54 = omega (arith, d-in) in
      let j : 54 + k ≤ 2098 = omega (arith, sizes) in
      lt_of_lt_of_le (shl_lt 54 k e) (pow_mono j)

  is : root_of_units n ≡ units binary64 false d k
  unfolding d
  is = root_of_units_is n k (unfold k in refl)

  value : HasValue (root_of_units n) false (d * 2 ^ k) (2 ^ 1074)
  value = subst (λ (x : Float). HasValue x false (d * 2 ^ k) (2 ^ 1074)) (sym is) (units_val binary64 false d k d-short)

  in-units : in_units (root_of_units n) ≡ d * 2 ^ k
  in-units = of-value (root_of_units n) (d * 2 ^ k) value
    where
      of-value : (x : Float) (a : ℕ) → HasValue x false a (2 ^ 1074) → in_units x ≡ a
      of-value nan a h = absurd h
      of-value (inf s) a h = absurd h
      of-value (fin s m e) a h = ap (λ (x : ℕ). x / down e) h.1 ∙ mul-div_cancel a (down_pos e)

  pub units-nearer : (v : ℕ) → Short v → Nearer n (in_units (root_of_units n)) v
  units-nearer v s = subst (λ (r : ℕ). Nearer n r v) (sym in-units) (nearer v s)

  some : 0 < d * 2 ^ k
  some = let h : 0 < d = omega (arith, d-in) in mul-pos h (pow_pos k)

  pub units-positive : T (positive (root_of_units n))
  units-positive = positive_of_value (root_of_units n) (d * 2 ^ k) (2 ^ 1074) value some

  pub units-some : 0 < in_units (root_of_units n)
  units-some = subst (λ (r : ℕ). 0 < r) (sym in-units) some

  pub units-double : T (fits binary64 (root_of_units n))
  unfolding units
  units-double =
      let h : d < 2 ^ 54 = omega (arith, d-in) in
      subst (λ (x : Float). T (fits binary64 x)) (sym is)
      (cond-fits binary64 (ltb (d * 2 ^ k) (2 ^ 2098)) (odd 54 false d k 1074) (inf false)
      (odd-fits binary64 54 false d k h d-in.1 d-short) (inf-fits binary64 false))

-- ---- the root of a positive double
module _ (m : ℕ) (e : ℤ) (h : T (fits binary64 (fin false (suc m) e))) where
  x : Float
  x = fin false (suc m) e

  n : ℕ
  n = square_of_root x

  n-short : Short n
  unfolding n x
  n-short = short_up (in_units (fin false (suc m) e)) 1074 (short (fin false (suc m) e) h)

  n-lo : 2 ^ 104 ≤ n
  unfolding n x
  n-lo =
      let d : down e ≤ suc m * up e * 2 ^ 1074 =
      le_trans (written false m e h).low
      (le_trans (le_of_eq (sym (one-mul (2 ^ 1074)))) (mul-le-mul_right (2 ^ 1074) (mul-pos (zero-lt-suc m) (up_pos e)))) in
      let a : 1 ≤ in_units (fin false (suc m) e) = (le-div_iff_mul-le (down_pos e)).1 (le_trans (le_of_eq (one-mul (down e))) d) in
      le_trans (pow_mono {i = 104} {j = 1074} (omega arith))
      (le_trans (le_of_eq (sym (one-mul (2 ^ 1074)))) (mul-le-mul_right (2 ^ 1074) a))

  n-hi : n < 2 ^ 3172
  unfolding n x
  n-hi =
      let b : suc m * up e * 2 ^ 1074 < 2 ^ 1024 * down e * 2 ^ 1074 =
      mul-lt-mul_of_pos_right (written false m e h).high (pow_pos 1074) in
      let c : 2 ^ 1024 * down e * 2 ^ 1074 ≤ 2 ^ 2098 * down e = le_of_eq (mul_right_comm (2 ^ 1024) (down e) (2 ^ 1074)) in
      shl_lt 2098 1074 ((div-lt_iff_lt-mul (down_pos e)).1 (lt_of_lt_of_le b c))

  r : Float
  r = root_of_units n

  r-is : root x ≡ r
  unfolding x n r root
  r-is = refl

  law : (v : ℕ) → Short v → Nearer n (in_units r) v
  unfolding r
  law = units-nearer n n-short n-lo n-hi

  r-double : T (fits binary64 r)
  unfolding r
  r-double = units-double n n-short n-lo n-hi

  r-positive : T (positive r)
  unfolding r
  r-positive = units-positive n n-short n-lo n-hi

  r_some : 0 < in_units r
  unfolding r
  r_some = units-some n n-short n-lo n-hi

  -- a number below zero is further than zero, and zero further than r
  below-zero : (v : ℕ) → square (in_units r - v) < 4 * n
  below-zero v =
      let z : square (0 + in_units r) < 4 * n = (law 0 zero_short).0 r_some in
      let l : in_units r - v ≤ in_units r = omega arith in
      lt_of_le_of_lt (mul-le-mul l l) (subst (λ (a : ℕ). square a < 4 * n) (omega arith) z)

  further : (y : Float) → T (fits binary64 y) → (y ≡ r → ⊥) → Further n (in_units r) y
  further nan f other = tt
  further (inf s) f other = tt
  further (fin true v g) f other = below-zero (in_units (fin true v g))
  further (fin false zero g) f other =
      let y = fin false zero g in
      let l : in_units y < in_units r = subst (λ (a : ℕ). a < in_units r) (sym (zero_units false g)) r_some in
      inl (l, (law (in_units y) (short y f)).0 l)
  further (fin false (suc v) g) f other =
      let y = fin false (suc v) g in
      let p : T (positive y) = lt→ltb 0 (suc v) (zero-lt-suc v) in
      elim (dec_le (in_units y) (in_units r)) [
        | no a ↦ let l = lt_of_not-le a in inr (l, (law (in_units y) (short y f)).1 l)
        | yes a ↦ elim (dec_le (in_units r) (in_units y)) [
          | no b ↦ let l = lt_of_not-le b in inl (l, (law (in_units y) (short y f)).0 l)
          | yes b ↦ absurd (other (same_size y r f r-double p r-positive (le_antisymm a b)))
        ]
      ]

  pub nearest-root : Nearest (fin false (suc m) e) (root (fin false (suc m) e))
  unfolding n x
  nearest-root =
      subst (λ (z : Float). Nearest x z) (sym r-is)
      (record { double = r-double; above_zero = r-positive; others = further })

-- ---- the theorems
-- The root of a positive finite double is the double nearest to its exact root.
pub root_is_nearest : (x : Float) → T (positive x) → T (fits binary64 x) → Nearest x (root x)
root_is_nearest (fin false (suc m) e) p h = nearest-root m e h
root_is_nearest (fin false zero e) p h = absurd p
root_is_nearest (fin true m e) p h = absurd p
root_is_nearest (inf s) p h = absurd p
root_is_nearest nan p h = absurd p

-- Of two doubles each would be further from the root than the other: the number half way would lie on both sides.
abbrev Sides : ℕ → ℕ → ℕ → Type 0
Sides n r y = ((y < r) × (square (y + r) < 4 * n)) ⊎ ((r < y) × (4 * n < square (y + r)))

sides : (n r : ℕ) (y : Float) → T (positive y) → Further n r y → Sides n r (in_units y)
sides n r (fin false m e) p f = f
sides n r (fin true m e) p f = absurd p
sides n r (inf s) p f = absurd p
sides n r nan p f = absurd p

not_both_lem : (n r s : ℕ) → r < s → Sides n r s → Sides n s r → ⊥
not_both_lem n r s l (inl u) v = omega arith
not_both_lem n r s l (inr u) (inl v) = omega arith
not_both_lem n r s l (inr u) (inr v) = omega arith

no_two : (x r s : Float) → Nearest x r → Nearest x s → in_units r < in_units s → ⊥
no_two x r s f g l =
    let n = square_of_root x in
    let d : s ≡ r → ⊥ = λ e. lt_irrefl (in_units r) (subst (λ (y : Float). in_units r < in_units y) e l) in
    let d' : r ≡ s → ⊥ = λ e. d (sym e) in
    not_both_lem n (in_units r) (in_units s) l
    (sides n (in_units r) s g.above_zero (f.others s g.double d))
    (sides n (in_units s) r f.above_zero (g.others r f.double d'))

only_one : (x r s : Float) → Nearest x r → Nearest x s → r ≡ s
only_one x r s f g = elim (dec_le (in_units r) (in_units s)) [
  | no h ↦ absurd (no_two x s r g f (lt_of_not-le h))
  | yes h ↦ elim (dec_le (in_units s) (in_units r)) [
    | no l ↦ absurd (no_two x r s f g (lt_of_not-le l))
    | yes l ↦ same_size r s f.double g.double f.above_zero g.above_zero (le_antisymm h l)
  ]
]

-- And the double nearest to the exact root is the root: nothing else is.
pub nearest_is_root : (x r : Float) → T (positive x) → T (fits binary64 x) → Nearest x r → r ≡ root x
nearest_is_root x r p h f = only_one x r (root x) f (root_is_nearest x p h)

-- The root of a double is a double, whatever it is the root of.
pub root_double : (x : Float) → T (fits binary64 x) → T (fits binary64 (root x))
unfolding root
root_double (fin false (suc m) e) h = (nearest-root m e h).double
root_double (fin false zero e) h = h
root_double (fin true zero e) h = h
root_double (inf false) h = inf-fits binary64 false
root_double (fin true (suc m) e) h = nan-fits binary64
root_double (inf true) h = nan-fits binary64
root_double nan h = nan-fits binary64
