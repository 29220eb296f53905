-- Facts of floats that no code needs any more: the test of finiteness by a difference, what differs from itself, and the root of NaN.
-- Assumes nothing.
use mathlib.Core.Path.{◌≡◌, refl, sym, ap, ◌∙◌, subst}
use Prim.Native.Nat.{ℕ, ◌-◌, ◌*◌, ◌<◌}
use native.Mathlib.Nat.{mul-pos}
use native.Mathlib.Omega.{arith}
use mathlib.Core.Bool.{Bool, true, false, not, cond}
use lib.IntN.{pos}
use lib.Dec.{T, ltb, ltb→lt}
use lib.Ieee.{Float, nan, inf, fin, binary64, up, down, round, sum, add, sub, neg, eq, ne, is_nan}
use lib.Ieee.Compare.{nan_differs}
use lib.Ieee.Fits.{down_pos}
use lib.Ieee.Scale.{finite}
use Rattle.float.specs.Operators.{◌⊖◌, zero64}
use Rattle.float.proofs.Booleans.{bool_same}
use Rattle.float.proofs.Finiteness.{plus_zero, zero_fin, round-zero}
use Rattle.root.specs.Root.{root}

not_below_itself : (a : ℕ) → ltb a a ≡ false
not_below_itself a = bool_same (ltb a a) false (λ t. let h : a < a = ltb→lt a a t in omega arith) (λ t. absurd t)

less_itself : (a : ℕ) → a - a ≡ 0
less_itself a = omega arith

is_zero : (s : Bool) → eq (fin s 0 (pos 0)) plus_zero ≡ true
unfolding eq
is_zero true = refl
is_zero false = refl

-- a number and its opposite
sum_opposite : (s : Bool) (a c : ℕ) → 0 < c → eq (sum binary64 s a (not s) a c) plus_zero ≡ true
unfolding sum
sum_opposite true a c C =
    ap (λ (b : Bool). eq (cond b (round binary64 false (a - a) c) (round binary64 b (a - a) c)) plus_zero) (not_below_itself a)
    ∙ ap (λ (k : ℕ). eq (round binary64 false k c) plus_zero) (less_itself a)
    ∙ ap (λ (v : Float). eq v plus_zero) (round-zero false c C)
    ∙ is_zero false
sum_opposite false a c C =
    ap (λ (b : Bool). eq (cond b (round binary64 true (a - a) c) (round binary64 false (a - a) c)) plus_zero) (not_below_itself a)
    ∙ ap (λ (k : ℕ). eq (round binary64 false k c) plus_zero) (less_itself a)
    ∙ ap (λ (v : Float). eq v plus_zero) (round-zero false c C)
    ∙ is_zero false

by_cases : (x : Float) → eq (sub binary64 x x) plus_zero ≡ finite x
unfolding sub add neg eq
by_cases nan = refl
by_cases (inf true) = refl
by_cases (inf false) = refl
by_cases (fin s m e) = sum_opposite s (m * up e * down e) (down e * down e) (mul-pos (down_pos e) (down_pos e))

pub finite_test : (x : Float) → eq (x ⊖ x) zero64 ≡ finite x
finite_test x = rw zero_fin (by_cases x)

-- a float that does not differ from itself is no NaN
pub no_nan : (x : Float) → ne x x ≡ false → T (not (is_nan x))
unfolding is_nan
no_nan nan e = absurd (subst T e (subst T (sym nan_differs) tt))
no_nan (inf s) e = tt
no_nan (fin s m k) e = tt

pub nan_none : (x : Float) → x ≡ nan → root x ≡ nan
nan_none x e = ap root e ∙ unfold root in refl
