-- A float that is replaced by 0.0 where it is below zero is NaN or at least zero. Assumes nothing.
use mathlib.Core.Path.{◌≡◌, sym, ap, ◌∙◌, subst}
use Prim.Native.Nat.{ℕ, ◌+◌, ◌*◌, ◌≤◌}
use native.Mathlib.Nat.{zero-mul}
use native.Mathlib.Omega.{arith}
use mathlib.Core.Bool.{and-true, Bool, true, false, not, ◌&&◌, ◌||◌, cond}
use lib.IntN.{ℤ}
use lib.Dec.{T, ltb, eqb, le→leb, nltb→le, eqb_refl}
use lib.Ieee.{Float, nan, inf, fin, up, down, is_nan, lt, le}
use Rattle.float.specs.Operators.{zero64}
use lib.Ieee.Fits.{and_i}
use Rattle.float.proofs.Counts.{or_leb}
use Rattle.float.proofs.Finiteness.{plus_zero, zero_fin}

-- a value that is not replaced
kept : (b : Bool) (s : Bool) (m : ℕ) (e : ℤ) → (T (not b) → T (le plus_zero (fin s m e)))
    → T (is_nan (cond b plus_zero (fin s m e)) || le plus_zero (cond b plus_zero (fin s m e)))
unfolding is_nan le
kept true s m e h = tt
kept false s m e h = h tt

by_cases : (v : Float) → T (is_nan (cond (lt v plus_zero) plus_zero v) || le plus_zero (cond (lt v plus_zero) plus_zero v))
unfolding is_nan le lt
by_cases nan = tt
by_cases (inf true) = tt
by_cases (inf false) = tt
by_cases (fin false m e) =
    let x = m * up e * 1 in
    let y = 0 * 1 * down e in
    kept (ltb x y) false m e
    (λ _. subst (λ (k : ℕ). T (ltb k x || (eqb k x && (true || eqb k 0)))) (sym (zero-mul (down e))) (subst T (sym (ap (λ (q : Bool). ltb 0 x || q) (and-true (eqb 0 x)) ∙ or_leb 0 x)) (le→leb 0 x (omega arith))))
by_cases (fin true m e) =
    let x = m * up e * 1 in
    let y = 0 * 1 * down e in
    kept (ltb 0 (x + y)) true m e
    (λ n. subst (λ (k : ℕ). T (false || (eqb k x && (false || eqb k 0)))) (sym (zero-mul (down e)))
    (and_i (eqb 0 x) true (let h : x + y ≤ 0 = nltb→le 0 (x + y) n in let e : 0 ≡ x = omega arith in subst (λ (k : ℕ). T (eqb 0 k)) e (eqb_refl 0)) tt))

-- what is left where values below zero are replaced
pub nan_or_at_least_zero : (v : Float) → T (is_nan (cond (lt v zero64) zero64 v) || le zero64 (cond (lt v zero64) zero64 v))
nan_or_at_least_zero v = rw zero_fin (by_cases v)
