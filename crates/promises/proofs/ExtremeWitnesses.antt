-- The lowest and highest reading, computed: calls with every list written out, and each hypothesis of the statement met. Assumes nothing.
use Prim.Native.Nat.{ℕ}
use mathlib.Core.Path.{◌≡◌, refl}
use mathlib.Core.Bool.{true, false}
use mathlib.Core.List.{List, [], ◌∷◌}
use native.Mathlib.Omega.{arith}
use lib.IntN.{negsuc}
use lib.Ieee.{Float, nan, inf, binary64, of_bits, of_int, add, sub, mul, div, eq, lt, le, fits}
use Rattle.float.specs.Operators.{zero64, one64, two64, of_nat64}
use Rattle.float.specs.Tables.{table}
use Rattle.trace.specs.Trace.{Trace, trace_of, valid_at}
use Rattle.trace.specs.Refusals.{refusal, ◌or_else◌, wrong_map}
use Rattle.moment.specs.Var.{var_clear, var_combine, var_finalize}
use Rattle.plan.specs.Plan.{Plan, plan_of}
use Rattle.plan.specs.Refusals.{plan_refusal}
use Rattle.window.specs.Places.{entries_from}
use Rattle.window.specs.Window.{split_after, figure_of}
use Rattle.window.specs.Readings.{inserted_at, nonfinite_at}
use Rattle.window.specs.Rows.{answer_at}
use Rattle.window.specs.Extremes.{unsigned_zero, extreme, extreme_of}
use Rattle.window.specs.Outputs.{Column, Lent, column, outputs_of, filled, kept}
use Rattle.rolling.specs.Moments.{Variance}
use Rattle.rolling.specs.Calls.{query, Called}
use Rattle.promises.specs.Calls.{extremes_in, plan_call}
use Rattle.promises.specs.LowestHighest.{FiniteIn, Short, ExtremesIn}
use Rattle.promises.specs.Table.{variance_by, p7, trace7, p9, trace9}
use Rattle.promises.proofs.LowestHighest.{lowest_highest}
use Rattle.promises.proofs.Witnesses.{var_lent, leaves, other7, alike7, agree7}

-- the three columns that a call leaves, and its work slice
abbrev three_left : ℕ → Column → Column → Column → Lent
three_left work v l h = record { outputs = outputs_of (v ∷ l ∷ h ∷ []) []; work = table (λ i. zero64) work }

-- whole numbers as doubles
abbrev whole : ℕ → ℕ → ℕ → ℕ → List Float
whole a b c d = of_nat64 a ∷ of_nat64 b ∷ of_nat64 c ∷ of_nat64 d ∷ []

-- ---- P7: given also where the variance is missing since the count is ddof, and the place past the last row keeps its contents
abbrev p7_extremes : Lent
p7_extremes =
    three_left 12 (column (two64 ∷ two64 ∷ zero64 ∷ one64 ∷ []) (1 ∷ 1 ∷ 0 ∷ 7 ∷ [])) (column (whole 2 4 8 1) (1 ∷ 1 ∷ 1 ∷ 7 ∷ []))
    (column (whole 4 6 8 1) (1 ∷ 1 ∷ 1 ∷ 7 ∷ []))

pub p7_extremes_lem : Called (variance_by p7 1) trace7 (var_lent 12) p7_extremes 0
unfolding table refusal ◌or_else◌ wrong_map plan_refusal filled kept of_bits of_int add sub mul div eq lt le var_clear var_combine var_finalize
    entries_from split_after figure_of inserted_at nonfinite_at answer_at valid_at extreme extreme_of
p7_extremes_lem = record { number_is = refl; left = leaves refl refl refl refl refl }

-- ---- without a map and with minimum 3 each row of P7 is short, row 0 too: nothing is shown, though row 0 has moved the window
abbrev short_extremes : Lent
short_extremes = let none = column (zero64 ∷ zero64 ∷ zero64 ∷ one64 ∷ []) (0 ∷ 0 ∷ 0 ∷ 7 ∷ []) in three_left 12 none none none

pub short_extremes_lem : Called (variance_by p7 3) trace7 (var_lent 12) short_extremes 0
unfolding table refusal ◌or_else◌ wrong_map plan_refusal filled kept of_bits of_int add sub mul div eq lt le var_clear var_combine var_finalize
    entries_from split_after figure_of inserted_at nonfinite_at answer_at valid_at extreme extreme_of
short_extremes_lem = record { number_is = refl; left = leaves refl refl refl refl refl }

-- ---- P9 with minimum 3: with a map they are given below the minimum
abbrev p9_extremes : Lent
p9_extremes =
    three_left 18 (column (zero64 ∷ one64 ∷ one64 ∷ one64 ∷ []) (0 ∷ 7 ∷ 7 ∷ 7 ∷ [])) (column (whole 2 1 1 1) (1 ∷ 7 ∷ 7 ∷ 7 ∷ []))
    (column (whole 4 1 1 1) (1 ∷ 7 ∷ 7 ∷ 7 ∷ []))

pub p9_extremes_lem : Called (variance_by p9 3) trace9 (var_lent 18) p9_extremes 0
unfolding table refusal ◌or_else◌ wrong_map plan_refusal filled kept of_bits of_int add sub mul div eq lt le var_clear var_combine var_finalize
    entries_from split_after figure_of inserted_at nonfinite_at answer_at valid_at extreme extreme_of
p9_extremes_lem = record { number_is = refl; left = leaves refl refl refl refl refl }

-- ---- 5, NaN, 3, -0.0, plus infinity, -2. Row 0 does not show the 0.0 of its NaN; row 1 has a NaN alone; row 2 shows -0.0 as +0.0; row 3
-- shows neither the infinity nor a reading that has left
abbrev bad_trace : Trace
bad_trace =
    trace_of (of_nat64 5 ∷ nan ∷ of_nat64 3 ∷ of_bits binary64 0x8000000000000000 ∷ inf false ∷ of_int binary64 (negsuc 1) ∷ []) false []

abbrev bad_rows : Plan
bad_rows = plan_of (0 ∷ 1 ∷ 2 ∷ 4 ∷ []) (2 ∷ 2 ∷ 4 ∷ 6 ∷ [])

abbrev bad_extremes : Lent
bad_extremes =
    three_left 12 (column (nan ∷ nan ∷ of_bits binary64 0x4002000000000000 ∷ nan ∷ []) (1 ∷ 1 ∷ 1 ∷ 1 ∷ []))
    (column (of_nat64 5 ∷ zero64 ∷ zero64 ∷ of_int binary64 (negsuc 1) ∷ []) (1 ∷ 0 ∷ 1 ∷ 1 ∷ []))
    (column (of_nat64 5 ∷ zero64 ∷ of_nat64 3 ∷ of_int binary64 (negsuc 1) ∷ []) (1 ∷ 0 ∷ 1 ∷ 1 ∷ []))

pub bad_extremes_lem : Called (query bad_rows 1 (Variance 0)) bad_trace (var_lent 12) bad_extremes 0
unfolding table refusal ◌or_else◌ wrong_map plan_refusal filled kept of_bits of_int add sub mul div eq lt le var_clear var_combine var_finalize
    entries_from split_after figure_of inserted_at nonfinite_at answer_at valid_at extreme extreme_of
bad_extremes_lem = record { number_is = refl; left = leaves refl refl refl refl refl }

-- ---- the hypotheses of the statement
-- `one`, of a row that is not the first
pub row_of_two : ExtremesIn bad_trace bad_rows 1 2 bad_extremes
row_of_two = lowest_highest.one (query bad_rows 1 (Variance 0)) bad_trace bad_extremes (plan_call bad_extremes_lem) 2 (omega arith)

-- `FiniteIn`: reading 3 of the bad trace, -0.0, in row 2's window
pub third : FiniteIn bad_trace 2 4 3
unfolding valid_at of_bits
third = record { from = omega arith; below = omega arith; valid = refl; is_finite = refl }

-- `Short`
pub short_row : Short trace7 0 2 3
short_row = record { without = refl; shorter = omega arith }

-- `two`: P7's trace with another first reading, which row 0 alone sees
abbrev other_extremes : Lent
other_extremes =
    three_left 12 (column (of_bits binary64 0x4029000000000000 ∷ two64 ∷ zero64 ∷ one64 ∷ []) (1 ∷ 1 ∷ 0 ∷ 7 ∷ []))
    (column (whole 4 4 8 1) (1 ∷ 1 ∷ 1 ∷ 7 ∷ [])) (column (whole 9 6 8 1) (1 ∷ 1 ∷ 1 ∷ 7 ∷ []))

pub other_extremes_lem : Called (variance_by p7 1) other7 (var_lent 12) other_extremes 0
unfolding table refusal ◌or_else◌ wrong_map plan_refusal filled kept of_bits of_int add sub mul div eq lt le var_clear var_combine var_finalize
    entries_from split_after figure_of inserted_at nonfinite_at answer_at valid_at extreme extreme_of
other_extremes_lem = record { number_is = refl; left = leaves refl refl refl refl refl }

pub same_second : extremes_in (Variance 1) p7_extremes 1 ≡ extremes_in (Variance 1) other_extremes 1
same_second =
    lowest_highest.two (variance_by p7 1) trace7 other7 p7_extremes other_extremes alike7 (plan_call p7_extremes_lem) (plan_call other_extremes_lem) 1
    (omega arith) agree7

-- `unsigned`: -0.0 and -2, which are doubles
pub unsigned_zero_lem : unsigned_zero (of_bits binary64 0x8000000000000000) ≡ zero64
unfolding of_bits add
unsigned_zero_lem = refl

pub unsigned_minus : unsigned_zero (of_int binary64 (negsuc 1)) ≡ of_int binary64 (negsuc 1)
unfolding of_bits of_int add
unsigned_minus = refl

pub minus_fits : fits binary64 (of_int binary64 (negsuc 1)) ≡ true
unfolding of_int fits
minus_fits = refl
