-- Each hypothesis of demand 1, and of demand 2 for arrays and ranges, is met, by computation: calls that hand out a state, accepted and
-- refused, and refused calls of every kind of window. Of each refusal it is worked from the checks alone which number applies first. And
-- what demand 1 shuts out: a later number, and a refusal that changes what is lent. Assumes nothing.
use Prim.Native.Nat.{ℕ, suc, ◌≤◌}
use mathlib.Core.Path.{◌≡◌, refl, ap}
use mathlib.Core.Bool.{true, false}
use mathlib.Core.List.{List, [], ◌∷◌, zip, zip_with}
use mathlib.Core.Logic.{◌⊎◌, inl, inr, ⊎_elim}
use native.Mathlib.Omega.{arith}
use lib.Ieee.{Float, binary64, of_bits, to_bits, of_int, add, sub, mul, div, eq}
use Rattle.float.specs.Operators.{zero64, one64}
use Rattle.float.specs.Tables.{table}
use Rattle.float.proofs.Cases.{apart}
use Rattle.trace.specs.Trace.{Trace, trace_of, valid_at, both_at, valid_from}
use Rattle.trace.specs.Refusals.{refusal, ◌or_else◌, wrong_map}
use Rattle.moment.specs.declared.Figure.TheVariants.{Missing, Present}
use Rattle.moment.specs.Var.{var_new, var_combine, var_clear}
use Rattle.moment.specs.Cov.{cov_new, cov_combine}
use Rattle.moment.specs.Pearson.{pearson_new, pearson_combine}
use Rattle.moment.specs.Skew.{skew_new, skew_combine}
use Rattle.moment.specs.Kurtosis.{kurtosis_new, kurtosis_combine}
use Rattle.moment.specs.Chunks.{chunks, chunks_of, in_chunks}
use Rattle.moment.specs.Arrays.{Answer, answer, answer_number, answer_members}
use Rattle.plan.specs.Plan.{Plan, plan_of}
use Rattle.plan.specs.Bounds.{bounds}
use Rattle.plan.specs.Refusals.{plan_refusal, fixed_refusal, widest}
use Rattle.window.specs.Outputs.{filled, kept}
use Rattle.rolling.specs.Moments.{Variance}
use Rattle.rolling.specs.Calls.{Left, Called}
use Rattle.rolling.specs.Fixed.{CalledFixed}
use Rattle.weighted.specs.Weights.{weights_refusal, CalledWeights}
use Rattle.moments.specs.HostCall.{Host, CalledBytes}
use Rattle.window.specs.Given.{Readings}
use Rattle.moments.specs.Results.{StateResult, FigureResult}
use Rattle.promises.specs.Calls.{of_var, of_skew, of_kurtosis, of_cov, of_pearson, of_skew_range, of_kurtosis_range, CallsArray}
use Rattle.promises.specs.DemandOne.{Check, trace_checks, pair_checks, range_checks, plan_checks, host_checks, fixed_checks, weights_checks}
use Rattle.promises.specs.DemandOne.{OutputShorter, rows_checks, NoneApplies, FirstApplies, Answered}
use Rattle.promises.specs.Rust.{some_rust}
use Rattle.promises.specs.DemandTwo.{source_of}
use Rattle.promises.specs.Table.{variance_by, p7, trace7, p9, trace9}
use Rattle.promises.proofs.DemandOne.{demand_one}
use Rattle.promises.proofs.DemandTwo.{demand_two}
use Rattle.promises.proofs.Examples.{reals, whole}
use Rattle.promises.proofs.Witnesses.{four_column, var_lent, leaves, trace13, p9_left, p9_accepted}

-- ---- traces
-- two readings, and a map of no bytes
abbrev no_bytes : Trace
no_bytes = trace_of (reals (1 ∷ 3 ∷ [])) true []

-- what a state that is lent holds before
abbrev before : List Float
before = reals (7 ∷ 7 ∷ 7 ∷ [])

-- ---- `CallsArray`
-- what a call does, of what it answers
does : {S : Type 0} {list : S → List Float} {a : Answer S} → StateResult list a before (answer_number a) (answer_members list a before)
does = record { number = refl; state = refl }

-- accepted
pub arrays_accepted :
    CallsArray (of_var trace13) before (reals (2 ∷ 2 ∷ 2 ∷ [])) 0
    × CallsArray (of_skew (whole (0 ∷ 0 ∷ 0 ∷ 0 ∷ 5 ∷ []))) before (reals (5 ∷ 1 ∷ 20 ∷ 60 ∷ [])) 0
    × CallsArray (of_kurtosis (whole (0 ∷ 0 ∷ 0 ∷ 0 ∷ 5 ∷ []))) before (reals (5 ∷ 1 ∷ 20 ∷ 60 ∷ 260 ∷ [])) 0
    × CallsArray (of_cov (whole (1 ∷ 3 ∷ [])) (whole (2 ∷ 6 ∷ []))) before (reals (2 ∷ 2 ∷ 4 ∷ 4 ∷ [])) 0
    × CallsArray (of_pearson (whole (1 ∷ 3 ∷ [])) (whole (2 ∷ 6 ∷ []))) before (reals (2 ∷ 2 ∷ 4 ∷ 2 ∷ 4 ∷ 8 ∷ [])) 0
    × CallsArray (of_skew_range (whole (9 ∷ 2 ∷ 4 ∷ 9 ∷ [])) 1 2) before (reals (2 ∷ 3 ∷ 2 ∷ 0 ∷ [])) 0
    × CallsArray (of_kurtosis_range (whole (9 ∷ 2 ∷ 4 ∷ 9 ∷ [])) 1 2) before (reals (2 ∷ 3 ∷ 2 ∷ 0 ∷ 2 ∷ [])) 0
unfolding answer refusal ◌or_else◌ wrong_map valid_from chunks chunks_of in_chunks valid_at both_at zip zip_with of_bits of_int add sub mul
    div eq var_new var_clear var_combine skew_new skew_combine kurtosis_new kurtosis_combine cov_new cov_combine pearson_new pearson_combine
arrays_accepted = (does, does, does, does, does, does, does)

-- demand 2 said of an array, a pair and a range
pub var_sourced : reals (2 ∷ 2 ∷ 2 ∷ []) ≡ source_of some_rust (of_var trace13)
var_sourced = demand_two.arrays some_rust (of_var trace13) before _ arrays_accepted.0

pub cov_sourced : reals (2 ∷ 2 ∷ 4 ∷ 4 ∷ []) ≡ source_of some_rust (of_cov (whole (1 ∷ 3 ∷ [])) (whole (2 ∷ 6 ∷ [])))
cov_sourced = demand_two.arrays some_rust (of_cov (whole (1 ∷ 3 ∷ [])) (whole (2 ∷ 6 ∷ []))) before _ arrays_accepted.3

pub skew_range_sourced : reals (2 ∷ 3 ∷ 2 ∷ 0 ∷ []) ≡ source_of some_rust (of_skew_range (whole (9 ∷ 2 ∷ 4 ∷ 9 ∷ [])) 1 2)
skew_range_sourced = demand_two.arrays some_rust (of_skew_range (whole (9 ∷ 2 ∷ 4 ∷ 9 ∷ [])) 1 2) before _ arrays_accepted.5

-- and refused: by 3, by 2, by 11
pub arrays_refused :
    CallsArray (of_var no_bytes) before before 3
    × CallsArray (of_skew no_bytes) before before 3
    × CallsArray (of_kurtosis no_bytes) before before 3
    × CallsArray (of_cov trace13 (whole (1 ∷ []))) before before 2
    × CallsArray (of_pearson trace13 (whole (1 ∷ []))) before before 2
    × CallsArray (of_skew_range trace13 1 2) before before 11
    × CallsArray (of_kurtosis_range trace13 1 2) before before 11
unfolding answer refusal ◌or_else◌ wrong_map
arrays_refused = (does, does, does, does, does, does, does)

-- `FigureResult`: a figure that is there, and one that is not
pub figure_present : FigureResult (Present one64) 1 one64
figure_present = record { present = refl; double = refl }

pub figure_missing : FigureResult Missing 0 zero64
figure_missing = record { present = refl; double = refl }

-- ---- windows that are refused
-- Rows (1,3), (0,3), (4,2): row 1 starts below row 0, and row 2 starts past its end. 7 is answered, and not 5.
abbrev crooked : Plan
crooked = plan_of (1 ∷ 0 ∷ 4 ∷ []) (3 ∷ 3 ∷ 2 ∷ [])

pub plan_refused : Called (variance_by crooked 1) trace7 (var_lent 12) (var_lent 12) 7
unfolding table refusal ◌or_else◌ wrong_map plan_refusal filled kept
plan_refused = record { number_is = refl; left = leaves refl refl refl refl refl }

-- nine bytes: 14
abbrev nine_bytes : Host Readings
nine_bytes = record { bytes = table (λ i. 0) 9; mapped = false; map = [] }

pub host_refused : CalledBytes (variance_by p7 1) nine_bytes (table (λ i. one64) 4) (table (λ i. one64) 4) (var_lent 12) (var_lent 12) 14
unfolding table refusal ◌or_else◌ wrong_map plan_refusal filled kept
host_refused = record { number_is = refl; readings_are = refl; left = leaves refl refl refl refl refl }

-- window 2 over 1, 3 with a work slice of 7 doubles: 13
pub fixed_refused : CalledFixed false 2 1 (Variance 1) trace13 (var_lent 11) (var_lent 11) 13
unfolding table refusal ◌or_else◌ wrong_map plan_refusal bounds fixed_refusal filled kept
fixed_refused =
    record { number_is = refl; plan_call = record { number_is = refl; left = leaves refl refl refl refl refl } }

-- weights 1, -1: 9
abbrev opposed : List Float
opposed = one64 ∷ of_bits binary64 0xBFF0000000000000 ∷ []

pub weights_refused : CalledWeights false 2 1 opposed trace13 four_column four_column 9
unfolding table refusal ◌or_else◌ wrong_map weights_refusal filled of_bits of_int add eq
weights_refused = record { number_is = refl; column-is = refl }

-- ---- `FirstApplies`, from the checks alone
-- 3 of a whole array, 2 of a pair, 11 of a range
pub three_first : FirstApplies (trace_checks no_bytes) 3
three_first = inr (λ h. omega arith, inl (refl, (refl, omega arith)))

pub two_first : FirstApplies (pair_checks trace13 (whole (1 ∷ []))) 2
two_first = inr (λ h. ⊎_elim (λ g. omega arith) (λ g. omega arith) h, inl (refl, λ h. omega arith))

pub eleven_first : FirstApplies (range_checks trace13 1 2) 11
eleven_first = inr (λ h. omega arith, inr (λ h. apart h.0, inl (refl, omega arith)))

-- 7 of the crooked plan: nothing of row 0 applies, and of row 1 only 7
pub seven_first : FirstApplies (plan_checks (variance_by crooked 1) trace7 (var_lent 12)) 7
unfolding rows_checks
seven_first =
    inr (
      λ h. omega arith,
      inr (
        λ h. apart h.0,
        inr (
          λ h. ⊎_elim (λ g. g refl) (λ g. omega arith) h,
          inr (
            λ h. omega arith,
            inr (
              λ h. omega arith,
              inr (
                λ h. h,
                inr (λ h. omega arith, inr (λ h. omega arith, inl (refl, inl (omega arith)))),
              ),
            ),
          ),
        ),
      ),
    )

-- Rows (1,3), (2,1): row 1 starts past its end, and ends below row 0. 5 is first.
abbrev backwards : Plan
backwards = plan_of (1 ∷ 2 ∷ []) (3 ∷ 1 ∷ [])

pub five_first : FirstApplies (plan_checks (variance_by backwards 1) trace7 (var_lent 12)) 5
unfolding rows_checks
five_first =
    inr (
      λ h. omega arith,
      inr (
        λ h. apart h.0,
        inr (
          λ h. ⊎_elim (λ g. g refl) (λ g. omega arith) h,
          inr (λ h. omega arith, inr (λ h. omega arith, inr (λ h. h, inl (refl, omega arith)))),
        ),
      ),
    )

-- 14 of nine bytes, 13 of the work slice, 9 of the weights
pub fourteen_first : FirstApplies (host_checks (variance_by p7 1) nine_bytes (table (λ i. one64) 4) (var_lent 12)) 14
unfolding table
fourteen_first = inl (refl, λ h. omega arith)

-- none of the six lists of four places is shorter than so many rows
none_short : (n : ℕ) → OutputShorter (var_lent 0).outputs n → n ≤ 4 → ⊥
unfolding table
none_short n h k =
    ⊎_elim (λ a. omega arith)
    (⊎_elim (λ a. omega arith)
    (⊎_elim (λ a. omega arith)
    (⊎_elim (λ a. omega arith) (⊎_elim (λ a. omega arith) (⊎_elim (λ a. omega arith) (λ a. a))))))
    h

pub thirteen_first : FirstApplies (fixed_checks 2 (Variance 1) trace13 (var_lent 11)) 13
unfolding table
thirteen_first =
    inr (
      λ h. omega arith,
      inr (
        λ h. apart h.0,
        inr (λ h. none_short 2 h (omega arith), inl (refl, omega arith)),
      ),
    )

pub nine_first : FirstApplies (weights_checks 2 opposed trace13 four_column) 9
unfolding of_bits add eq
nine_first = inr (λ h. omega arith, inr (λ h. apart h.0, inr (λ h. apart h, inl (refl, refl))))

-- `NoneApplies`: P9 with minimum 2
pub none_apply : NoneApplies (plan_checks (variance_by p9 2) trace9 (var_lent 18))
unfolding rows_checks table widest
none_apply = (
  λ h. omega arith,
  (
    λ h. omega (arith, h.1),
    (
      λ h. ⊎_elim (λ g. g refl) (λ g. omega arith) h,
      (
        λ h. omega arith,
        (
          λ h. omega arith,
          (
            λ h. h,
            (λ h. none_short 1 h (omega arith), (λ h. omega arith, tt)),
          ),
        ),
      ),
    ),
  ),
)

-- demand 1 said of a call that is accepted, and of one that is refused
pub p9_answered : Answered (plan_checks (variance_by p9 2) trace9 (var_lent 18)) 0 (var_lent 18) p9_left
    (Left (variance_by p9 2) trace9 (var_lent 18) p9_left 0)
p9_answered = demand_one.plans (variance_by p9 2) trace9 (var_lent 18) p9_left 0 p9_accepted

pub crooked_answered : Answered (plan_checks (variance_by crooked 1) trace7 (var_lent 12)) 7 (var_lent 12) (var_lent 12)
    (Left (variance_by crooked 1) trace7 (var_lent 12) (var_lent 12) 0)
crooked_answered = demand_one.plans (variance_by crooked 1) trace7 (var_lent 12) (var_lent 12) 7 plan_refused

-- ---- the checks of each kind, by their numbers
abbrev numbers_of : List Check → List ℕ
numbers_of [] = []
numbers_of (c ∷ checks) = c.number ∷ numbers_of checks

pub trace_numbers : numbers_of (trace_checks trace7) ≡ 1 ∷ 3 ∷ []
trace_numbers = refl

pub pair_numbers : numbers_of (pair_checks trace7 trace7) ≡ 1 ∷ 2 ∷ 3 ∷ []
pair_numbers = refl

pub range_numbers : numbers_of (range_checks trace7 0 0) ≡ 1 ∷ 3 ∷ 11 ∷ []
range_numbers = refl

-- of a plan of two rows
abbrev two_rows : Plan
two_rows = plan_of (0 ∷ 0 ∷ []) (0 ∷ 0 ∷ [])

pub plan_numbers : numbers_of (plan_checks (variance_by two_rows 1) trace7 (var_lent 12)) ≡ 1 ∷ 3 ∷ 4 ∷ 5 ∷ 6 ∷ 7 ∷ 5 ∷ 6 ∷ 7 ∷ 12 ∷ 13 ∷ []
unfolding rows_checks
plan_numbers = refl

-- of a host call with an empty plan
pub host_numbers : numbers_of (host_checks (variance_by (plan_of [] []) 1) nine_bytes [] (var_lent 12)) ≡ 14 ∷ 1 ∷ 3 ∷ 4 ∷ 12 ∷ 13 ∷ []
unfolding rows_checks
host_numbers = refl

pub fixed_numbers : numbers_of (fixed_checks 2 (Variance 1) trace7 (var_lent 12)) ≡ 1 ∷ 3 ∷ 12 ∷ 13 ∷ []
fixed_numbers = refl

pub weights_numbers : numbers_of (weights_checks 2 opposed trace7 four_column) ≡ 1 ∷ 3 ∷ 8 ∷ 9 ∷ 10 ∷ 12 ∷ []
weights_numbers = refl

-- ---- what the demand shuts out
-- 5 of the crooked plan: it applies to row 2, and 7 to row 1 before
pub five_not_first : FirstApplies (plan_checks (variance_by crooked 1) trace7 (var_lent 12)) 5 → ⊥
unfolding rows_checks
five_not_first (inl (e, a)) = omega arith
five_not_first (inr (_, inl (e, a))) = omega arith
five_not_first (inr (_, inr (_, inl (e, a)))) = omega arith
five_not_first (inr (_, inr (_, inr (_, inl (e, a))))) = omega arith
five_not_first (inr (_, inr (_, inr (_, inr (_, inl (e, a)))))) = omega arith
five_not_first (inr (_, inr (_, inr (_, inr (_, inr (_, inl (e, a))))))) = omega arith
five_not_first (inr (_, inr (_, inr (_, inr (_, inr (_, inr (_, inl (e, a)))))))) = omega arith
five_not_first (inr (_, inr (_, inr (_, inr (_, inr (_, inr (_, inr (_, inl (e, a))))))))) = omega arith
five_not_first (inr (_, inr (_, inr (_, inr (_, inr (_, inr (_, inr (_, inr (_, inl (e, a)))))))))) = omega arith
five_not_first (inr (_, inr (_, inr (_, inr (_, inr (_, inr (_, inr (_, inr (_, inr (not, _)))))))))) = not (inl (omega arith))

-- without 'nothing earlier does' it would do as well as 7
abbrev Applies : List Check → ℕ → Type 0
Applies [] number = ⊥
Applies (c ∷ checks) number = ((number ≡ c.number) × c.Applies) ⊎ Applies checks number

pub five_applies : Applies (plan_checks (variance_by crooked 1) trace7 (var_lent 12)) 5
unfolding rows_checks
five_applies = inr (inr (inr (inr (inr (inr (inr (inr (inr (inl (refl, omega arith))))))))))

-- a refusal that leaves 8 where 7 stood
pub refusal_keeps : (Answer : Type 0) → Answered (trace_checks no_bytes) 3 before (reals (8 ∷ 7 ∷ 7 ∷ [])) Answer → ⊥
unfolding of_int to_bits
refusal_keeps Answer a =
    let bits : ◌≡◌ {A = ℕ} 0x4020000000000000 0x401C000000000000 = ap first_bits (a.unchanged (λ z. omega arith)) in
    omega arith
  where
    first_bits : List Float → ℕ
    first_bits [] = 0
    first_bits (x ∷ l) = to_bits binary64 x

-- a refusal of what no number applies to
pub no_refusal_lem : (number : ℕ) → (before after : List Float) (Answer : Type 0) → Answered [] (suc number) before after Answer → ⊥
no_refusal_lem number before after Answer a = a.refused (λ z. omega arith)
