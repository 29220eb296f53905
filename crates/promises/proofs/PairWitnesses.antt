-- Document 02, request 2, by computation: figures of two traces that tell readings of the paper apart; each hypothesis of the statement for
-- pairs of traces met, by calls of every kind and of both figures; and what would be said too much: where a hypothesis is left out or
-- weakened, two accepted calls give other bits. Assumes nothing.
use Prim.Native.Nat.{ℕ, zero, suc, ◌≤◌, ◌<◌}
use mathlib.Core.Path.{◌≡◌, refl, sym, ap}
use mathlib.Core.Bool.{true, false}
use mathlib.Core.List.{List, [], ◌∷◌, ◌++◌}
use mathlib.Core.Logic.{inl, inr, ⊎_elim}
use native.Mathlib.Omega.{arith}
use lib.ListN.{length}
use lib.Ieee.{Float, nan, inf, binary64, of_bits, to_bits, of_int, add, sub, mul, div, eq, lt, le}
use Rattle.float.specs.Operators.{zero64, one64, two64, of_nat64}
use Rattle.float.specs.Tables.{table}
use Rattle.float.proofs.Cases.{apart}
use Rattle.root.specs.Root.{root}
use Rattle.trace.specs.Trace.{Trace, trace_of, valid_at, both_at}
use Rattle.trace.specs.Refusals.{refusal, ◌or_else◌, wrong_map}
use Rattle.moment.specs.declared.cov_state.CovState.{CovState}
use Rattle.moment.specs.Cov.{cov_empty, cov_new, cov_combine, cov_finalize}
use Rattle.moment.specs.Pearson.{pearson_empty, pearson_new, pearson_combine, pearson_finalize}
use Rattle.moment.specs.Arrays.{cov_list, pearson_list}
use Rattle.plan.specs.Plan.{Plan, plan_of, rows, row_start, row_end}
use Rattle.plan.specs.Bounds.{bounds}
use Rattle.plan.specs.Refusals.{plan_refusal, fixed_refusal}
use Rattle.window.specs.Places.{valid_count, entries_from}
use Rattle.window.specs.Window.{split_after, figure_of}
use Rattle.window.specs.Readings.{reading_of}
use Rattle.window.specs.Pairs.{TracePair, inserted_pair, nonfinite_pair}
use Rattle.window.specs.Given.{Pairs, Given, series_of}
use Rattle.window.specs.Rows.{answer_at}
use Rattle.window.specs.Outputs.{Lent, filled, kept, answers_in}
use Rattle.rolling.specs.Moments.{Covariance, Correlation, covariance, correlation}
use Rattle.rolling.specs.Calls.{Query, query, Called}
use Rattle.rolling.specs.Fixed.{CalledFixed}
use Rattle.moments.specs.HostCall.{Host, CalledBytes}
use Rattle.promises.specs.Calls.{figures_in, AcceptedCall, plan_call, host_call, fixed_call}
use Rattle.promises.specs.DemandOne.{plan_checks, host_checks, fixed_checks, rows_checks, FirstApplies, Answered, HostLeft}
use Rattle.promises.specs.DemandThree.{Alike, Agree, TooFew, SomeNotFinite, FigureRow}
use Rattle.promises.specs.TwoTraces.{PairFigureIn, PairYielded}
use Rattle.promises.specs.Maps.{padded, SameGiven, SameHost, SameRows}
use Rattle.promises.specs.Table.{p7}
use Rattle.promises.proofs.Spans.{each_place}
use Rattle.promises.proofs.DemandOne.{demand_one}
use Rattle.promises.proofs.TwoTraces.{pair_statement}
use Rattle.promises.proofs.Maps.{map_law}
use Rattle.promises.proofs.FigureRows.{missing_row}
use Rattle.promises.proofs.Examples.{reals, whole}
use Rattle.promises.proofs.Witnesses.{four_lent, four_left, leaves, first_bits, answer}

-- ---- two traces
abbrev both : Trace → Trace → TracePair
both x y = record { x = x; y = y }

-- whole numbers, with a map of one byte
abbrev mapped : List ℕ → ℕ → Trace
mapped l byte = trace_of (reals l) true (byte ∷ [])

abbrev covariance_by : Plan → ℕ → ℕ → Query
covariance_by p min_periods ddof = query p min_periods (Covariance ddof)

abbrev correlation_by : Plan → ℕ → Query
correlation_by p min_periods = query p min_periods Correlation

-- ---- states: "inserting a pair is combining the state, as the first, with the one `new` makes of that pair"
abbrev minus_zero : Float
minus_zero = of_bits binary64 0x8000000000000000

-- a first pair of -0.0: what `new` makes of it is copied, and its means are +0.0
pub minus_zero_first : cov_list (covariance.insert cov_empty (minus_zero, minus_zero)) ≡ reals (1 ∷ 0 ∷ 0 ∷ 0 ∷ [])
unfolding of_bits of_int add sub mul div eq cov_new cov_combine
minus_zero_first = refl

pub minus_zero_correlated : pearson_list (correlation.insert pearson_empty (minus_zero, minus_zero)) ≡ reals (1 ∷ 0 ∷ 0 ∷ 0 ∷ 0 ∷ 0 ∷ [])
unfolding of_bits of_int add sub mul div eq pearson_new pearson_combine
minus_zero_correlated = refl

-- so a first pair's mean need not have the reading's bits
pub first_mean_not_copied : ((p : Float × Float) → (covariance.insert cov_empty p).mean_x ≡ p.0) → ⊥
unfolding of_bits to_bits of_int add sub mul div eq cov_new cov_combine
first_mean_not_copied all =
    let bits : ◌≡◌ {A = ℕ} 0 0x8000000000000000 = ap (to_bits binary64) (all (minus_zero, minus_zero)) in
    omega arith

-- "as the first": 0,0 and 1,0 and 1,1 in this order, and with the state as the other
abbrev three_pairs : (CovState → Float × Float → CovState) → CovState
three_pairs insert = insert (insert (insert cov_empty (zero64, zero64)) (one64, zero64)) (one64, one64)

pub state_first : to_bits binary64 (three_pairs covariance.insert).dp_xy ≡ 0x3FD5555555555556
unfolding of_bits to_bits of_int add sub mul div eq cov_new cov_combine
state_first = refl

pub state_second : to_bits binary64 (three_pairs (λ s p. cov_combine (cov_new (p ∷ [])) s)).dp_xy ≡ 0x3FD5555555555558
unfolding of_bits to_bits of_int add sub mul div eq cov_new cov_combine
state_second = refl

-- ---- 2, 4, 6, 8 and 1, 5, 7, 9 over P7's rows (0,2), (1,3), (3,4)
abbrev pair7 : TracePair
pair7 = both (whole (2 ∷ 4 ∷ 6 ∷ 8 ∷ [])) (whole (1 ∷ 5 ∷ 7 ∷ 9 ∷ []))

-- "Covariance is missing when the valid count is at most ddof": row 2's count is ddof ..
abbrev cov7_left : Lent
cov7_left = four_left 12 (of_nat64 4 ∷ two64 ∷ zero64 ∷ one64 ∷ []) (1 ∷ 1 ∷ 0 ∷ 7 ∷ [])

pub cov7_accepted : Called (covariance_by p7 1 1) pair7 (four_lent 12) cov7_left 0
unfolding table refusal ◌or_else◌ wrong_map plan_refusal filled kept of_bits of_int add sub mul div eq le cov_new cov_combine cov_finalize
    entries_from split_after figure_of inserted_pair nonfinite_pair answer_at valid_at both_at
cov7_accepted = record { number_is = refl; left = leaves refl refl refl refl refl }

-- .. and one above it
abbrev cov7_zero : Lent
cov7_zero = four_left 12 (two64 ∷ one64 ∷ zero64 ∷ one64 ∷ []) (1 ∷ 1 ∷ 1 ∷ 7 ∷ [])

pub cov7_zero_accepted : Called (covariance_by p7 1 0) pair7 (four_lent 12) cov7_zero 0
unfolding table refusal ◌or_else◌ wrong_map plan_refusal filled kept of_bits of_int add sub mul div eq le cov_new cov_combine cov_finalize
    entries_from split_after figure_of inserted_pair nonfinite_pair answer_at valid_at both_at
cov7_zero_accepted = record { number_is = refl; left = leaves refl refl refl refl refl }

-- correlation, "when it is 0": of row 2's one pair it is present, and NaN
abbrev corr7_left : Lent
corr7_left = four_left 16 (one64 ∷ one64 ∷ nan ∷ one64 ∷ []) (1 ∷ 1 ∷ 1 ∷ 7 ∷ [])

pub corr7_accepted : Called (correlation_by p7 1) pair7 (four_lent 16) corr7_left 0
unfolding table refusal ◌or_else◌ wrong_map plan_refusal filled kept of_bits of_int add sub mul div eq lt root pearson_new pearson_combine
    pearson_finalize entries_from split_after figure_of inserted_pair nonfinite_pair answer_at valid_at both_at
corr7_accepted = record { number_is = refl; left = leaves refl refl refl refl refl }

-- nor is it clipped: of 0, 0, 1 and 0, 0, 5 it is rounded to the double after 1
pub above_one_accepted : Called (correlation_by (plan_of (0 ∷ []) (3 ∷ [])) 1) (both (whole (0 ∷ 0 ∷ 1 ∷ [])) (whole (0 ∷ 0 ∷ 5 ∷ [])))
    (four_lent 24) (four_left 24 (of_bits binary64 0x3FF0000000000001 ∷ reals (1 ∷ 1 ∷ 1 ∷ [])) (1 ∷ 7 ∷ 7 ∷ 7 ∷ [])) 0
unfolding table refusal ◌or_else◌ wrong_map plan_refusal filled kept of_bits of_int add sub mul div eq lt root pearson_new pearson_combine
    pearson_finalize entries_from split_after figure_of inserted_pair nonfinite_pair answer_at valid_at both_at
above_one_accepted = record { number_is = refl; left = leaves refl refl refl refl refl }

-- "the minimum applies to both": a minimum of 3 is above every row's count
pub cov7_minimum : Called (covariance_by p7 3 0) pair7 (four_lent 12) (four_left 12 (reals (0 ∷ 0 ∷ 0 ∷ 1 ∷ [])) (0 ∷ 0 ∷ 0 ∷ 7 ∷ [])) 0
unfolding table refusal ◌or_else◌ wrong_map plan_refusal filled kept of_bits of_int add sub mul div eq le cov_new cov_combine cov_finalize
    entries_from split_after figure_of inserted_pair nonfinite_pair answer_at valid_at both_at
cov7_minimum = record { number_is = refl; left = leaves refl refl refl refl refl }

pub corr7_minimum : Called (correlation_by p7 3) pair7 (four_lent 16) (four_left 16 (reals (0 ∷ 0 ∷ 0 ∷ 1 ∷ [])) (0 ∷ 0 ∷ 0 ∷ 7 ∷ [])) 0
unfolding table refusal ◌or_else◌ wrong_map plan_refusal filled kept of_bits of_int add sub mul div eq lt root pearson_new pearson_combine
    pearson_finalize entries_from split_after figure_of inserted_pair nonfinite_pair answer_at valid_at both_at
corr7_minimum = record { number_is = refl; left = leaves refl refl refl refl refl }

-- an empty row with minimum 0: a count of 0 is at most 0
abbrev empty_row : Plan
empty_row = plan_of (0 ∷ []) (0 ∷ [])

abbrev none_left : Lent
none_left = four_left 0 (reals (0 ∷ 1 ∷ 1 ∷ 1 ∷ [])) (0 ∷ 7 ∷ 7 ∷ 7 ∷ [])

pub cov_of_none : Called (covariance_by empty_row 0 0) pair7 (four_lent 0) none_left 0
unfolding table refusal ◌or_else◌ wrong_map plan_refusal filled kept of_bits of_int add sub mul div eq le cov_new cov_combine cov_finalize
    entries_from split_after figure_of inserted_pair nonfinite_pair answer_at valid_at both_at
cov_of_none = record { number_is = refl; left = leaves refl refl refl refl refl }

pub corr_of_none : Called (correlation_by empty_row 0) pair7 (four_lent 0) none_left 0
unfolding table refusal ◌or_else◌ wrong_map plan_refusal filled kept of_bits of_int add sub mul div eq lt root pearson_new pearson_combine
    pearson_finalize entries_from split_after figure_of inserted_pair nonfinite_pair answer_at valid_at both_at
corr_of_none = record { number_is = refl; left = leaves refl refl refl refl refl }

-- ---- "A pair with a non-finite member enters as (0.0, 0.0) and makes a present figure NaN"
-- (NaN, 5), (2, 2), (4, 6) and (3, inf), (2, 2), (4, 6)
abbrev nan_first : TracePair
nan_first = both (trace_of (nan ∷ reals (2 ∷ 4 ∷ [])) false []) (whole (5 ∷ 2 ∷ 6 ∷ []))

abbrev inf_second : TracePair
inf_second = both (whole (3 ∷ 2 ∷ 4 ∷ [])) (trace_of (inf false ∷ reals (2 ∷ 6 ∷ [])) false [])

-- the good member is replaced too
pub five_replaced : (series_of Pairs nan_first).entry 0 ≡ (zero64, zero64)
unfolding inserted_pair of_int
five_replaced = refl

pub three_replaced : (series_of Pairs inf_second).entry 0 ≡ (zero64, zero64)
unfolding inserted_pair of_int
three_replaced = refl

-- and the pair counts: with ddof 1 rows (0,2), (1,3) are both present
pub bad_pair_counts : valid_count (series_of Pairs nan_first).places 0 2 ≡ 2
unfolding entries_from valid_at both_at
bad_pair_counts = refl

abbrev bad_plan : Plan
bad_plan = plan_of (0 ∷ 1 ∷ []) (2 ∷ 3 ∷ [])

abbrev nan_left : Lent
nan_left = four_left 12 (nan ∷ of_nat64 4 ∷ one64 ∷ one64 ∷ []) (1 ∷ 1 ∷ 7 ∷ 7 ∷ [])

-- as a host call, each trace decoded before what stands behind it
abbrev double : ℕ → ℕ → List ℕ
double low high = 0 ∷ 0 ∷ 0 ∷ 0 ∷ 0 ∷ 0 ∷ low ∷ high ∷ []

abbrev nan_bytes : Host Pairs
nan_bytes =
    record {
      x = record { bytes = double 0xF8 0x7F ++ double 0 0x40 ++ double 0x10 0x40; mapped = false; map = [] };
      y = record { bytes = double 0x14 0x40 ++ double 0 0x40 ++ double 0x18 0x40; mapped = false; map = [] };
    }

pub nan_accepted : CalledBytes (covariance_by bad_plan 1 1) nan_bytes (reals (7 ∷ 7 ∷ 7 ∷ 7 ∷ []), reals (8 ∷ 8 ∷ 8 ∷ []))
    (nan ∷ reals (2 ∷ 4 ∷ 7 ∷ []), reals (5 ∷ 2 ∷ 6 ∷ [])) (four_lent 12) nan_left 0
unfolding table refusal ◌or_else◌ wrong_map plan_refusal filled kept of_bits of_int add sub mul div eq le cov_new cov_combine cov_finalize
    entries_from split_after figure_of inserted_pair nonfinite_pair answer_at valid_at both_at
nan_accepted = record { number_is = refl; readings_are = refl; left = leaves refl refl refl refl refl }

abbrev inf_left : Lent
inf_left = four_left 16 (nan ∷ one64 ∷ one64 ∷ one64 ∷ []) (1 ∷ 1 ∷ 7 ∷ 7 ∷ [])

pub inf_accepted : Called (correlation_by bad_plan 1) inf_second (four_lent 16) inf_left 0
unfolding table refusal ◌or_else◌ wrong_map plan_refusal filled kept of_bits of_int add sub mul div eq lt root pearson_new pearson_combine
    pearson_finalize entries_from split_after figure_of inserted_pair nonfinite_pair answer_at valid_at both_at
inf_accepted = record { number_is = refl; left = leaves refl refl refl refl refl }

-- ---- "A place is valid when both traces have it. The rows go by the rule for a map as soon as either trace has one."
-- Trailing window 2, minimum 2, over 1, 3, 5 and 2, 6, 4. Where the second trace alone has a map, which misses place 0, row 1 has one valid
-- place and is missing; a covariance below zero stays.
abbrev second_map : TracePair
second_map = both (whole (1 ∷ 3 ∷ 5 ∷ [])) (mapped (2 ∷ 6 ∷ 4 ∷ []) 6)

abbrev trailing_left : Lent
trailing_left = four_left 12 (zero64 ∷ zero64 ∷ of_bits binary64 0xBFF0000000000000 ∷ one64 ∷ []) (0 ∷ 0 ∷ 1 ∷ 7 ∷ [])

pub second_map_accepted : CalledFixed false 2 2 (Covariance 0) second_map (four_lent 12) trailing_left 0
unfolding table refusal ◌or_else◌ wrong_map plan_refusal bounds fixed_refusal filled kept of_bits of_int add sub mul div eq le cov_new cov_combine
    cov_finalize entries_from split_after figure_of inserted_pair nonfinite_pair answer_at valid_at both_at
second_map_accepted = record { number_is = refl; plan_call = record { number_is = refl; left = leaves refl refl refl refl refl } }

-- likewise where the first alone has it
pub first_map_accepted : CalledFixed false 2 2 Correlation (both (mapped (1 ∷ 3 ∷ 5 ∷ []) 6) (whole (2 ∷ 6 ∷ 4 ∷ []))) (four_lent 16)
    (four_left 16 (zero64 ∷ zero64 ∷ of_bits binary64 0xBFF0000000000000 ∷ one64 ∷ []) (0 ∷ 0 ∷ 1 ∷ 7 ∷ [])) 0
unfolding table refusal ◌or_else◌ wrong_map plan_refusal bounds fixed_refusal filled kept of_bits of_int add sub mul div eq lt root pearson_new
    pearson_combine pearson_finalize entries_from split_after figure_of inserted_pair nonfinite_pair answer_at valid_at both_at
first_map_accepted = record { number_is = refl; plan_call = record { number_is = refl; left = leaves refl refl refl refl refl } }

-- without a map row 1 is there
pub neither_map_accepted : CalledFixed false 2 2 (Covariance 0) (both (whole (1 ∷ 3 ∷ 5 ∷ [])) (whole (2 ∷ 6 ∷ 4 ∷ []))) (four_lent 12)
    (four_left 12 (zero64 ∷ two64 ∷ of_bits binary64 0xBFF0000000000000 ∷ one64 ∷ []) (0 ∷ 1 ∷ 1 ∷ 7 ∷ [])) 0
unfolding table refusal ◌or_else◌ wrong_map plan_refusal bounds fixed_refusal filled kept of_bits of_int add sub mul div eq le cov_new cov_combine
    cov_finalize entries_from split_after figure_of inserted_pair nonfinite_pair answer_at valid_at both_at
neither_map_accepted = record { number_is = refl; plan_call = record { number_is = refl; left = leaves refl refl refl refl refl } }

-- a place that each trace has and the other misses is valid in neither
pub valid_in_both : valid_count (series_of Pairs (both (mapped (1 ∷ 3 ∷ 5 ∷ []) 3) (mapped (2 ∷ 6 ∷ 4 ∷ []) 6))).places 0 3 ≡ 1
unfolding entries_from valid_at both_at
valid_in_both = refl

-- ---- `AcceptedCall`, by each kind of call, and for each figure
pub cov7_call : AcceptedCall (covariance_by p7 1 1) pair7 cov7_left
cov7_call = plan_call cov7_accepted

pub corr7_call : AcceptedCall (correlation_by p7 1) pair7 corr7_left
corr7_call = plan_call corr7_accepted

pub nan_call : AcceptedCall (covariance_by bad_plan 1 1) nan_first nan_left
unfolding table of_bits of_int
nan_call = host_call nan_accepted

pub trailing_pair_call : AcceptedCall (covariance_by (plan_of (0 ∷ 0 ∷ 1 ∷ []) (1 ∷ 2 ∷ 3 ∷ [])) 2 0) second_map trailing_left
unfolding table bounds
trailing_pair_call = fixed_call second_map_accepted

-- ---- the statement, of two calls
-- 2, 4, 6, 8 and 9, 5, 7, 9: other than `pair7` at place 0, in the second trace only
abbrev other7 : TracePair
other7 = both (whole (2 ∷ 4 ∷ 6 ∷ 8 ∷ [])) (whole (9 ∷ 5 ∷ 7 ∷ 9 ∷ []))

abbrev other7_left : Lent
other7_left = four_left 12 (of_bits binary64 0xC010000000000000 ∷ two64 ∷ zero64 ∷ one64 ∷ []) (1 ∷ 1 ∷ 0 ∷ 7 ∷ [])

other7_accepted : Called (covariance_by p7 1 1) other7 (four_lent 12) other7_left 0
unfolding table refusal ◌or_else◌ wrong_map plan_refusal filled kept of_bits of_int add sub mul div eq le cov_new cov_combine cov_finalize
    entries_from split_after figure_of inserted_pair nonfinite_pair answer_at valid_at both_at
other7_accepted = record { number_is = refl; left = leaves refl refl refl refl refl }

pub alike_pairs : Alike Pairs pair7 other7
alike_pairs = record { long = refl; places = λ i h. refl; mapped = refl }

-- they agree in row 1's window, the places 1 and 2 ..
pub agree_pairs : Agree Pairs pair7 other7 1 3
agree_pairs zero s e v = absurd (omega arith)
agree_pairs (suc zero) s e v = (refl, refl)
agree_pairs (suc (suc zero)) s e v = (refl, refl)
agree_pairs (suc (suc (suc i))) s e v = absurd (omega arith)

-- .. and not in row 0's
pub disagree_pairs : Agree Pairs pair7 other7 0 2 → ⊥
unfolding valid_at both_at of_bits to_bits of_int
disagree_pairs all =
    let bits : ◌≡◌ {A = ℕ} 0x3FF0000000000000 0x4022000000000000 = ap (to_bits binary64) (all 0 (omega arith) (omega arith) refl).1 in
    omega arith

-- so row 1's answers are the same ..
pub same_pair_rows : answers_in cov7_left.outputs.answers 1 ≡ answers_in other7_left.outputs.answers 1
same_pair_rows =
    pair_statement.two (covariance_by p7 1 1) tt pair7 other7 cov7_left other7_left alike_pairs cov7_call (plan_call other7_accepted) 1
    (omega arith) agree_pairs

-- .. and row 0's are not
pub differ_pair_rows : answers_in cov7_left.outputs.answers 0 ≡ answers_in other7_left.outputs.answers 0 → ⊥
unfolding of_bits to_bits of_int
differ_pair_rows same =
    let bits : ◌≡◌ {A = ℕ} 0x4010000000000000 0xC010000000000000 = ap first_bits same in
    omega arith

-- ---- what is not enough for the same answers
-- the statement's first part, of such a covariance, with Enough for what it asks of two pairs of traces and a row
abbrev Claim : (Plan → TracePair → TracePair → ℕ → Type 0) → Type 0
Claim Enough =
    (p : Plan) (min_periods : ℕ) (t t' : TracePair) (l l' : Lent) → AcceptedCall (covariance_by p min_periods 1) t l
    → AcceptedCall (covariance_by p min_periods 1) t' l' → (k : ℕ) → k < rows p → Enough p t t' k
    → figures_in (Covariance 1) l k ≡ figures_in (Covariance 1) l' k

-- the statement itself makes it with this
pub enough_of_pairs : Claim (λ p t t' k. Alike Pairs t t' × Agree Pairs t t' (row_start p k) (row_end p k))
enough_of_pairs p min_periods t t' l l' c c' k h e =
    pair_statement.two (covariance_by p min_periods 1) tt t t' l l' e.0 c c' k h e.1

-- pairs that agree in their first members only
pub second_member_counts :
    Claim
    (λ p t t' k.
    Alike Pairs t t'
    × ((i : ℕ) → row_start p k ≤ i → i < row_end p k → reading_of t.x.readings i ≡ reading_of t'.x.readings i))
    → ⊥
second_member_counts all =
    differ_pair_rows
    (all p7 1 pair7 other7 cov7_left other7_left cov7_call (plan_call other7_accepted) 0 (omega arith) (alike_pairs, λ i s e. refl))

-- Minimum 3, rows (0,0), (0,2), (1,4), over 0, 0, 0, 1 and 0, 0, 1, 0, the second with a map of ones or with none: row 1 moves the window
-- by the rule for a map only, and row 2's figures differ in their last bits.
abbrev short_row : Plan
short_row = plan_of (0 ∷ 0 ∷ 1 ∷ []) (0 ∷ 2 ∷ 4 ∷ [])

abbrev ones : TracePair
ones = both (whole (0 ∷ 0 ∷ 0 ∷ 1 ∷ [])) (mapped (0 ∷ 0 ∷ 1 ∷ 0 ∷ []) 15)

abbrev no_maps : TracePair
no_maps = both (whole (0 ∷ 0 ∷ 0 ∷ 1 ∷ [])) (whole (0 ∷ 0 ∷ 1 ∷ 0 ∷ []))

abbrev ones_left : Lent
ones_left = four_left 18 (zero64 ∷ zero64 ∷ of_bits binary64 0xBFC5555555555555 ∷ one64 ∷ []) (0 ∷ 0 ∷ 1 ∷ 7 ∷ [])

abbrev no_maps_left : Lent
no_maps_left = four_left 18 (zero64 ∷ zero64 ∷ of_bits binary64 0xBFC5555555555556 ∷ one64 ∷ []) (0 ∷ 0 ∷ 1 ∷ 7 ∷ [])

ones_accepted : Called (covariance_by short_row 3 1) ones (four_lent 18) ones_left 0
unfolding table refusal ◌or_else◌ wrong_map plan_refusal filled kept of_bits of_int add sub mul div eq le cov_new cov_combine cov_finalize
    entries_from split_after figure_of inserted_pair nonfinite_pair answer_at valid_at both_at
ones_accepted = record { number_is = refl; left = leaves refl refl refl refl refl }

no_maps_accepted : Called (covariance_by short_row 3 1) no_maps (four_lent 18) no_maps_left 0
unfolding table refusal ◌or_else◌ wrong_map plan_refusal filled kept of_bits of_int add sub mul div eq le cov_new cov_combine cov_finalize
    entries_from split_after figure_of inserted_pair nonfinite_pair answer_at valid_at both_at
no_maps_accepted = record { number_is = refl; left = leaves refl refl refl refl refl }

ones_places : (i : ℕ) → i < 4 → (series_of Pairs ones).places.valid i ≡ (series_of Pairs no_maps).places.valid i
unfolding table valid_at both_at
ones_places = each_place _ _ 4 refl

-- without 'both by the rule for a map or both not': the traces hold the same readings and miss no place
pub either_map_counts :
    Claim
    (λ p t t' k.
    ((i : ℕ) → i < length t.x.readings → (series_of Pairs t).places.valid i ≡ (series_of Pairs t').places.valid i)
    × Agree Pairs t t' (row_start p k) (row_end p k))
    → ⊥
unfolding of_bits to_bits
either_map_counts all =
    let same = all short_row 3 ones no_maps ones_left no_maps_left (plan_call ones_accepted) (plan_call no_maps_accepted) 2 (omega arith)
    (ones_places, λ i s e v. (refl, refl)) in
    let bits : ◌≡◌ {A = ℕ} 0xBFC5555555555555 0xBFC5555555555556 = ap first_bits same in
    omega arith

-- a map in the first trace of one pair and in the second of the other: both go by the rule for a map, and miss the same place
abbrev first_mapped : TracePair
first_mapped = both (mapped (0 ∷ 0 ∷ 0 ∷ 1 ∷ []) 13) (whole (0 ∷ 0 ∷ 1 ∷ 0 ∷ []))

abbrev second_mapped : TracePair
second_mapped = both (whole (0 ∷ 0 ∷ 0 ∷ 1 ∷ [])) (mapped (0 ∷ 0 ∷ 1 ∷ 0 ∷ []) 13)

either_places : (i : ℕ) → i < 4 → (series_of Pairs first_mapped).places.valid i ≡ (series_of Pairs second_mapped).places.valid i
unfolding table valid_at both_at
either_places = each_place _ _ 4 refl

pub alike_either_map : Alike Pairs first_mapped second_mapped
alike_either_map = record { long = refl; places = either_places; mapped = refl }

-- `Alike` is said of neither: a map in the second trace and none, and places that one second trace misses
pub not_alike_pair_maps : Alike Pairs no_maps ones → ⊥
not_alike_pair_maps a = apart a.mapped

pub not_alike_pair_places : Alike Pairs ones (both ones.x (mapped (0 ∷ 0 ∷ 1 ∷ 0 ∷ []) 13)) → ⊥
unfolding valid_at both_at
not_alike_pair_places a = apart (sym (a.places 1 (omega arith)))

-- ---- the statement, of one call
-- `SomeNotFinite`: the first member, the second, and neither
pub nan_member : SomeNotFinite Pairs nan_first 0 2
unfolding valid_at both_at
nan_member = (0, omega arith, omega arith, refl, inl refl)

pub inf_member : SomeNotFinite Pairs inf_second 0 2
unfolding valid_at both_at
inf_member = (0, omega arith, omega arith, refl, inr refl)

pub finite_members : SomeNotFinite Pairs inf_second 1 3 → ⊥
unfolding valid_at both_at of_int
finite_members (zero, s, e, v, f) = absurd (omega arith)
finite_members (suc zero, s, e, v, f) = ⊎_elim (λ g. apart (sym g)) (λ g. apart (sym g)) f
finite_members (suc (suc zero), s, e, v, f) = ⊎_elim (λ g. apart (sym g)) (λ g. apart (sym g)) f
finite_members (suc (suc (suc i)), s, e, v, f) = absurd (omega arith)

-- a row whose figure is NaN
nan_figure : {t : Given Pairs} {s e min_periods few : ℕ} → ¬ TooFew Pairs t s e min_periods few
    → FigureRow Pairs t s e min_periods few (answer nan 1)
nan_figure enough =
    record { byte-is = inr refl; missing = (λ z. absurd (omega arith), λ less. absurd (enough less)); not_finite = λ b f. refl }

-- `PairYielded`, computed: a covariance that is missing since the count is ddof ..
pub ddof_yielded : PairYielded (covariance_by p7 1 1) pair7 cov7_left 2
unfolding of_bits of_int add sub mul div eq le cov_new cov_combine cov_finalize entries_from split_after figure_of inserted_pair nonfinite_pair
    answer_at valid_at both_at
ddof_yielded =
    record {
      account = refl;
      figure = record {
        answer = answer zero64 0;
        others = [];
        stands = refl;
        row = missing_row (inl (omega arith));
      };
    }

-- .. a correlation that is present of one pair ..
pub one_pair_yielded : PairYielded (correlation_by p7 1) pair7 corr7_left 2
unfolding of_bits of_int add sub mul div eq lt root pearson_new pearson_combine pearson_finalize entries_from split_after figure_of inserted_pair
    nonfinite_pair answer_at valid_at both_at
one_pair_yielded =
    record {
      account = refl;
      figure = record {
        answer = answer nan 1;
        others = [];
        stands = refl;
        row = record {
          byte-is = inr refl;
          missing = (λ z. absurd (omega arith), λ few. absurd (⊎_elim (λ h. omega arith) (λ h. omega arith) few));
          not_finite = λ b f. refl;
        };
      };
    }

-- .. one that is missing since the valid count, and not the row's length, is below the minimum ..
pub minimum_yielded : PairYielded (covariance_by (plan_of (0 ∷ 0 ∷ 1 ∷ []) (1 ∷ 2 ∷ 3 ∷ [])) 2 0) second_map trailing_left 1
unfolding of_bits of_int add sub mul div eq le cov_new cov_combine cov_finalize entries_from split_after figure_of inserted_pair nonfinite_pair
    answer_at valid_at both_at
minimum_yielded =
    record {
      account = refl;
      figure = record {
        answer = answer zero64 0;
        others = [];
        stands = refl;
        row = missing_row (inr (omega arith));
      };
    }

-- .. and one that is NaN since a member is not finite
pub inf_yielded : PairYielded (correlation_by bad_plan 1) inf_second inf_left 0
unfolding of_bits of_int add sub mul div eq lt root pearson_new pearson_combine pearson_finalize entries_from split_after figure_of inserted_pair
    nonfinite_pair answer_at valid_at both_at
inf_yielded =
    record {
      account = refl;
      figure = record {
        answer = answer nan 1;
        others = [];
        stands = refl;
        row = record {
          byte-is = inr refl;
          missing = (λ z. absurd (omega arith), λ few. absurd (⊎_elim (λ h. omega arith) (λ h. omega arith) few));
          not_finite = λ b f. refl;
        };
      };
    }

-- and the statement said of a covariance, whose ddof is a byte, and of a correlation
pub nan_pair_row : PairFigureIn nan_first bad_plan 1 1 0 nan_left
nan_pair_row = (pair_statement.one (covariance_by bad_plan 1 1) tt nan_first nan_left (omega arith) nan_call 0 (omega arith)).figure

pub one_pair_row : PairFigureIn pair7 p7 1 0 2 corr7_left
one_pair_row = (pair_statement.one (correlation_by p7 1) tt pair7 corr7_left tt corr7_call 2 (omega arith)).figure

-- ---- demand 1, of two traces
-- Two readings and one, whose map has no bytes: 2 comes before 3
abbrev uneven : TracePair
uneven = both (whole (1 ∷ 3 ∷ [])) (trace_of (reals (1 ∷ [])) true [])

pub uneven_refused : Called (covariance_by p7 1 1) uneven (four_lent 12) (four_lent 12) 2
unfolding table refusal ◌or_else◌ wrong_map plan_refusal filled kept
uneven_refused = record { number_is = refl; left = leaves refl refl refl refl refl }

pub two_before_three : FirstApplies (plan_checks (covariance_by p7 1 1) uneven (four_lent 12)) 2
unfolding rows_checks
two_before_three = inr (λ h. ⊎_elim (λ g. omega arith) (λ g. omega arith) h, inl (refl, λ h. omega arith))

pub uneven_fixed : CalledFixed true 2 1 Correlation uneven (four_lent 0) (four_lent 0) 2
unfolding table refusal ◌or_else◌ wrong_map plan_refusal bounds fixed_refusal filled kept
uneven_fixed = record { number_is = refl; plan_call = record { number_is = refl; left = leaves refl refl refl refl refl } }

-- 3 of the second map
abbrev no_bytes : TracePair
no_bytes = both (whole (1 ∷ 3 ∷ [])) (trace_of (reals (1 ∷ 3 ∷ [])) true [])

pub second_map_short : FirstApplies (fixed_checks 2 Correlation no_bytes (four_lent 0)) 3
second_map_short =
    inr (λ h. ⊎_elim (λ g. omega arith) (λ g. omega arith) h, inr (λ h. h refl, inl (refl, inr (refl, omega arith))))

-- nine bytes of the second trace: 14
abbrev nine_bytes : Host Pairs
nine_bytes =
    record {
      x = record { bytes = table (λ i. 0) 8; mapped = false; map = [] };
      y = record { bytes = table (λ i. 0) 9; mapped = false; map = [] };
    }

pub nine_refused : CalledBytes (correlation_by p7 1) nine_bytes (reals (7 ∷ []), reals (8 ∷ [])) (reals (7 ∷ []), reals (8 ∷ []))
    (four_lent 16) (four_lent 16) 14
unfolding table refusal ◌or_else◌ wrong_map plan_refusal filled kept
nine_refused = record { number_is = refl; readings_are = refl; left = leaves refl refl refl refl refl }

pub second_bytes : FirstApplies (host_checks (correlation_by p7 1) nine_bytes (reals (7 ∷ []), reals (8 ∷ [])) (four_lent 16)) 14
unfolding table
second_bytes = inl (refl, inr (λ h. omega arith))

-- a second list of readings that is too short: 12
abbrev short_second : List Float × List Float
short_second = (reals (7 ∷ 7 ∷ 7 ∷ []), reals (8 ∷ 8 ∷ []))

pub short_list_refused : CalledBytes (covariance_by bad_plan 1 1) nan_bytes short_second short_second (four_lent 12) (four_lent 12) 12
unfolding table refusal ◌or_else◌ wrong_map plan_refusal filled kept
short_list_refused = record { number_is = refl; readings_are = refl; left = leaves refl refl refl refl refl }

pub second_list : FirstApplies (host_checks (covariance_by (plan_of [] []) 1 1) nan_bytes short_second (four_lent 12)) 12
unfolding table rows_checks
second_list =
    inr (
      λ h. ⊎_elim (λ g. g refl) (λ g. g refl) h,
      inr (
        λ h. ⊎_elim (λ g. omega arith) (λ g. omega arith) h,
        inr (
          λ h. h refl,
          inr (
            λ h. ⊎_elim (λ g. apart g.0) (λ g. apart g.0) h,
            inr (λ h. ⊎_elim (λ g. g refl) (λ g. omega arith) h, inl (refl, inl (inr (omega arith)))),
          ),
        ),
      ),
    )

-- demand 1 said of it: among others, neither list of readings is changed
pub short_list_answered :
    Answered (host_checks (covariance_by bad_plan 1 1) nan_bytes short_second (four_lent 12)) 12 {A = (List Float × List Float) × Lent}
    (short_second, four_lent 12) (short_second, four_lent 12)
    (HostLeft (covariance_by bad_plan 1 1) nan_bytes short_second short_second (four_lent 12) (four_lent 12))
short_list_answered =
    demand_one.hosts (covariance_by bad_plan 1 1) nan_bytes short_second short_second (four_lent 12) (four_lent 12) 12 short_list_refused

-- ---- the law of maps, of two traces
-- the second trace's map with ones in its spare bits and bytes behind, and something where the first's would be
abbrev behind_second : TracePair
behind_second = both (padded second_map.x (255 ∷ [])) (trace_of (reals (2 ∷ 6 ∷ 4 ∷ [])) true (254 ∷ 0 ∷ 255 ∷ []))

bits6 : (i : ℕ) → i < 3 → valid_at true (6 ∷ []) i ≡ valid_at true (254 ∷ 0 ∷ 255 ∷ []) i
unfolding table valid_at
bits6 = each_place _ _ 3 refl

pub same_second : SameGiven Pairs second_map behind_second
same_second = (
  map_law.behind second_map.x (255 ∷ []) (λ w. apart w.0),
  record { readings = refl; mapped = refl; long = λ w. omega (arith, w.1); long' = λ w. omega (arith, w.1); bits = bits6 },
)

pub behind_second_accepted : CalledFixed false 2 2 (Covariance 0) behind_second (four_lent 12) trailing_left 0
unfolding table refusal ◌or_else◌ wrong_map plan_refusal bounds fixed_refusal filled kept of_bits of_int add sub mul div eq le cov_new cov_combine
    cov_finalize entries_from split_after figure_of inserted_pair nonfinite_pair answer_at valid_at both_at
behind_second_accepted = record { number_is = refl; plan_call = record { number_is = refl; left = leaves refl refl refl refl refl } }

pub second_maps : SameRows 3 trailing_left trailing_left 0 0
unfolding table bounds
second_maps =
    map_law.fixed false 2 2 (Covariance 0) second_map behind_second same_second (four_lent 12) trailing_left (four_lent 12) trailing_left
    (record { outputs = refl; work = refl }) 0 0 second_map_accepted behind_second_accepted

-- a host call, the second trace with a map of ones or with more ones and a byte behind
abbrev host_map : List ℕ → Host Pairs
host_map map = record { x = nan_bytes.x; y = record { bytes = nan_bytes.y.bytes; mapped = true; map = map } }

bits7 : (i : ℕ) → i < 3 → valid_at true (7 ∷ []) i ≡ valid_at true (255 ∷ 9 ∷ []) i
unfolding table valid_at
bits7 = each_place _ _ 3 refl

pub same_hosts : SameHost Pairs (host_map (7 ∷ [])) (host_map (255 ∷ 9 ∷ []))
unfolding table
same_hosts = (
  (refl, record { readings = refl; mapped = refl; long = λ w. apart w.0; long' = λ w. apart w.0; bits = λ i h. refl }),
  (
    refl,
    record { readings = refl; mapped = refl; long = λ w. omega (arith, w.1); long' = λ w. omega (arith, w.1); bits = bits7 },
  ),
)

abbrev decoded_both : List Float × List Float
decoded_both = (nan ∷ reals (2 ∷ 4 ∷ []), reals (5 ∷ 2 ∷ 6 ∷ []))

pub host_map_accepted : CalledBytes (covariance_by bad_plan 1 1) (host_map (7 ∷ [])) (reals (7 ∷ 7 ∷ 7 ∷ []), reals (8 ∷ 8 ∷ 8 ∷ []))
    decoded_both (four_lent 12) nan_left 0
unfolding table refusal ◌or_else◌ wrong_map plan_refusal filled kept of_bits of_int add sub mul div eq le cov_new cov_combine cov_finalize
    entries_from split_after figure_of inserted_pair nonfinite_pair answer_at valid_at both_at
host_map_accepted = record { number_is = refl; readings_are = refl; left = leaves refl refl refl refl refl }

pub host_behind_accepted : CalledBytes (covariance_by bad_plan 1 1) (host_map (255 ∷ 9 ∷ [])) decoded_both decoded_both (four_lent 12) nan_left 0
unfolding table refusal ◌or_else◌ wrong_map plan_refusal filled kept of_bits of_int add sub mul div eq le cov_new cov_combine cov_finalize
    entries_from split_after figure_of inserted_pair nonfinite_pair answer_at valid_at both_at
host_behind_accepted = record { number_is = refl; readings_are = refl; left = leaves refl refl refl refl refl }

pub host_maps : SameRows 2 nan_left nan_left 0 0
unfolding table
host_maps =
    map_law.hosts (covariance_by bad_plan 1 1) (host_map (7 ∷ [])) (host_map (255 ∷ 9 ∷ [])) same_hosts _ decoded_both _ decoded_both refl
    (four_lent 12) nan_left (four_lent 12) nan_left (record { outputs = refl; work = refl }) 0 0 host_map_accepted host_behind_accepted
