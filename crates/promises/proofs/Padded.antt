-- Each hypothesis of the law of maps is met, by computation: two maps, one with other spare bits and bytes behind, in calls of every kind;
-- the paper's example of nine places; and what would be said too much: of maps that are too short. Assumes nothing.
use Prim.Native.Nat.{ℕ, ◌<◌}
use mathlib.Core.Path.{◌≡◌, refl}
use mathlib.Core.Bool.{true, false}
use mathlib.Core.List.{List, [], ◌∷◌, zip, zip_with}
use native.Mathlib.Omega.{arith}
use lib.ListN.{length}
use lib.Ieee.{Float, of_bits, of_int, add, sub, mul, div, eq, lt, le}
use Rattle.float.specs.Operators.{zero64, one64, two64, of_nat64}
use Rattle.float.specs.Tables.{table}
use Rattle.float.proofs.Cases.{apart}
use Rattle.trace.specs.Trace.{Trace, trace_of, valid_at, both_at, valid_from}
use Rattle.trace.specs.Refusals.{refusal, ◌or_else◌, wrong_map, trace_refusal}
use Rattle.moment.specs.Var.{var_new, var_clear, var_combine, var_finalize}
use Rattle.moment.specs.Cov.{cov_new, cov_combine}
use Rattle.moment.specs.Skew.{skew_new}
use Rattle.moment.specs.Chunks.{chunks, chunks_of, in_chunks}
use Rattle.moment.specs.Arrays.{answer}
use Rattle.plan.specs.Bounds.{bounds}
use Rattle.plan.specs.Refusals.{plan_refusal, fixed_refusal}
use Rattle.window.specs.Places.{entries_from}
use Rattle.window.specs.Window.{split_after, figure_of}
use Rattle.window.specs.Readings.{inserted_at, nonfinite_at}
use Rattle.window.specs.Given.{Readings}
use Rattle.window.specs.Rows.{answer_at}
use Rattle.window.specs.Extremes.{extreme, extreme_of}
use Rattle.window.specs.Outputs.{Column, Lent, column, outputs_of, filled, kept}
use Rattle.rolling.specs.Moments.{Variance}
use Rattle.rolling.specs.Calls.{Called}
use Rattle.rolling.specs.Fixed.{CalledFixed}
use Rattle.weighted.specs.Weights.{weights_refusal, CalledWeights}
use Rattle.moments.specs.HostCall.{Host, CalledBytes}
use Rattle.promises.specs.Calls.{of_var, of_cov, of_skew_range, CallsArray}
use Rattle.promises.specs.Maps.{SameMaps, padded, same_var, same_cov, same_skew_range, SameHost, SameRoom, SameAnswer, SameColumns, SameRows}
use Rattle.promises.specs.Table.{variance_by, p9, trace9}
use Rattle.promises.proofs.Maps.{map_law}
use Rattle.promises.proofs.Spans.{each_place}
use Rattle.promises.proofs.Examples.{reals, whole}
use Rattle.promises.proofs.Witnesses.{four_column, var_lent_of, var_lent, var_left_of, leaves, trace13, p9_left, p9_accepted}

-- ---- "the map-length example for n = 9 reads 'at least 2 bytes'"
pub nine_by_one : wrong_map 9 true (0 ∷ []) ≡ true
unfolding wrong_map
nine_by_one = refl

pub nine_by_two : wrong_map 9 true (0 ∷ 0 ∷ []) ≡ false
unfolding wrong_map
nine_by_two = refl

pub nine_by_sixty_six : wrong_map 9 true (table (λ i. 0) 66) ≡ false
unfolding wrong_map table
nine_by_sixty_six = refl

-- an empty trace with a map of no bytes, and of one
pub none_by_none : wrong_map 0 true [] ≡ false
unfolding wrong_map
none_by_none = refl

pub none_by_one : wrong_map 0 true (255 ∷ []) ≡ false
unfolding wrong_map
none_by_one = refl

-- ---- `SameMaps`
-- P9's trace, whose map is the byte 5: with ones in the spare bits, and two bytes behind
abbrev behind9 : Trace
behind9 = trace_of trace9.readings true (253 ∷ 0 ∷ 255 ∷ [])

bits9 : (i : ℕ) → i < 3 → valid_at true (5 ∷ []) i ≡ valid_at true (253 ∷ 0 ∷ 255 ∷ []) i
unfolding table valid_at
bits9 = each_place _ _ 3 refl

pub same9 : SameMaps trace9 behind9
same9 =
    record { readings = refl; mapped = refl; long = λ w. omega (arith, w.1); long' = λ w. omega (arith, w.1); bits = bits9 }

-- 64 bytes behind
pub sixty_four_behind : SameMaps trace9 (padded trace9 (table (λ i. 170) 64))
sixty_four_behind = map_law.behind trace9 (table (λ i. 170) 64) (λ w. omega (arith, w.1))

-- traces without a map, and something where it would be
pub unlent : SameMaps trace13 (padded trace13 (255 ∷ []))
unlent = map_law.behind trace13 (255 ∷ []) (λ w. apart w.0)

-- ---- calls with either map, lent other contents
-- four places with something else than `four_column` has
abbrev other_column : Column
other_column = column (table (λ i. zero64) 4) (table (λ i. 9) 4)

-- what is left of it by P9 with minimum 2
abbrev behind_left : Lent
behind_left = var_left_of other_column 18 behind9 p9 2 (two64 ∷ zero64 ∷ zero64 ∷ zero64 ∷ []) (1 ∷ 9 ∷ 9 ∷ 9 ∷ [])

pub behind9_accepted : Called (variance_by p9 2) behind9 (var_lent_of 18 other_column) behind_left 0
unfolding table refusal ◌or_else◌ wrong_map plan_refusal filled kept of_bits of_int add sub mul div eq lt le var_clear var_combine var_finalize
    entries_from split_after figure_of inserted_at nonfinite_at answer_at valid_at extreme extreme_of
behind9_accepted = record { number_is = refl; left = leaves refl refl refl refl refl }

-- lists that are as long
pub room : SameRoom (var_lent 18) (var_lent_of 18 other_column)
unfolding table
room = record { outputs = refl; work = refl }

-- a plan
pub plans9 : SameRows 1 p9_left behind_left 0 0
plans9 =
    map_law.plans (variance_by p9 2) trace9 behind9 same9 (var_lent 18) p9_left (var_lent_of 18 other_column) behind_left room 0 0 p9_accepted
    behind9_accepted

-- a host call: P9's trace as bytes, with either map
abbrev bytes9 : List ℕ → Host Readings
bytes9 map =
    record {
      bytes = 0 ∷ 0 ∷ 0 ∷ 0 ∷ 0 ∷ 0 ∷ 0 ∷ 0x40 ∷ 0 ∷ 0 ∷ 0 ∷ 0 ∷ 0 ∷ 0 ∷ 0x1C ∷ 0x40 ∷ 0 ∷ 0 ∷ 0 ∷ 0 ∷ 0 ∷ 0 ∷ 0x10 ∷ 0x40 ∷ [];
      mapped = true;
      map = map;
    }

pub same_bytes9 : SameHost Readings (bytes9 (5 ∷ [])) (bytes9 (253 ∷ 0 ∷ 255 ∷ []))
unfolding table
same_bytes9 = (
  refl,
  record { readings = refl; mapped = refl; long = λ w. omega (arith, w.1); long' = λ w. omega (arith, w.1); bits = bits9 },
)

pub bytes9_accepted : CalledBytes (variance_by p9 2) (bytes9 (5 ∷ [])) (reals (7 ∷ 7 ∷ 7 ∷ [])) (reals (2 ∷ 7 ∷ 4 ∷ [])) (var_lent 18)
    p9_left 0
unfolding table refusal ◌or_else◌ wrong_map plan_refusal filled kept of_bits of_int add sub mul div eq lt le var_clear var_combine var_finalize
    entries_from split_after figure_of inserted_at nonfinite_at answer_at valid_at extreme extreme_of
bytes9_accepted = record { number_is = refl; readings_are = refl; left = leaves refl refl refl refl refl }

pub behind_bytes9_accepted : CalledBytes (variance_by p9 2) (bytes9 (253 ∷ 0 ∷ 255 ∷ [])) (reals (8 ∷ 8 ∷ 8 ∷ 8 ∷ []))
    (reals (2 ∷ 7 ∷ 4 ∷ 8 ∷ [])) (var_lent_of 18 other_column) behind_left 0
unfolding table refusal ◌or_else◌ wrong_map plan_refusal filled kept of_bits of_int add sub mul div eq lt le var_clear var_combine var_finalize
    entries_from split_after figure_of inserted_at nonfinite_at answer_at valid_at extreme extreme_of
behind_bytes9_accepted = record { number_is = refl; readings_are = refl; left = leaves refl refl refl refl refl }

pub hosts9 : SameRows 1 p9_left behind_left 0 0
hosts9 =
    map_law.hosts (variance_by p9 2) _ _ same_bytes9 _ (reals (2 ∷ 7 ∷ 4 ∷ [])) _ (reals (2 ∷ 7 ∷ 4 ∷ 8 ∷ [])) refl (var_lent 18) p9_left
    (var_lent_of 18 other_column) behind_left room 0 0 bytes9_accepted behind_bytes9_accepted

-- trailing windows of 3: the first two rows have one valid place
abbrev fixed_left : Float → ℕ → Lent
fixed_left x b =
    record {
      outputs = outputs_of
          (column (zero64 ∷ zero64 ∷ two64 ∷ x ∷ []) (0 ∷ 0 ∷ 1 ∷ b ∷ [])
          ∷ column (two64 ∷ two64 ∷ two64 ∷ x ∷ []) (1 ∷ 1 ∷ 1 ∷ b ∷ [])
          ∷ column (two64 ∷ two64 ∷ of_nat64 4 ∷ x ∷ []) (1 ∷ 1 ∷ 1 ∷ b ∷ [])
          ∷ [])
          [];
      work = table (λ i. zero64) 18;
    }

pub fixed9_accepted : CalledFixed false 3 1 (Variance 1) trace9 (var_lent 18) (fixed_left one64 7) 0
unfolding table refusal ◌or_else◌ wrong_map plan_refusal bounds fixed_refusal filled kept of_bits of_int add sub mul div eq lt le var_clear
    var_combine var_finalize entries_from split_after figure_of inserted_at nonfinite_at answer_at valid_at extreme extreme_of
fixed9_accepted = record { number_is = refl; plan_call = record { number_is = refl; left = leaves refl refl refl refl refl } }

pub behind_fixed9_accepted : CalledFixed false 3 1 (Variance 1) behind9 (var_lent_of 18 other_column) (fixed_left zero64 9) 0
unfolding table refusal ◌or_else◌ wrong_map plan_refusal bounds fixed_refusal filled kept of_bits of_int add sub mul div eq lt le var_clear
    var_combine var_finalize entries_from split_after figure_of inserted_at nonfinite_at answer_at valid_at extreme extreme_of
behind_fixed9_accepted = record { number_is = refl; plan_call = record { number_is = refl; left = leaves refl refl refl refl refl } }

pub fixed9 : SameRows 3 (fixed_left one64 7) (fixed_left zero64 9) 0 0
unfolding table bounds
fixed9 =
    map_law.fixed false 3 1 (Variance 1) trace9 behind9 same9 (var_lent 18) (fixed_left one64 7) (var_lent_of 18 other_column)
    (fixed_left zero64 9)
    room 0 0 fixed9_accepted behind_fixed9_accepted

-- weights: a longer map is 8, as an exact one is, and no longer 3
pub weights9_refused : CalledWeights false 2 1 (one64 ∷ one64 ∷ []) trace9 four_column four_column 8
unfolding table refusal ◌or_else◌ wrong_map weights_refusal filled
weights9_refused = record { number_is = refl; column-is = refl }

pub behind_weights9_refused : CalledWeights false 2 1 (one64 ∷ one64 ∷ []) behind9 other_column other_column 8
unfolding table refusal ◌or_else◌ wrong_map weights_refusal filled
behind_weights9_refused = record { number_is = refl; column-is = refl }

pub weights9 : SameAnswer 8 8 (SameColumns 3 (four_column ∷ []) (other_column ∷ []))
unfolding table
weights9 =
    map_law.weights false 2 1 (one64 ∷ one64 ∷ []) trace9 behind9 same9 four_column four_column other_column other_column refl 8 8
    weights9_refused behind_weights9_refused

-- whole arrays: the state of the two valid readings, of lent states that held other members
abbrev sevens : List Float
sevens = reals (7 ∷ 7 ∷ 7 ∷ 7 ∷ [])

abbrev eights : List Float
eights = reals (8 ∷ 8 ∷ 8 ∷ 8 ∷ [])

pub var9 : CallsArray (of_var trace9) sevens (reals (2 ∷ 3 ∷ 2 ∷ [])) 0
unfolding answer refusal ◌or_else◌ wrong_map valid_from chunks chunks_of in_chunks valid_at of_bits of_int add sub mul div eq var_new var_clear
    var_combine
var9 = record { number = refl; state = refl }

pub behind_var9 : CallsArray (of_var behind9) eights (reals (2 ∷ 3 ∷ 2 ∷ [])) 0
unfolding answer refusal ◌or_else◌ wrong_map valid_from chunks chunks_of in_chunks valid_at of_bits of_int add sub mul div eq var_new var_clear
    var_combine
behind_var9 = record { number = refl; state = refl }

pub vars9 : SameAnswer 0 0 (reals (2 ∷ 3 ∷ 2 ∷ []) ≡ reals (2 ∷ 3 ∷ 2 ∷ []))
vars9 = map_law.arrays (same_var same9) sevens _ eights _ 0 0 var9 behind_var9

-- a range: its last two places, of which one is valid
pub range9 : CallsArray (of_skew_range trace9 1 2) sevens (reals (1 ∷ 4 ∷ 0 ∷ 0 ∷ [])) 0
unfolding answer refusal ◌or_else◌ wrong_map valid_from valid_at of_bits of_int add sub mul div eq skew_new
range9 = record { number = refl; state = refl }

pub behind_range9 : CallsArray (of_skew_range behind9 1 2) eights (reals (1 ∷ 4 ∷ 0 ∷ 0 ∷ [])) 0
unfolding answer refusal ◌or_else◌ wrong_map valid_from valid_at of_bits of_int add sub mul div eq skew_new
behind_range9 = record { number = refl; state = refl }

pub ranges9 : SameAnswer 0 0 (reals (1 ∷ 4 ∷ 0 ∷ 0 ∷ []) ≡ reals (1 ∷ 4 ∷ 0 ∷ 0 ∷ []))
ranges9 = map_law.arrays (same_skew_range {start = 1} {len = 2} same9) sevens _ eights _ 0 0 range9 behind_range9

-- a pair, of which the second trace has no map
abbrev second : Trace
second = whole (2 ∷ 5 ∷ 6 ∷ [])

pub cov9 : CallsArray (of_cov trace9 second) sevens (reals (2 ∷ 3 ∷ 4 ∷ 4 ∷ [])) 0
unfolding answer refusal ◌or_else◌ wrong_map valid_from chunks chunks_of in_chunks valid_at both_at of_bits of_int add sub mul div eq zip zip_with
    cov_new cov_combine
cov9 = record { number = refl; state = refl }

pub behind_cov9 : CallsArray (of_cov behind9 (padded second (255 ∷ []))) eights (reals (2 ∷ 3 ∷ 4 ∷ 4 ∷ [])) 0
unfolding answer refusal ◌or_else◌ wrong_map valid_from chunks chunks_of in_chunks valid_at both_at of_bits of_int add sub mul div eq zip zip_with
    cov_new cov_combine
behind_cov9 = record { number = refl; state = refl }

pub covs9 : SameAnswer 0 0 (reals (2 ∷ 3 ∷ 4 ∷ 4 ∷ []) ≡ reals (2 ∷ 3 ∷ 4 ∷ 4 ∷ []))
covs9 =
    map_law.arrays (same_cov same9 (map_law.behind second (255 ∷ []) (λ w. apart w.0))) sevens _ eights _ 0 0 cov9 behind_cov9

-- ---- what would be said too much: maps that are too short may have the same bits, as a place past a map's end reads as missing, and
-- give another number
pub length_counts :
    ((t t' : Trace) → t.readings ≡ t'.readings → t.mapped ≡ t'.mapped
    → ((i : ℕ) → i < length t.readings → valid_at t.mapped t.map i ≡ valid_at t'.mapped t'.map i)
    → trace_refusal t ≡ trace_refusal t')
    → ⊥
unfolding table refusal ◌or_else◌ wrong_map valid_at
length_counts all =
    let numbers : ◌≡◌ {A = ℕ} 3 0 = all (trace_of trace13.readings true []) (trace_of trace13.readings true (0 ∷ [])) refl refl
    (each_place _ _ 2 refl) in
    omega arith
