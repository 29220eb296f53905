-- The law of maps: a map is looked at through `valid_at` at the places of the trace, and through its length, which is too short or not.
-- So the numbers are the same and so are the valid readings; the rows are the same by the law of two calls. Assumes nothing.
use Prim.Native.Nat.{ℕ, ◌≤◌, ◌<◌}
use mathlib.Core.Path.{◌≡◌, refl, sym, ap, ◌∙◌, subst}
use mathlib.Core.Bool.{Bool, true, false}
use mathlib.Core.List.{List, [], ◌∷◌, zip}
use native.Mathlib.Omega.{arith}
use lib.ListN.{length, take, drop, length-append, length-take, length-drop}
use lib.Ieee.{Float}
use Rattle.trace.specs.Trace.{Trace, bytes_for, valid_at, both_at}
use Rattle.trace.specs.Refusals.{refusal, ◌or_else◌, wrong_map, trace_refusal, paired_refusal, range_refusal}
use Rattle.trace.proofs.Maps.{valid_same, behind_unread}
use Rattle.trace.proofs.Accepted.{pair_fits}
use Rattle.moment.proofs.Pairs.{length-zip}
use Rattle.moment.specs.Skew.{skew_new}
use Rattle.moment.specs.Kurtosis.{kurtosis_new}
use Rattle.moment.specs.Arrays.{answer}
use Rattle.moment.specs.Arrays.{var_whole, cov_whole, pearson_whole, skew_whole, kurtosis_whole}
use Rattle.plan.specs.Plan.{rows, row_start, row_end}
use Rattle.plan.specs.Bounds.{bounds}
use Rattle.plan.specs.Refusals.{fixed_refusal}
use Rattle.window.specs.Readings.{reading_of}
use Rattle.window.specs.Given.{Kind, Readings, Pairs, Given, places_of, given_refusal}
use Rattle.window.specs.Outputs.{Lent, answers_at, shortest_output}
use Rattle.rolling.specs.Moments.{Statistic, kind_of, work_width}
use Rattle.rolling.specs.Calls.{Query, query, GivenTo, refusal_of, Called}
use Rattle.rolling.specs.Fixed.{fixed_query, CalledFixed}
use Rattle.weighted.specs.Weights.{total_of, weighted_at, weights_refusal, CalledWeights}
use Rattle.moments.specs.HostCall.{Host, decoded_of, odd_bytes, ReadingLists, short_lists, CalledBytes}
use Rattle.moments.specs.Results.{StateResult}
use Rattle.promises.specs.Calls.{ArrayCall, CallsArray, readings_of, readings_in, pairs_of, AcceptedCall, plan_call, host_call, fixed_call}
use Rattle.promises.specs.DemandThree.{Alike, Agree}
use Rattle.promises.specs.Maps.{LongEnough, SameMaps, padded, SameGiven, SameHost, SameRoom, SameReadingRoom, SameAnswer}
use Rattle.promises.specs.Maps.{SameColumns, SameArrays, same_var, same_skew, same_kurtosis, same_cov, same_pearson, same_skew_range}
use Rattle.promises.specs.Maps.{same_kurtosis_range, MapLaw}
use Rattle.promises.proofs.Accepted.{known, weights_row}
use Rattle.promises.proofs.TwoCalls.{alike_answers}
use Rattle.promises.proofs.DemandOne.{map_wrong, number_of_lem, taken}

-- ---- maps that say the same
right : (t : Trace) → LongEnough t → wrong_map (length t.readings) t.mapped t.map ≡ false
right t h = go (wrong_map (length t.readings) t.mapped t.map) refl
  where
    go : (b : Bool) → wrong_map (length t.readings) t.mapped t.map ≡ b → b ≡ false
    go true e = absurd (h (map_wrong t e))
    go false e = refl

at_least : (t : Trace) → LongEnough t → t.mapped ≡ true → bytes_for (length t.readings) ≤ length t.map
at_least t h e = let k : ¬ (length t.map < bytes_for (length t.readings)) = λ l. h (e, l) in omega arith

behind : (t : Trace) (bytes : List ℕ) → LongEnough t → SameMaps t (padded t bytes)
behind t bytes h =
    record {
      readings = refl;
      mapped = refl;
      long = h;
      long' = λ w. let k = w.1 in let l = length-append t.map bytes in h (w.0, omega arith);
      bits = λ i l. behind_unread t.mapped t.map bytes (length t.readings) i (at_least t h) l;
    }

-- the number of a range
abbrev range_number : Trace → ℕ → ℕ → ℕ
range_number t start len = range_refusal (length t.readings) t.mapped t.map start len

module _ {t t' : Trace} (s : SameMaps t t') where
  -- the numbers
  trace-number : trace_refusal t ≡ trace_refusal t'
  trace-number = rw (right t s.long, right t' s.long', s.readings)

  range-number : (start len : ℕ) → range_number t start len ≡ range_number t' start len
  range-number start len = rw (right t s.long, right t' s.long', s.readings)

  -- the valid readings, of the trace and of a range of it
  same-readings : readings_of t ≡ readings_of t'
  same-readings =
      valid_same (valid_at t.mapped t.map) (valid_at t'.mapped t'.map) 0 t.readings (λ i k l. s.bits i (omega arith))
      ∙ rw s.readings

  same-range : (start len : ℕ) → readings_in t start len ≡ readings_in t' start len
  same-range start len =
      let cut = length-take len (drop start t.readings) in
      let rest = length-drop start t.readings in
      valid_same (valid_at t.mapped t.map) (valid_at t'.mapped t'.map) start (take len (drop start t.readings))
      (λ i k l. s.bits i (omega arith))
      ∙ rw s.readings

module _ {x y x' y' : Trace} (s : SameMaps x x') (u : SameMaps y y') where
  pair-number : paired_refusal x y ≡ paired_refusal x' y'
  pair-number = rw (right x s.long, right x' s.long', right y u.long, right y' u.long', s.readings, u.readings)

  same-pairs : paired_refusal x y ≡ 0 → pairs_of x y ≡ pairs_of x' y'
  unfolding both_at
  same-pairs e =
      let l = pair_fits (length x.readings) x.mapped x.map (length y.readings) y.mapped y.map (paired_refusal x y) refl e in
      let z = length-zip x.readings y.readings l in
      valid_same (both_at x.mapped x.map y.mapped y.map) (both_at x'.mapped x'.map y'.mapped y'.map) 0
      (zip x.readings y.readings)
      (λ i k h. rw (s.bits i (omega arith), u.bits i (omega arith)))
      ∙ rw (s.readings, u.readings)

-- ---- two calls
-- of the same number, which the first answers, and the second
same_answer : {n n' r r' : ℕ} {Same : Type 0} → r ≡ n → n ≡ n' → r' ≡ n' → (r ≡ 0 → r' ≡ 0 → Same) → SameAnswer r r' Same
same_answer a e b f = let same = a ∙ e ∙ sym b in record { number = same; answer = λ z. f z (sym same ∙ z) }

-- ---- calls that hand out a state
module _ (before after before' after' : List Float) (r r' : ℕ) where
  -- two calls of the same number and, if that is 0, of the same state
  handed-same : {S : Type 0} {list : S → List Float} {number number' : ℕ} {s s' : S} → number ≡ number' → (number ≡ 0 → s ≡ s')
      → StateResult list (answer number s) before r after → StateResult list (answer number' s') before' r' after'
      → SameAnswer r r' (after ≡ after')
  handed-same {list = list} e f c c' =
      same_answer (number_of_lem _ _ c) e (number_of_lem _ _ c')
      (λ z z'. let a = taken _ _ z c in a.1 ∙ ap list (f a.0) ∙ sym (taken _ _ z' c').1)

  same-state : {a a' : ArrayCall} → SameArrays a a' → CallsArray a before after r → CallsArray a' before' after' r'
      → SameAnswer r r' (after ≡ after')
  same-state (same_var s) c c' = handed-same (trace-number s) (λ e. ap var_whole (same-readings s)) c c'
  same-state (same_skew s) c c' = handed-same (trace-number s) (λ e. ap skew_whole (same-readings s)) c c'
  same-state (same_kurtosis s) c c' = handed-same (trace-number s) (λ e. ap kurtosis_whole (same-readings s)) c c'
  same-state (same_cov s u) c c' = handed-same (pair-number s u) (λ e. ap cov_whole (same-pairs s u e)) c c'
  same-state (same_pearson s u) c c' = handed-same (pair-number s u) (λ e. ap pearson_whole (same-pairs s u e)) c c'
  same-state (same_skew_range {start = start} {len = len} s) c c' =
      handed-same (range-number s start len) (λ e. ap skew_new (same-range s start len)) c c'
  same-state (same_kurtosis_range {start = start} {len = len} s) c c' =
      handed-same (range-number s start len) (λ e. ap kurtosis_new (same-range s start len)) c c'

-- ---- windows
-- by the kind of entry
given_long : (kind : Kind) (t t' : Given kind) → SameGiven kind t t' → places_of kind t ≡ places_of kind t'
given_long Readings t t' s = ap length s.readings
given_long Pairs t t' s = ap length s.0.readings

-- two traces that are not refused have one length, so that both maps reach every place
given_alike : (kind : Kind) (t t' : Given kind) → SameGiven kind t t' → given_refusal kind t ≡ 0 → Alike kind t t'
unfolding both_at
given_alike Readings t t' s z = record { long = given_long Readings t t' s; places = s.bits; mapped = s.mapped }
given_alike Pairs t t' s z =
    let l : length t.x.readings ≡ length t.y.readings = pair_fits _ _ _ _ _ _ _ refl z in
    record {
      long = given_long Pairs t t' s;
      places = λ i h. rw (s.0.bits i h, s.1.bits i (omega arith));
      mapped = rw (s.0.mapped, s.1.mapped);
    }

given_agree : (kind : Kind) (t t' : Given kind) → SameGiven kind t t' → (a b : ℕ) → Agree kind t t' a b
given_agree Readings t t' s a b i k l v = ap (λ (xs : List Float). reading_of xs i) s.readings
given_agree Pairs t t' s a b i k l v =
    (ap (λ (xs : List Float). reading_of xs i) s.0.readings, ap (λ (xs : List Float). reading_of xs i) s.1.readings)

given_number : (kind : Kind) (t t' : Given kind) → SameGiven kind t t' → given_refusal kind t ≡ given_refusal kind t'
given_number Readings t t' s = trace-number s
given_number Pairs t t' s = pair-number s.0 s.1

given_decoded : (kind : Kind) (h h' : Host kind) → SameHost kind h h' → SameGiven kind (decoded_of kind h) (decoded_of kind h')
given_decoded Readings h h' s = s.1
given_decoded Pairs h h' s = (s.0.1, s.1.1)

odd_same : (kind : Kind) (h h' : Host kind) → SameHost kind h h' → odd_bytes kind h ≡ odd_bytes kind h'
odd_same Readings h h' s = rw s.0
odd_same Pairs h h' s = rw (s.0.0, s.1.0)

-- the number of a call with a plan
planned_number : (q : Query) (t t' : GivenTo q) → SameGiven (kind_of q.statistic) t t' → (short short' : Bool) → short ≡ short'
    → (l l' : Lent) → SameRoom l l' → refusal_of q t short l ≡ refusal_of q t' short' l'
planned_number q t t' s short short' e l l' room =
    let kind = kind_of q.statistic in
    rw (given_number kind t t' s, given_long kind t t' s, e, room.outputs, room.work)

-- the rows of two calls that are accepted
rows_alike : (q : Query) (t t' : GivenTo q) → SameGiven (kind_of q.statistic) t t' → (l l' : Lent) → AcceptedCall q t l
    → AcceptedCall q t' l' → SameColumns (rows q.plan) l.outputs.answers l'.outputs.answers
rows_alike q t t' s l l' c c' k h =
    let kind = kind_of q.statistic in
    alike_answers q t t' l l' (given_alike kind t t' s (known q t l c).given_is) c c' k h
    (given_agree kind t t' s (row_start q.plan k) (row_end q.plan k))

-- the number of a host call
abbrev host_number : (q : Query) (h : Host (kind_of q.statistic)) → ReadingLists (kind_of q.statistic) → Lent → ℕ
host_number q h r l =
    refusal 14 (odd_bytes (kind_of q.statistic) h)
    or_else refusal_of q (decoded_of (kind_of q.statistic) h) (short_lists (kind_of q.statistic) h r) l

host_number_lem : (q : Query) (h h' : Host (kind_of q.statistic)) → SameHost (kind_of q.statistic) h h'
    → (r r' : ReadingLists (kind_of q.statistic)) → SameReadingRoom (kind_of q.statistic) h h' r r' → (l l' : Lent) → SameRoom l l'
    → host_number q h r l ≡ host_number q h' r' l'
host_number_lem q h h' s r r' short l l' room =
    let kind = kind_of q.statistic in
    rw (odd_same kind h h' s)
    (ap (λ (n : ℕ). refusal 14 (odd_bytes kind h') or_else n)
    (planned_number q (decoded_of kind h) (decoded_of kind h') (given_decoded kind h h' s) (short_lists kind h r) (short_lists kind h' r')
    short l l' room))

-- the number of a call with fixed windows
abbrev fixed_number : ℕ → (a : Statistic) → Given (kind_of a) → Lent → ℕ
fixed_number window_size a t l =
    fixed_refusal (given_refusal (kind_of a) t) (places_of (kind_of a) t) window_size (shortest_output l.outputs) (work_width a)
    (length l.work)

fixed_number_lem : (window_size : ℕ) (a : Statistic) (t t' : Given (kind_of a)) → SameGiven (kind_of a) t t' → (l l' : Lent) → SameRoom l l'
    → fixed_number window_size a t l ≡ fixed_number window_size a t' l'
fixed_number_lem window_size a t t' s l l' room =
    rw (given_number (kind_of a) t t' s, given_long (kind_of a) t t' s, room.outputs, room.work)

-- ---- weights
module _ (window_size : ℕ) (weights : List Float) where
  abbrev weights_number : Trace → ℕ → ℕ
  weights_number t outputs =
      weights_refusal (trace_refusal t) t.mapped (length t.readings) window_size (length weights) (total_of weights) outputs

  weights-number : (t t' : Trace) → SameMaps t t' → (outputs outputs' : ℕ) → outputs ≡ outputs'
      → weights_number t outputs ≡ weights_number t' outputs'
  weights-number t t' s outputs outputs' e = rw (trace-number s, s.mapped, s.readings, e)

-- ---- the law
pub map_law : MapLaw
map_law =
    record {
      behind = behind;
      arrays = λ s before after before' after' r r'. same-state before after before' after' r r' s;
      plans = λ q t t' s l₀ l l₀' l' room r r' c c'.
          same_answer c.number_is (planned_number q t t' s false false refl l₀ l₀' room) c'.number_is
          (λ z z'. rows_alike q t t' s l l' (plan_call {l₀ = l₀} (subst (λ (n : ℕ). Called q t l₀ l n) z c))
          (plan_call {l₀ = l₀'} (subst (λ (n : ℕ). Called q t' l₀' l' n) z' c')));
      hosts = λ q h h' s r₀ r r₀' r' short l₀ l l₀' l' room number number' c c'.
          same_answer c.number_is (host_number_lem q h h' s r₀ r₀' short l₀ l₀' room) c'.number_is
          (λ z z'. rows_alike q (decoded_of (kind_of q.statistic) h) (decoded_of (kind_of q.statistic) h')
          (given_decoded (kind_of q.statistic) h h' s) l l'
          (host_call {r₀ = r₀} {r = r} {l₀ = l₀} (subst (λ (n : ℕ). CalledBytes q h r₀ r l₀ l n) z c))
          (host_call {r₀ = r₀'} {r = r'} {l₀ = l₀'} (subst (λ (n : ℕ). CalledBytes q h' r₀' r' l₀' l' n) z' c')));
      -- traces of equal length have the same bounds
      fixed = λ center window_size min_periods a t t' s l₀ l l₀' l' room r r' c c'.
          same_answer c.number_is (fixed_number_lem window_size a t t' s l₀ l₀' room) c'.number_is
          (λ z z'. rows_alike (fixed_query center window_size min_periods a t) t t' s l l'
          (fixed_call {l₀ = l₀} (subst (λ (n : ℕ). CalledFixed center window_size min_periods a t l₀ l n) z c))
          (subst (λ (n : ℕ). AcceptedCall (query (bounds center window_size n) min_periods a) t' l') (sym (given_long (kind_of a) t t' s))
          (fixed_call {l₀ = l₀'} (subst (λ (n : ℕ). CalledFixed center window_size min_periods a t' l₀' l' n) z' c'))));
      weights = λ center window_size min_periods weights t t' s c₀ c c₀' c' room r r' d d'.
          same_answer d.number_is (weights-number window_size weights t t' s _ _ room) d'.number_is
          (λ z z' k h. weights_row center window_size min_periods weights t c₀ c
          (subst (λ (n : ℕ). CalledWeights center window_size min_periods weights t c₀ c n) z d) k h
          ∙ ap (λ (xs : List Float). answers_at (weighted_at center window_size min_periods weights xs ∷ []) k) s.readings
          ∙ sym (weights_row center window_size min_periods weights t' c₀' c'
          (subst (λ (n : ℕ). CalledWeights center window_size min_periods weights t' c₀' c' n) z' d') k
          (subst (λ (xs : List Float). k < length xs) s.readings h)));
    }
