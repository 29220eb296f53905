-- Demand 1: the numbers of our definitions are put together by 'or else', as the checks are by 'then'. What a list of checks says of a
-- number is kept by both, so each kind of call is its checks one after another. Assumes nothing.
use Prim.Native.Nat.{ℕ, zero, suc, ◌<◌, min}
use mathlib.Core.Path.{◌≡◌, refl, sym, ap, ◌∙◌, subst}
use mathlib.Core.Bool.{Bool, true, false, cond, not, ◌||◌}
use mathlib.Core.List.{List, [], ◌∷◌, ◌++◌}
use mathlib.Core.Logic.{◌⊎◌, inl, inr, ⊎_elim}
use native.Mathlib.Omega.{arith}
use lib.Dec.{eqb, ltb}
use lib.ListN.{length}
use lib.Ieee.{Float}
use borrow.Author.Tests.{ltb-true, lt-ltb, eq-eqb, eqb-true, eqb-false, ne_eqb, not-true}
use Rattle.float.specs.Bytes.{reading_at}
use Rattle.float.proofs.Cases.{apart}
use Rattle.trace.specs.Trace.{Trace, bytes_for}
use Rattle.trace.specs.Refusals.{refusal, ◌or_else◌, wrong_map, trace_refusal, paired_refusal, range_refusal}
use Rattle.moment.specs.Arrays.{State, Refused, answer, answer_number}
use Rattle.plan.specs.Plan.{Plan, rows, row_start, row_end}
use Rattle.plan.specs.Refusals.{row_refusal, before, rows_refusal, needed, plan_refusal, fixed_refusal}
use Rattle.plan.proofs.Checks.{below_min}
use Rattle.window.specs.Given.{Kind, Readings, Pairs, Given, places_of, given_refusal}
use Rattle.window.specs.Outputs.{Column, Outputs, Lent, answer_lengths, count_lengths, shortest, shortest_of, shortest_output, column_after}
use Rattle.window.specs.Outputs.{kept}
use Rattle.window.proofs.Outputs.{unfilled, column-is, answered_refused, numbered_refused}
use Rattle.rolling.specs.Moments.{Statistic, Variance, Skewness, Kurtosis, Covariance, Correlation, kind_of, work_width}
use Rattle.rolling.specs.Calls.{Query, query, GivenTo, yields, tallies, Left, Called}
use Rattle.rolling.specs.Fixed.{fixed_query, CalledFixed}
use Rattle.weighted.specs.Weights.{weighted_at, weights_refusal, CalledWeights}
use Rattle.moments.specs.HostCall.{ByteTrace, reading_count, Host, decoded_of, odd_bytes, ReadingLists, short_lists, decoded_list}
use Rattle.moments.specs.HostCall.{decoded_lists, CalledBytes}
use Rattle.moments.specs.Results.{StateResult}
use Rattle.promises.specs.Calls.{ArrayCall, of_var, of_skew, of_kurtosis, of_cov, of_pearson, of_skew_range, of_kurtosis_range}
use Rattle.promises.specs.Calls.{CallsArray, members_of}
use Rattle.promises.specs.DemandOne.{checks_of, MapOfWrongLength, WrongLists, BelowRowBefore, SomeShorter, OutputShorter, Check, ◌when◌}
use Rattle.promises.specs.DemandOne.{trace_checks, pair_checks, range_checks, given_checks, row_checks, rows_checks, planned_checks}
use Rattle.promises.specs.DemandOne.{row_numbers, InOrder}
use Rattle.promises.specs.DemandOne.{NoWholeReadings, ReadingsShorter, plan_checks, host_checks, fixed_checks, weights_checks, HostLeft}
use Rattle.promises.specs.DemandOne.{WorkTooShort, FixedWorkTooShort, NoneApplies, FirstApplies, Answered, DemandOne}

-- ---- what checks say of a number: none applies and it is 0, or it is the first that applies
data Says (checks : List Check) (number : ℕ) : Type 0 where
  none : NoneApplies checks → number ≡ 0 → Says checks number
  first : FirstApplies checks number → ¬ (number ≡ 0) → Says checks number

none_both : (cs ds : List Check) → NoneApplies cs → NoneApplies ds → NoneApplies (cs ++ ds)
none_both [] ds a b = b
none_both (c ∷ cs) ds a b = (a.0, none_both cs ds a.1 b)

first_here : (cs ds : List Check) (n : ℕ) → FirstApplies cs n → FirstApplies (cs ++ ds) n
first_here [] ds n f = absurd f
first_here (c ∷ cs) ds n (inl f) = inl f
first_here (c ∷ cs) ds n (inr f) = inr (f.0, first_here cs ds n f.1)

first_later : (cs ds : List Check) (n : ℕ) → NoneApplies cs → FirstApplies ds n → FirstApplies (cs ++ ds) n
first_later [] ds n a f = f
first_later (c ∷ cs) ds n a f = inr (a.0, first_later cs ds n a.1 f)

none_first : (cs : List Check) (n : ℕ) → NoneApplies cs → FirstApplies cs n → ⊥
none_first [] n a f = f
none_first (c ∷ cs) n a (inl f) = a.0 f.1
none_first (c ∷ cs) n a (inr f) = none_first cs n a.1 f.1

-- one check
check : (number : ℕ) {P : Type 0} (b : Bool) → ¬ (number ≡ 0) → (b ≡ true → P) → (P → b ≡ true)
    → Says (number when P ∷ []) (refusal number b)
unfolding refusal
check number true some f g = first (inl (refl, f refl)) some
check number false some f g = none (λ p. apart (g p), tt) refl

infixl 5 ◌next◌
-- checks after checks
◌next◌ : {cs ds : List Check} {a b : ℕ} → Says cs a → Says ds b → Says (cs ++ ds) (a or_else b)
unfolding ◌or_else◌
◌next◌ {cs} {ds} {a} {b} (none n z) (none m y) = rw z (none (none_both cs ds n m) y)
◌next◌ {cs} {ds} {a} {b} (none n z) (first f some) = rw z (first (first_later cs ds b n f) some)
◌next◌ {cs} {ds} {a} {b} (first f some) r = rw (ne_eqb a 0 some) (first (first_here cs ds a f) some)

or_else_lem : (a b c : ℕ) → (a or_else b) or_else c ≡ a or_else (b or_else c)
unfolding ◌or_else◌
or_else_lem a b c = go (eqb a 0) refl
  where
    go : (t : Bool) → eqb a 0 ≡ t → cond (eqb (cond t b a) 0) c (cond t b a) ≡ cond t (cond (eqb b 0) c b) a
    go true e = refl
    go false e = rw e

-- two lists of checks behind another
behind : {cs ds es : List Check} {a b c : ℕ} → Says cs a → Says ds b → Says es c → Says (cs ++ (ds ++ es)) (a or_else b or_else c)
behind {cs} {ds} {es} {a} {b} {c} x y z = subst (Says (cs ++ (ds ++ es))) (sym (or_else_lem a b c)) (x next (y next z))

-- so a call with these checks is answered
answered : {checks : List Check} {number : ℕ} {A : Type 0} {before after : A} {Answer : Type 0} → Says checks number → (number ≡ 0 → Answer)
    → (¬ (number ≡ 0) → after ≡ before) → Answered checks number before after Answer
answered {checks} {number} (none n z) f g =
    record { accepted = (λ e. n, λ m. z); refused = λ some. absurd (some z); answer = f; unchanged = g }
answered {checks} {number} (first h some) f g =
    record { accepted = (λ e. absurd (some e), λ n. absurd (none_first checks number n h)); refused = λ e. h; answer = f; unchanged = g }

-- ---- each number's test is its condition
some : (n : ℕ) → ¬ (suc n ≡ 0)
some n e = omega arith

more : (number : ℕ) (a b : ℕ) → ¬ (number ≡ 0) → Says (number when (a < b) ∷ []) (refusal number (ltb a b))
more number a b h = check number (ltb a b) h (ltb-true a b) (lt-ltb a b)

differ : (a b : ℕ) → not (eqb a b) ≡ true → ¬ (a ≡ b)
differ a b h = eqb-false a b (not-true (eqb a b) h)

differ_true : (a b : ℕ) → ¬ (a ≡ b) → not (eqb a b) ≡ true
differ_true a b h = ap not (ne_eqb a b h)

-- either of two
pub either : {P Q : Type 0} (a b : Bool) → (a ≡ true → P) → (b ≡ true → Q) → (a || b) ≡ true → P ⊎ Q
either true b f g h = inl (f refl)
either false b f g h = inr (g h)

either_true : {P Q : Type 0} (a b : Bool) → (P → a ≡ true) → (Q → b ≡ true) → P ⊎ Q → (a || b) ≡ true
either_true true b f g h = refl
either_true false b f g (inl p) = apart (f p)
either_true false b f g (inr q) = g q

pub map_wrong : (t : Trace) → wrong_map (length t.readings) t.mapped t.map ≡ true → MapOfWrongLength t
unfolding wrong_map
map_wrong t h = go t.mapped refl h
  where
    go : (m : Bool) → t.mapped ≡ m → cond m (ltb (length t.map) (bytes_for (length t.readings))) false ≡ true
        → MapOfWrongLength t
    go true e h = (e, ltb-true _ _ h)
    go false e h = apart h

map_wrong_true : (t : Trace) → MapOfWrongLength t → wrong_map (length t.readings) t.mapped t.map ≡ true
unfolding wrong_map
map_wrong_true t (e, h) = rw e (lt-ltb _ _ h)

-- ---- by the kind of call
trace_says : (t : Trace) → Says (trace_checks t) (trace_refusal t)
trace_says t = more 1 _ _ (some 0) next check 3 _ (some 2) (map_wrong t) (map_wrong_true t)

pair_says : (x y : Trace) → Says (pair_checks x y) (paired_refusal x y)
pair_says x y =
    check 1 _ (some 0) (either _ _ (ltb-true _ _) (ltb-true _ _)) (either_true _ _ (lt-ltb _ _) (lt-ltb _ _))
    next check 2 _ (some 1) (differ _ _) (differ_true _ _)
    next check 3 _ (some 2) (either _ _ (map_wrong x) (map_wrong y)) (either_true _ _ (map_wrong_true x) (map_wrong_true y))

given_says : (kind : Kind) (t : Given kind) → Says (given_checks kind t) (given_refusal kind t)
given_says Readings t = trace_says t
given_says Pairs t = pair_says t.x t.y

range_says : (t : Trace) (start len : ℕ)
    → Says (range_checks t start len) (range_refusal (length t.readings) t.mapped t.map start len)
range_says t start len = trace_says t next more 11 _ _ (some 10)

-- "each row tested for 5, 6, 7"
row_says : (n : ℕ) (p : Plan) (k : ℕ)
    → Says (row_checks n p k) (row_refusal n (before p.starts k) (before p.ends k) (row_start p k) (row_end p k))
unfolding row_refusal
row_says n p k = more 5 _ _ (some 4) next more 6 _ _ (some 5) next check 7 _ (some 6) (below k) (below_true k)
  where
    below : (k : ℕ) → (ltb (row_start p k) (before p.starts k) || ltb (row_end p k) (before p.ends k)) ≡ true → BelowRowBefore p k
    below zero h = absurd (go (either _ _ (ltb-true (row_start p 0) 0) (ltb-true (row_end p 0) 0) h))
      where
        go : (row_start p 0 < 0) ⊎ (row_end p 0 < 0) → ⊥
        go (inl l) = omega arith
        go (inr l) = omega arith
    below (suc k) h = either _ _ (ltb-true _ _) (ltb-true _ _) h

    below_true : (k : ℕ) → BelowRowBefore p k → (ltb (row_start p k) (before p.starts k) || ltb (row_end p k) (before p.ends k)) ≡ true
    below_true zero h = absurd h
    below_true (suc k) h = either_true _ _ (lt-ltb _ _) (lt-ltb _ _) h

rows_say : (n : ℕ) (p : Plan) (k : ℕ) → Says (rows_checks n p k) (rows_refusal n p k)
unfolding rows_checks rows_refusal
rows_say n p zero = none tt refl
rows_say n p (suc k) = rows_say n p k next row_says n p k

-- what is given, a plan over n places, and the lists
planned_say : {given : List Check} {number : ℕ} {Short : Type 0} (p : Plan) (n : ℕ) (short : Bool) (outputs width work : ℕ)
    → Says given number
    → ((short || ltb outputs (rows p)) ≡ true → Short) → (Short → (short || ltb outputs (rows p)) ≡ true)
    → Says (given ++ (4 when WrongLists p ∷ []) ++ rows_checks n p (rows p) ++ (12 when Short ∷ 13 when (work < needed width p) ∷ []))
    (plan_refusal number p n short outputs width work)
unfolding plan_refusal
planned_say p n short outputs width work g f h =
    behind
    (g next check 4 _ (some 3) (either _ _ (differ _ _) (ltb-true _ _)) (either_true _ _ (differ_true _ _) (lt-ltb _ _))
    next rows_say n p (rows p))
    (check 12 _ (some 11) f h)
    (more 13 _ _ (some 12))

-- ---- the lists that are lent
-- the smaller of two is below n exactly when one of them is
one_below : (a b n : ℕ) → ltb (min a b) n ≡ true → (a < n) ⊎ (b < n)
one_below a b n h = either _ _ (ltb-true a n) (ltb-true b n) (sym (below_min a b n) ∙ h)

one_below_true : (a b n : ℕ) → (a < n) ⊎ (b < n) → ltb (min a b) n ≡ true
one_below_true a b n h = below_min a b n ∙ either_true _ _ (lt-ltb a n) (lt-ltb b n) h

-- the shortest is too short exactly when one of them is
shorter : (a : ℕ) (l : List ℕ) (n : ℕ) → shortest a l < n → SomeShorter (a ∷ l) n
shorter a [] n h = inl h
shorter a (b ∷ l) n h = go (shorter (min a b) l n h)
  where
    go : (min a b < n) ⊎ SomeShorter l n → (a < n) ⊎ ((b < n) ⊎ SomeShorter l n)
    go (inl m) = ⊎_elim (λ k. inl k) (λ k. inr (inl k)) (one_below a b n (lt-ltb (min a b) n m))
    go (inr s) = inr (inr s)

shorter_back : (a : ℕ) (l : List ℕ) (n : ℕ) → SomeShorter (a ∷ l) n → shortest a l < n
shorter_back a [] n (inl h) = h
shorter_back a [] n (inr h) = absurd h
shorter_back a (b ∷ l) n (inl h) = shorter_back (min a b) l n (inl (omega arith))
shorter_back a (b ∷ l) n (inr (inl h)) = shorter_back (min a b) l n (inl (omega arith))
shorter_back a (b ∷ l) n (inr (inr h)) = shorter_back (min a b) l n (inr h)

-- every call gives a figure, so there is a list
module _ (n : ℕ) where
  outputs-short : (l : Outputs) → 0 < length l.answers → ltb (shortest_output l) n ≡ true → OutputShorter l n
  outputs-short l = go l.answers
    where
      go : (cs : List Column) → 0 < length cs → ltb (shortest_of (answer_lengths cs ++ count_lengths l.counts)) n ≡ true
          → SomeShorter (answer_lengths cs ++ count_lengths l.counts) n
      go [] h e = absurd (omega arith)
      go (c ∷ cs) h e = shorter (length c.doubles) (length c.bytes ∷ answer_lengths cs ++ count_lengths l.counts) n (ltb-true _ _ e)

  outputs-short-true : (l : Outputs) → 0 < length l.answers → OutputShorter l n → ltb (shortest_output l) n ≡ true
  outputs-short-true l = go l.answers
    where
      go : (cs : List Column) → 0 < length cs → SomeShorter (answer_lengths cs ++ count_lengths l.counts) n
          → ltb (shortest_of (answer_lengths cs ++ count_lengths l.counts)) n ≡ true
      go [] h e = absurd (omega arith)
      go (c ∷ cs) h e =
          lt-ltb _ _ (shorter_back (length c.doubles) (length c.bytes ∷ answer_lengths cs ++ count_lengths l.counts) n e)

some_figure : (a : Statistic) (t : Given (kind_of a)) (min_periods : ℕ) (p : Plan)
    → 0 < length (yields (query p min_periods a) t)
some_figure (Variance ddof) t min_periods p = omega arith
some_figure (Skewness bias) t min_periods p = omega arith
some_figure (Kurtosis fisher bias) t min_periods p = omega arith
some_figure (Covariance ddof) t min_periods p = omega arith
some_figure Correlation t min_periods p = omega arith

some_list_lem : (q : Query) (t : GivenTo q) (l₀ l : Lent) (number : ℕ) → Left q t l₀ l number → 0 < length l₀.outputs.answers
some_list_lem q t l₀ l number w =
    let h = some_figure q.statistic t q.min_periods q.plan in
    let e = w.fits.answers in
    omega arith

-- a refusal leaves them as they were
lent_kept : (q : Query) (t : GivenTo q) (l₀ l : Lent) (number : ℕ) → Left q t l₀ l number → ¬ (number ≡ 0) → l ≡ l₀
unfolding kept
lent_kept q t l₀ l number w h =
    let a = w.written.answers_are ∙ sym (answered_refused number (rows q.plan) (yields q t) l₀.outputs.answers h) in
    let c = w.written.counts_are ∙ sym (numbered_refused number (rows q.plan) (tallies q t) l₀.outputs.counts h) in
    let k : l.work ≡ l₀.work = rw (ne_eqb number 0 h) at w.work_kept in
    ap (λ (cs : List Column). record { outputs = record { answers = cs; counts = l.outputs.counts }; work = l.work }) a
    ∙ ap (λ (ls : List (List ℕ)). record { outputs = record { answers = l₀.outputs.answers; counts = ls }; work = l.work }) c
    ∙ ap (λ (x : List Float). record { outputs = l₀.outputs; work = x }) k

-- what is left of an accepted one
left_zero_lem : (q : Query) (t : GivenTo q) (l₀ l : Lent) (number : ℕ) → Left q t l₀ l number → number ≡ 0 → Left q t l₀ l 0
left_zero_lem q t l₀ l number w e = subst (λ (n : ℕ). Left q t l₀ l n) e w

-- ---- the order
in_later : (cs : List Check) (ns ms : List ℕ) → InOrder cs ms → InOrder cs (ns ++ ms)
in_later [] ns ms i = tt
in_later (c ∷ cs) [] ms i = i
in_later (c ∷ cs) (n ∷ ns) ms i = inr (in_later (c ∷ cs) ns ms i)

in_both : (cs ds : List Check) (ns ms : List ℕ) → InOrder cs ns → InOrder ds ms → InOrder (cs ++ ds) (ns ++ ms)
in_both [] ds ns ms i j = in_later ds ns ms j
in_both (c ∷ cs) ds [] ms i j = absurd i
in_both (c ∷ cs) ds (n ∷ ns) ms (inl (e, i)) j = inl (e, in_both cs ds ns ms i j)
in_both (c ∷ cs) ds (n ∷ ns) ms (inr i) j = inr (in_both (c ∷ cs) ds ns ms i j)

rows_order : (n : ℕ) (p : Plan) (k : ℕ) → InOrder (rows_checks n p k) (row_numbers k)
unfolding rows_checks row_numbers
rows_order n p zero = tt
rows_order n p (suc k) = in_both (rows_checks n p k) (row_checks n p k) (row_numbers k) _ (rows_order n p k)
    (inl (refl, inl (refl, inl (refl, tt))))

-- 12 and 13 behind all others
lists_order : (P Q : Type 0) → InOrder (12 when P ∷ 13 when Q ∷ []) (8 ∷ 9 ∷ 10 ∷ 11 ∷ 12 ∷ 13 ∷ [])
lists_order P Q = inr (inr (inr (inr (inl (refl, inl (refl, tt))))))

given_order : (kind : Kind) (t : Given kind) → InOrder (given_checks kind t) (1 ∷ 2 ∷ 3 ∷ [])
given_order Readings t = inl (refl, inr (inl (refl, tt)))
given_order Pairs t = inl (refl, inl (refl, inl (refl, tt)))

planned_order : (kind : Kind) (t : Given kind) (n : ℕ) (Short : Type 0) (q : Query) (l : Lent)
    → InOrder (planned_checks (given_checks kind t) n Short q l)
    ((1 ∷ 2 ∷ 3 ∷ 4 ∷ []) ++ row_numbers (rows q.plan) ++ (8 ∷ 9 ∷ 10 ∷ 11 ∷ 12 ∷ 13 ∷ []))
planned_order kind t n Short q l =
    let p = q.plan in
    in_both (given_checks kind t ++ (4 when WrongLists p ∷ []) ++ rows_checks n p (rows p)) _ ((1 ∷ 2 ∷ 3 ∷ 4 ∷ []) ++ row_numbers (rows p)) _
    (in_both (given_checks kind t ++ (4 when WrongLists p ∷ [])) (rows_checks n p (rows p)) (1 ∷ 2 ∷ 3 ∷ 4 ∷ []) (row_numbers (rows p))
    (in_both (given_checks kind t) (4 when WrongLists p ∷ []) (1 ∷ 2 ∷ 3 ∷ []) (4 ∷ []) (given_order kind t) (inl (refl, tt)))
    (rows_order n p (rows p)))
    (lists_order Short (WorkTooShort q l))

-- ---- states
module _ {S : Type 0} {list : S → List Float} (number : ℕ) (s : S) {before after : List Float} where
  -- what a call answers is its number
  pub number_of_lem : {r : ℕ} → StateResult list (answer number s) before r after → r ≡ number
  unfolding answer
  number_of_lem {r} c = go (eqb number 0) refl c.number
    where
      go : (b : Bool) → eqb number 0 ≡ b → r ≡ answer_number (cond b (State s) (Refused number)) → r ≡ number
      go true e n = n ∙ sym (eqb-true number 0 e)
      go false e n = n

  -- an accepted call has the number 0, and leaves the state
  pub taken : {r : ℕ} → r ≡ 0 → StateResult list (answer number s) before r after → (number ≡ 0) × (after ≡ list s)
  unfolding answer
  taken z c = let e = sym (number_of_lem c) ∙ z in (e, rw (eq-eqb number 0 e) at c.state)

  -- a refused one leaves what was there before
  left-before : {r : ℕ} → ¬ (r ≡ 0) → StateResult list (answer number s) before r after → after ≡ before
  unfolding answer
  left-before h c = rw (ne_eqb number 0 (λ z. h (number_of_lem c ∙ z))) at c.state

  handed : {checks : List Check} → Says checks number → {r : ℕ} → StateResult list (answer number s) before r after
      → Answered checks r before after (after ≡ list s)
  handed {checks} says c = answered (subst (Says checks) (sym (number_of_lem c)) says) (λ z. (taken z c).1) (λ h. left-before h c)

arrays : (a : ArrayCall) (before after : List Float) (r : ℕ) → CallsArray a before after r
    → Answered (checks_of a) r before after (after ≡ members_of a)
arrays (of_var t) before after r c = handed _ _ (trace_says t) c
arrays (of_skew t) before after r c = handed _ _ (trace_says t) c
arrays (of_kurtosis t) before after r c = handed _ _ (trace_says t) c
arrays (of_cov x y) before after r c = handed _ _ (pair_says x y) c
arrays (of_pearson x y) before after r c = handed _ _ (pair_says x y) c
arrays (of_skew_range t start len) before after r c = handed _ _ (range_says t start len) c
arrays (of_kurtosis_range t start len) before after r c = handed _ _ (range_says t start len) c

-- ---- windows
plans : (q : Query) (t : GivenTo q) (l₀ l : Lent) (r : ℕ) → Called q t l₀ l r → Answered (plan_checks q t l₀) r l₀ l (Left q t l₀ l 0)
plans q t l₀ l r c =
    let h = some_list_lem q t l₀ l r c.left in
    let says = planned_say q.plan (places_of (kind_of q.statistic) t) false (shortest_output l₀.outputs)
    (work_width q.statistic) (length l₀.work)
    (given_says (kind_of q.statistic) t) (outputs-short (rows q.plan) l₀.outputs h)
    (outputs-short-true (rows q.plan) l₀.outputs h) in
    answered (subst (Says (plan_checks q t l₀)) (sym c.number_is) says) (left_zero_lem q t l₀ l r c.left) (lent_kept q t l₀ l r c.left)

-- 14 and the reading lists, by the kind
odd_says : (kind : Kind) (h : Host kind) → Says (14 when NoWholeReadings kind h ∷ []) (refusal 14 (odd_bytes kind h))
odd_says Readings h = check 14 _ (some 13) (differ _ _) (differ_true _ _)
odd_says Pairs h = check 14 _ (some 13) (either _ _ (differ _ _) (differ _ _)) (either_true _ _ (differ_true _ _) (differ_true _ _))

short_readings : (kind : Kind) (h : Host kind) (r : ReadingLists kind) → short_lists kind h r ≡ true → ReadingsShorter kind h r
short_readings Readings h r = ltb-true _ _
short_readings Pairs h r = either _ _ (ltb-true _ _) (ltb-true _ _)

short_readings_true : (kind : Kind) (h : Host kind) (r : ReadingLists kind) → ReadingsShorter kind h r → short_lists kind h r ≡ true
short_readings_true Readings h r = lt-ltb _ _
short_readings_true Pairs h r = either_true _ _ (lt-ltb _ _) (lt-ltb _ _)

list_kept_lem : (h : ByteTrace) (l : List Float) (number : ℕ) → ¬ (number ≡ 0) → decoded_list number h l ≡ l
list_kept_lem h l number some = sym (unfilled (reading_at h.bytes) number (reading_count h) l some)

readings_kept : (kind : Kind) (h : Host kind) (r₀ r : ReadingLists kind) (number : ℕ) → r ≡ decoded_lists kind number h r₀
    → ¬ (number ≡ 0) → r ≡ r₀
readings_kept Readings h r₀ r number e some = e ∙ list_kept_lem h r₀ number some
readings_kept Pairs h r₀ r number e some = e ∙ rw (list_kept_lem h.x r₀.0 number some, list_kept_lem h.y r₀.1 number some)

hosts : (q : Query) (h : Host (kind_of q.statistic)) (r₀ r : ReadingLists (kind_of q.statistic)) (l₀ l : Lent) (number : ℕ)
    → CalledBytes q h r₀ r l₀ l number
    → Answered (host_checks q h r₀ l₀) number {A = ReadingLists (kind_of q.statistic) × Lent} (r₀, l₀) (r, l) (HostLeft q h r₀ r l₀ l)
hosts q h r₀ r l₀ l number c =
    let kind = kind_of q.statistic in
    let t = decoded_of kind h in
    let o = some_list_lem q t l₀ l number c.left in
    let says = odd_says kind h
    next planned_say q.plan (places_of kind t) (short_lists kind h r₀) (shortest_output l₀.outputs) (work_width q.statistic)
    (length l₀.work)
    (given_says kind t)
    (either _ _ (short_readings kind h r₀) (outputs-short (rows q.plan) l₀.outputs o))
    (either_true _ _ (short_readings_true kind h r₀) (outputs-short-true (rows q.plan) l₀.outputs o)) in
    answered (subst (Says (host_checks q h r₀ l₀)) (sym c.number_is) says)
    (λ e. record {
      readings_are = subst (λ (n : ℕ). r ≡ decoded_lists kind n h r₀) e c.readings_are;
      left = left_zero_lem q t l₀ l number
          c.left e;
    })
    (λ e. ap (λ (x : ReadingLists kind). (x, l)) (readings_kept kind h r₀ r number c.readings_are e)
    ∙ ap (λ (m : Lent). (r₀, m)) (lent_kept q t l₀ l number c.left e))

fixed : (center : Bool) (window_size min_periods : ℕ) (a : Statistic) (t : Given (kind_of a)) (l₀ l : Lent) (r : ℕ)
    → CalledFixed center window_size min_periods a t l₀ l r
    → Answered (fixed_checks window_size a t l₀) r l₀ l (Left (fixed_query center window_size min_periods a t) t l₀ l 0)
unfolding fixed_refusal
fixed center window_size min_periods a t l₀ l r c =
    let q = fixed_query center window_size min_periods a t in
    let n = places_of (kind_of a) t in
    let w = c.plan_call.left in
    let h = some_list_lem q t l₀ l r w in
    let says = behind (given_says (kind_of a) t)
    (check 12 _ (some 11) (outputs-short n l₀.outputs h) (outputs-short-true n l₀.outputs h)) (more 13 _ _ (some 12)) in
    answered (subst (Says (fixed_checks window_size a t l₀)) (sym c.number_is) says) (left_zero_lem q t l₀ l r w) (lent_kept q t l₀ l r w)

weighted : (center : Bool) (window_size min_periods : ℕ) (weights : List Float) (t : Trace) (c₀ c : Column) (r : ℕ)
    → CalledWeights center window_size min_periods weights t c₀ c r
    → Answered (weights_checks window_size weights t c₀) r c₀ c
    (c ≡ column_after 0 (weighted_at center window_size min_periods weights t.readings) (length t.readings) c₀)
unfolding weights_refusal
weighted center window_size min_periods weights t c₀ c r call =
    let n = length t.readings in
    let row = weighted_at center window_size min_periods weights t.readings in
    let says = trace_says t
    next check 8 _ (some 7) (λ e. e) (λ e. e)
    next check 9 _ (some 8) (λ e. e) (λ e. e)
    next check 10 _ (some 9) (differ _ _) (differ_true _ _)
    next check 12 _ (some 11) (one_below _ _ _) (one_below_true _ _ _) in
    answered (subst (Says (weights_checks window_size weights t c₀)) (sym call.number_is) says)
    (λ e. subst (λ (m : ℕ). c ≡ column_after m row n c₀) e call.column-is)
    (λ e. call.column-is ∙ sym (column-is (unfilled _ r n c₀.doubles e) (unfilled _ r n c₀.bytes e)))

pub demand_one : DemandOne
unfolding row_numbers
demand_one =
    record {
      arrays = arrays;
      plans = plans;
      hosts = hosts;
      fixed = fixed;
      weights = weighted;
      states = λ d r e. answered (none tt refl) (λ z. e) (λ z. absurd (z refl));
      figures = λ f n b a c. answered (none tt refl) (λ z. c) (λ z. absurd (z refl));
      trace_order = λ t. inr (inl (refl, inr (inl (refl, tt))));
      pair_order = λ x y. inr (inl (refl, inl (refl, inl (refl, tt))));
      range_order = λ t s n. inr (inl (refl, inr (inl (refl, inr (inr (inr (inr (inl (refl, tt)))))))));
      plan_order = λ q t l. in_later (plan_checks q t l) (14 ∷ []) _ (planned_order (kind_of q.statistic) t _ _ q l);
      host_order = λ q h r l. inl (refl, planned_order (kind_of q.statistic) (decoded_of (kind_of q.statistic) h) _ _ q l);
      fixed_order = λ s a t l. in_later (fixed_checks s a t l) (14 ∷ []) _
          (in_both (given_checks (kind_of a) t) _ (1 ∷ 2 ∷ 3 ∷ []) (4 ∷ 8 ∷ 9 ∷ 10 ∷ 11 ∷ 12 ∷ 13 ∷ []) (given_order (kind_of a) t)
          (inr (lists_order (OutputShorter l.outputs (places_of (kind_of a) t)) (FixedWorkTooShort a s (places_of (kind_of a) t) l))));
      weights_order = λ s w t c. inr (inl (refl, inr (inl (refl, inr (inl (refl, inl (refl, inl (refl, inr (inl (refl, tt))))))))));
    }
