-- A row's byte is told by the window that is held before it. What a row has gained when all weights are done is what 002's fold over the
-- aligned part gives, so a row's answer is the paper's; and what the ends of a weighted call leave. Assumes nothing.
use Prim.Native.Nat.{ℕ, ◌+◌, ◌-◌, ◌/◌, ◌≤◌, ◌<◌, min}
use mathlib.Core.Path.{◌≡◌, refl, sym, ap, ◌∙◌}
use mathlib.Core.Bool.{Bool, true, false, cond}
use mathlib.Core.List.{List, [], ◌∷◌, ◌++◌}
use native.Mathlib.Omega.{arith}
use mir.Val.{bool_byte}
use borrow.Author.Tests.{eqb-true, eqb-false, ltb-false, leb-true, leb-false, lt-ltb, le-ltb, not-false}
use lib.Dec.{eqb, leb, ltb, lit≤}
use lib.ListN.{length, take, drop, get_or, get_or-append}
use lib.Seq.{get_or-take, get_or-drop}
use lib.Ieee.{Float, eq}
use Rattle.float.specs.Operators.{zero64}
use Rattle.float.specs.Tables.{table}
use Rattle.float.proofs.Cases.{apart}
use Rattle.float.proofs.Counts.{zero_is}
use Rattle.float.proofs.Tables.{table-length, table-place, table_same}
use Rattle.trace.specs.Trace.{Trace, trace_of}
use Rattle.trace.specs.Lent.{LentAs}
use Rattle.trace.proofs.Lent.{lent_wrong}
use Rattle.trace.specs.Refusals.{trace_refusal}
use Rattle.std.specs.Prelude.{Result, Ok, Err, IsErrAnd}
use Rattle.trace.specs.Outcomes.{number_of, outcome_number}
use Rattle.trace.specs.declared.refusals.Refusal.{Refusal}
use Rattle.trace.proofs.Checks.{number_above}
use Rattle.trace.proofs.Accepted.{none_of, not_refused_lem}
use Rattle.moment.specs.Figure.{double_of, byte_of}
use Rattle.moment.specs.declared.Figure.{Figure}
use Rattle.moment.specs.declared.Figure.TheVariants.{Missing, Present}
use Rattle.moment.proofs.Weights.{at_zero}
use Rattle.plan.specs.Bounds.{bounds_at}
use Rattle.plan.specs.Code.Reaching.{right_of}
use Rattle.plan.specs.declared.bounds.Offsets.{Offsets}
use Rattle.plan.proofs.FixedWindows.{bounds-at, Reaches}
use Rattle.window.specs.Outputs.{Column, column, column_after, filled}
use Rattle.window.specs.Code.Filling.{Upto}
use Rattle.window.proofs.Outputs.{upto_done, unfilled, column-is}
use Rattle.weighted.specs.Weights.{total_of, variance_of, compute_var_weights, weights_start, aligned, weighted_at}
use Rattle.weighted.specs.Weights.{weights_refusal, CalledWeights}
use Rattle.weighted.specs.Code.Blocks.{BlockRows}
use Rattle.weighted.specs.Code.Sums.{Lists, sums_of, sums_at, SumsUpTo}
use Rattle.weighted.specs.Code.Rows.{length_at, validity_at, answer_of, double_at, variance_by, weighted_by}
use Rattle.weighted.specs.Code.Rows.{AcceptedWeights, WrittenWeights}

-- ---- the window that is held before row k, where there is such a row
abbrev pub Held : ℕ → ℕ → ℕ → ℕ → Offsets → Type 0
Held n left right k at = k < n → Reaches left right n k at.start at.end

module _ (n left right k : ℕ) {at : Offsets} (v : Held n left right k at) (h : k < n) where
  -- whether it is long enough
  pub validity-is : (min_periods : ℕ) → bool_byte (leb min_periods (at.end - at.start)) ≡ validity_at n left right min_periods k
  validity-is min_periods = rw ((v h).start_is, (v h).end_is) (go (leb min_periods (length_at n left right k)) refl)
    where
      go : (b : Bool) → leb min_periods (length_at n left right k) ≡ b → bool_byte b ≡ validity_at n left right min_periods k
      go true e = rw (le-ltb _ _ (leb-true _ _ e))
      go false e = rw (lt-ltb _ _ (leb-false _ _ e))

-- ---- after the last weight
-- a row's variance, of its sums
variance_done : (values weights : List Float) (total : Float) (left first until : ℕ) → BlockRows (length values) (length weights) left first until
    → {s : Lists} → SumsUpTo values weights total left first until (length weights) s → (r : ℕ) → r < until - first
    → variance_of (sums_at s r) ≡ variance_by values weights total left (length weights - left) (first + r)
variance_done values weights total left first until block held r h =
    let b = block.before in
    let z : first + r + length weights - left ≡ first + r + (length weights - left) = omega arith in
    ap variance_of (held.sums_are r h ∙ ap (λ (i : ℕ). sums_of values weights total left (first + r) (min (length values) i - (first +
    r - left))) z)

-- a block's doubles, of their sums
pub block_done : (values weights : List Float) (total : Float) (left first until : ℕ) → BlockRows (length values) (length weights) left first until
    → {s : Lists} → SumsUpTo values weights total left first until (length weights) s
    → (present : List ℕ) {figures : List Float} {m : ℕ} → m ≡ until - first
    → figures ≡ table (double_at present (λ r. variance_of (sums_at s r))) m
    → figures ≡ table (double_at present (λ r. variance_by values weights total left (length weights - left) (first + r))) (until - first)
block_done values weights total left first until block held present m t =
    t ∙ ap (table _) m
    ∙ table_same _ _ (until - first) (λ r h. ap (λ (x : Float). double_of (answer_of (get_or present r 0) x)) (variance_done values
    weights total left first until block held r h))

-- its answer has the byte by its length, and the double by its byte
module _ (values weights : List Float) (total : Float) (left right min_periods k : ℕ) where
  abbrev Short : Bool
  Short = ltb (length_at (length values) left right k) min_periods

  byte-is : validity_at (length values) left right min_periods k ≡ byte_of (weighted_by values weights total left right min_periods k)
  unfolding weighted_by
  byte-is = go Short
    where
      go : (b : Bool) → cond b 0 1 ≡ byte_of (cond b Missing (Present (variance_by values weights total left right k)))
      go true = refl
      go false = refl

  double_is : {byte : ℕ} {variance : Float} → byte ≡ validity_at (length values) left right min_periods k
      → variance ≡ variance_by values weights total left right k
      → double_of (answer_of byte variance) ≡ double_of (weighted_by values weights total left right min_periods k)
  unfolding weighted_by
  double_is e f = rw (e, f) (go Short)
    where
      go : (b : Bool) → double_of (answer_of (cond b 0 1) (variance_by values weights total left right k))
          ≡ double_of (cond b Missing (Present (variance_by values weights total left right k)))
      go true = refl
      go false = refl

-- ---- a row's answer is the paper's
module _ (center : Bool) (size n k : ℕ) (some : 1 ≤ size) (inside : k < n) where
  abbrev left : ℕ
  left = size - right_of center size

  -- the aligned part starts with the weight of the row's first place
  pub aligned-start : weights_start center size k (k - left) (min n (k + right_of center size)) ≡ left - k
  unfolding right_of
  aligned-start = go center
    where
      go : (c : Bool) → let r = cond c ((size + 1) / 2) (min size 1) in
          cond c (size / 2 - (k - (k - (size - r)))) (cond (eqb (k - (size - r)) 0) (size - (min n (k + r) - (k - (size - r)))) 0) ≡ (size - r) - k
      go true = let z : size - (size + 1) / 2 ≡ size / 2 = omega arith in rw z (omega arith)
      go false =
          let z : min size 1 ≡ 1 = omega arith in
          let y : min n (k + 1) ≡ k + 1 = omega arith in
          rw (z, y) (at (eqb (k - (size - 1)) 0) refl)
        where
          at : (b : Bool) → eqb (k - (size - 1)) 0 ≡ b → cond b (size - (k + 1 - (k - (size - 1)))) 0 ≡ (size - 1) - k
          at true e = let z = eqb-true (k - (size - 1)) 0 e in omega arith
          at false e = let z = eqb-false (k - (size - 1)) 0 e in omega arith

weighted_at_lem : (center : Bool) (size min_periods k : ℕ) (weights values : List Float) (right : ℕ) (total : Float) → 1 ≤ size → k < length values →
    right ≡ right_of center size → total ≡ total_of weights →
    weighted_by values weights total (size - right) right min_periods k ≡ weighted_at center size min_periods weights values k
unfolding weighted_by weighted_at sums_of compute_var_weights
weighted_at_lem center size min_periods k weights values right total some inside e t =
    let n = length values in
    let R = right_of center size in
    let b = bounds-at center size n k inside in
    let At : ℕ → ℕ → ℕ → Figure = λ start end first.
    cond (ltb (end - start) min_periods) Missing (Present (compute_var_weights (aligned values weights start end first))) in
    rw (e, t)
    (sym (
    ap (λ (s : ℕ). At s (bounds_at center size n k).1 (weights_start center size k s (bounds_at center size n k).1)) b.0
    ∙ ap (λ (f : ℕ). At (k - (size - R)) f (weights_start center size k (k - (size - R)) f)) b.1
    ∙ ap (At (k - (size - R)) (min n (k + R))) (aligned-start center size n k some inside)
    ))

-- all rows are answered
module _ (center : Bool) (min_periods : ℕ) (weights values : List Float) (right : ℕ) (total : Float)
    (some : 1 ≤ length weights) (reach : right ≡ right_of center (length weights)) (total-is : total ≡ total_of weights) where
  abbrev Row : ℕ → Figure
  Row k = weighted_by values weights total (length weights - right) right min_periods k

  -- a list, by any part of an answer
  list_done : {A : Type 0} (part : Figure → A) (l₀ l : List A) (k : ℕ) → k ≡ length values → Upto (λ i. part (Row i)) l₀ l k →
      l ≡ filled 0 (λ i. part (weighted_at center (length weights) min_periods weights values i)) (length values) l₀
  unfolding filled
  list_done {A} part l₀ l k e u =
      upto_done (λ i. part (Row i)) l₀ l k (length values) e u
      ∙ ap (λ (r : List A). r ++ drop (length values) l₀)
      (table_same _ _ (length values) (λ i h. ap part (weighted_at_lem center (length weights) min_periods i weights values right total some h reach total-is)))

  pub rows-done : {figures₀ figures : List Float} {present₀ present : List ℕ} {k : ℕ} → k ≡ length values →
      Upto (λ i. double_of (Row i)) figures₀ figures k →
      Upto (validity_at (length values) (length weights - right) right min_periods) present₀ present (length values) →
      WrittenWeights center min_periods weights values (column figures₀ present₀) (column figures present)
  rows-done {present₀ = present₀} {present = present} e u v =
      let bytes = table_same _ _ (length values) (λ i h. byte-is values weights total (length weights - right) right min_periods i) in
      let w : Upto (λ i. byte_of (Row i)) present₀ present (length values) =
      record { long = v.long; is = v.is ∙ ap (λ (l : List ℕ). l ++ drop (length values) present₀) bytes } in
      record { column-is = column-is (list_done double_of _ _ _ e u) (list_done byte_of _ _ _ refl w) }

-- ---- the bytes that a block is lent
part-byte : (f : ℕ → ℕ) (l₀ l : List ℕ) (n first until r : ℕ) → until ≤ n → r < until - first → Upto f l₀ l n
    → get_or (take (until - first) (drop first l)) r 0 ≡ f (first + r)
part-byte f l₀ l n first until r h o u =
    get_or-take (until - first) (drop first l) r 0 o ∙ get_or-drop first l r 0 ∙ ap (λ (k : List ℕ). get_or k (first + r) 0) u.is
    ∙ get_or-append (table f n) (drop n l₀) 0 (first + r) (rw (table-length f n) (omega arith)) ∙ table-place f n (first + r) 0
    (omega arith)

-- a block's doubles are those of its rows
pub block_doubles : (values weights : List Float) (total : Float) (left right min_periods first until : ℕ) {present₀ present : List ℕ}
    → length weights - left ≡ right → until ≤ length values → Upto (validity_at (length values) left right min_periods) present₀ present
    (length values)
    → (r : ℕ) → r < until - first
    → double_at (take (until - first) (drop first present)) (λ i. variance_by values weights total left (length weights - left) (first + i)) r
    ≡ double_of (weighted_by values weights total left right min_periods (first + r))
block_doubles values weights total left right min_periods first until {present₀} {present} e o u r h =
    double_is values weights total left right min_periods (first + r)
    (part-byte (validity_at (length values) left right min_periods) present₀ present (length values) first until r o h u)
    (ap (λ (x : ℕ). variance_by values weights total left x (first + r)) e)

-- no weights have the sum zero
some_weights : (l : List Float) → eq (total_of l) zero64 ≡ false → 1 ≤ length l
some_weights [] e = apart (sym (sym (at_zero zero64 0 (lit≤ tt) zero_is) ∙ e))
some_weights (w ∷ l) e = omega arith

-- ---- the ends of a weighted call
module _ (size : ℕ) (weights : List Float) (t : Trace) (c : Column) where
  abbrev N : ℕ
  N = length t.readings

  abbrev Number : ℕ
  Number = weights_refusal (trace_refusal t) t.mapped N size (length weights) (total_of weights) (min (length c.doubles) (length c.bytes))

  -- what it tells that no number refuses
  record Taken : Type 0 where
    few : N ≤ 16777216
    some : 1 ≤ length weights
    same : length weights ≡ size
    fit : N ≤ min (length c.doubles) (length c.bytes)

  taken : 0 ≡ Number → Taken
  unfolding weights_refusal
  taken z =
      let twelve = none_of _ _ (sym z) in
      let ten = none_of _ _ twelve.0 in
      let nine = none_of _ _ ten.0 in
      let eight = none_of _ _ nine.0 in
      let one = none_of _ _ eight.0 in
      record {
        few = ltb-false 16777216 N (not_refused_lem 1 _ (lit≤ tt) one.0);
        some = some_weights weights (not_refused_lem 9 _ (lit≤ tt) nine.1);
        same = eqb-true (length weights) size (not-false _ (not_refused_lem 10 _ (lit≤ tt) ten.1));
        fit = ltb-false _ N (not_refused_lem 12 _ (lit≤ tt) twelve.1);
      }

  pub weights-accepted : 0 ≡ Number → {total : Float} → total ≡ total_of weights →
      AcceptedWeights N weights total (length c.doubles) (length c.bytes)
  weights-accepted z e =
      let t = taken z in
      let f = t.fit in
      record { few = t.few; some = t.some; total-is = e; figures_fit = omega arith; present_fit = omega arith }

  module _ (center : Bool) (min_periods : ℕ) where
    pub weights_refused : {number : ℕ} → number ≡ Number → (number ≡ 0 → ⊥) → CalledWeights center size min_periods weights t c c number
    weights_refused {number} e h = record { number_is = e; column-is = column-is (unfilled _ number N c.doubles h) (unfilled _ number N c.bytes h) }

    -- the error that a `?` hands on
    pub weights-stopped : (r : Result (Unit {0}) Refusal) (e : Refusal) → IsErrAnd r (λ x. x ≡ e) → number_of e ≡ Number →
        CalledWeights center size min_periods weights t c c (outcome_number r)
    weights-stopped (Ok _) e h q = elim h [ ]
    weights-stopped (Err x) e h q =
        let f : 0 < number_of x = number_above x in
        weights_refused (ap number_of h ∙ q) (λ z. absurd (omega arith))

    -- rows by as many places as there are weights are rows by the window's size
    pub weights-called : {c₁ : Column} → 0 ≡ Number → WrittenWeights center min_periods weights t.readings c c₁ →
        CalledWeights center size min_periods weights t c c₁ 0
    weights-called z w =
        record {
          number_is = z;
          column-is = w.column-is ∙ ap (λ (s : ℕ). column_after 0 (weighted_at center s min_periods weights t.readings) N c) (taken z).same;
        }

-- a trace that is lent with a flag is worked as the trace that the flag tells
pub weights_lent : {center : Bool} {size min_periods : ℕ} {weights values : List Float} {has : Bool} {map : List ℕ} {t : Trace} {c₀ c₁ : Column} {number : ℕ} →
    LentAs values has map t → CalledWeights center size min_periods weights t c₀ c₁ number →
    CalledWeights center size min_periods weights (trace_of values has map) c₀ c₁ number
weights_lent {values = values} {has = has} {map = map} {t = t} h call =
    record {
      number_is = rw (lent_wrong (length t.readings) values has map t h, h.mapped_is, h.readings_are) at call.number_is;
      column-is = rw (h.readings_are) at call.column-is;
    }
