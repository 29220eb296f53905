-- The bounds of fixed windows are rows that reach so many places to each side, and these are a plan in order, whose widest window is
-- the smaller of size and series; so nothing more refuses a plan call of them. From row to row a start stays until there are enough
-- places before it and an end until there are none behind it; so the step of a row is the next row. Assumes nothing.
use Rattle.std.proofs.Common.{◌≡◌, ℕ, ◌+◌, ◌-◌, ◌*◌, ◌/◌, ◌%◌, ◌^◌, ◌<◌, ◌≤◌, min, Bool, true, false, cond, ◌||◌, eqb, ltb, List, length, sym, refl, ap, ◌∙◌, subst, le_trans, le_refl, arith, lit≤, ltb-false, ltb-true, le-ltb, eq-eqb, eqb-true}
use borrow.Author.Tests.{eqb-false}
use Rattle.float.proofs.Cases.{Or, here, there, order}
use Rattle.float.proofs.Tables.{table-length, table-place, table_same}
use Rattle.trace.specs.Refusals.{refusal, ◌or_else◌, too_many}
use Rattle.trace.proofs.Accepted.{none_of, not_refused_lem}
use Rattle.plan.specs.Plan.{Plan, rows, row_start, row_end}
use Rattle.plan.specs.Bounds.{bounds_at, bounds, next_offsets}
use Rattle.plan.specs.Refusals.{wrong_lists, rows_refusal, widest, plan_refusal, fixed_refusal}
use Rattle.std.specs.Prelude.{Ok}
use Rattle.plan.specs.Code.Accepted.{Planned, Accepted, ChecksWindows}
use Rattle.plan.specs.Code.Reaching.{right_of, reaching, rows_of, StepsTo}
use Rattle.plan.proofs.Plans.{first_stands, none_then, wide-all, rows-in-order, widest-under}

-- as many rows as places, or as are listed
pub rows_are : (left right n : ℕ) (starts ends : List ℕ) (fixed : Bool)
    → cond fixed n (length starts) ≡ rows (rows_of fixed left right n starts ends)
rows_are left right n starts ends true = sym (table-length (λ i. i - left) n)
rows_are left right n starts ends false = refl

-- as many rows as places
pub reaching_rows : (left right n : ℕ) → rows (reaching left right n) ≡ n
reaching_rows left right n = table-length (λ i. i - left) n

-- ---- a step
-- a pair by its parts
pair_is : (p : ℕ × ℕ) {a b : ℕ} → p.0 ≡ a → p.1 ≡ b → p ≡ (a, b)
pair_is p e f = rw (← e, ← f) refl

-- row k's window, as far as it reaches
pub record Reaches (left right n k s e : ℕ) : Type 0 where
  pub start_is : s ≡ k - left
  pub end_is : e ≡ min n (k + right)

module _ (left right n : ℕ) where
  pub reaches-first : {s e : ℕ} → s ≡ 0 → e ≡ min n right → Reaches left right n 0 s e
  reaches-first a b = record { start_is = a ∙ omega arith; end_is = b ∙ omega arith }

  module _ (i : ℕ) where
    next_start : (next_offsets i (i - left, min n (i + right)) left n).0 ≡ (i + 1) - left
    next_start = go (ltb i left) refl
      where
        go : (b : Bool) → ltb i left ≡ b → cond b (i - left) (i - left + 1) ≡ (i + 1) - left
        go true e = let o = ltb-true i left e in omega arith
        go false e = let o = ltb-false i left e in omega arith

    next-end : (next_offsets i (i - left, min n (i + right)) left n).1 ≡ min n (i + 1 + right)
    next-end = go (ltb (min n (i + right)) n) refl
      where
        go : (b : Bool) → ltb (min n (i + right)) n ≡ b → cond b (min n (i + right) + 1) (min n (i + right)) ≡ min n (i + 1 + right)
        go true e = let o = ltb-true (min n (i + right)) n e in omega arith
        go false e = let o = ltb-false (min n (i + right)) n e in omega arith

    next-reaches : next_offsets i (i - left, min n (i + right)) left n ≡ ((i + 1) - left, min n (i + 1 + right))
    next-reaches = pair_is (next_offsets i (i - left, min n (i + right)) left n) next_start next-end

    -- the code's step, whose start does not wrap
    pub reaches-next : i < n → n < 2 ^ 64 → {s e s' e' : ℕ} → Reaches left right n i s e → StepsTo (next_offsets i (s, e) left n) s' e'
        → Reaches left right n (i + 1) s' e'
    reaches-next h f {s} {e} v o =
        let q : next_offsets i (s, e) left n ≡ ((i + 1) - left, min n (i + 1 + right)) = rw (v.start_is, v.end_is) next-reaches in
        let z : (i + 1 - left) % 2 ^ 64 ≡ (i + 1) - left = omega arith in
        record {
          start_is = o.start_is ∙ ap (λ (p : ℕ × ℕ). p.0 % 2 ^ 64) q ∙ z;
          end_is = o.end_is ∙ ap (λ (p : ℕ × ℕ). p.1) q;
        }

-- ---- rows that reach `left` places before their own and `right` from it on
module _ (left right n : ℕ) where
  abbrev S : ℕ → ℕ
  S i = i - left

  abbrev E : ℕ → ℕ
  E i = min n (i + right)

  -- row k's window
  pub start-at : (k : ℕ) → k < n → row_start (reaching left right n) k ≡ k - left
  start-at k h = table-place S n k 0 h

  pub end-at : (k : ℕ) → k < n → row_end (reaching left right n) k ≡ min n (k + right)
  end-at k h = table-place E n k 0 h

  reaching-planned : (w : ℕ) → min (left + right) n ≤ w → Planned n w (reaching left right n)
  reaching-planned w h =
      let l = table-length S n in
      record {
        same = l ∙ sym (table-length E n);
        row = λ k o.
            let i : k < n = rw l at o in
            rw (start-at k i, end-at k i) (omega arith, omega arith, omega arith);
        rising = λ j k g o.
            let i : k < n = rw l at o in
            rw (start-at j (omega arith), end-at j (omega arith), start-at k i, end-at k i) (omega arith, omega arith);
      }

  wide_at : (k : ℕ) → k < n → row_end (reaching left right n) k - row_start (reaching left right n) k ≡ E k - S k
  wide_at k h = rw (start-at k h, end-at k h)

  -- the row of place `left`, or the last one, is as wide as any
  some-wide : (k : ℕ) → k < n → min (left + right) n ≤ E k - S k → min (left + right) n ≤ widest (reaching left right n) n
  some-wide k h o = let w = wide-all n (reaching left right n) n k h in let e = wide_at k h in le_trans o (rw e at w)

  widest-some : 1 ≤ right → 0 < n → min (left + right) n ≤ widest (reaching left right n) n
  widest-some r h = go (order n left)
    where
      go : Or (n ≤ left) (left < n) → min (left + right) n ≤ widest (reaching left right n) n
      go (here l) = let z : (n - 1) - left ≡ 0 = omega arith in some-wide (n - 1) (omega arith) (rw z (omega arith))
      go (there l) = let z : left - left ≡ 0 = omega arith in some-wide left l (rw z (omega arith))

  reaching-widest : ((1 ≤ left + right) → 1 ≤ right) → widest (reaching left right n) n ≡ min (left + right) n
  reaching-widest f = go (eqb (left + right) 0) refl (eqb n 0) refl
    where
      under : widest (reaching left right n) n ≤ min (left + right) n
      under = widest-under n (reaching left right n) (min (left + right) n) n (λ k h. rw (wide_at k h) (omega arith))

      go : (a : Bool) → eqb (left + right) 0 ≡ a → (b : Bool) → eqb n 0 ≡ b → widest (reaching left right n) n ≡ min (left + right) n
      go true e b z = let u = under in let x = eqb-true (left + right) 0 e in omega arith
      go false e true z = let u = under in let y = eqb-true n 0 z in omega arith
      go false e false z =
          let u = under in
          let x = eqb-false (left + right) 0 e in
          let y = eqb-false n 0 z in
          let o = widest-some (f (omega arith)) (omega arith) in
          omega arith

-- ---- 006's bounds
module _ (center : Bool) (size n : ℕ) where
  abbrev right : ℕ
  right = right_of center size

  abbrev left : ℕ
  left = size - right

  pub right_le : right ≤ size
  unfolding right_of
  right_le = go center
    where
      go : (c : Bool) → cond c ((size + 1) / 2) (min size 1) ≤ size
      go true = omega arith
      go false = omega arith

  pub right-some : 1 ≤ size → 1 ≤ right
  unfolding right_of
  right-some h = go center
    where
      go : (c : Bool) → 1 ≤ cond c ((size + 1) / 2) (min size 1)
      go true = omega arith
      go false = omega arith

  abbrev at : ℕ → Bool → Bool → ℕ × ℕ
  at i c b = cond c (cond b (i, i) (i - (size - (size + 1) / 2), min n (i + (size + 1) / 2))) (cond b (i, i) (i - (size - 1), i + 1))

  abbrev reach : Bool → ℕ
  reach c = cond c ((size + 1) / 2) (min size 1)

  pub bounds-at : (i : ℕ) → i < n → ((bounds_at center size n i).0 ≡ i - left) × ((bounds_at center size n i).1 ≡ min n (i + right))
  unfolding right_of
  bounds-at i h = go center (eqb size 0) refl
    where
      go : (c b : Bool) → eqb size 0 ≡ b → ((at i c b).0 ≡ i - (size - reach c)) × ((at i c b).1 ≡ min n (i + reach c))
      go true true e = let z = eqb-true size 0 e in (omega arith, omega arith)
      go true false e = (refl, refl)
      go false true e = let z = eqb-true size 0 e in (omega arith, omega arith)
      go false false e = let z = eqb-false size 0 e in (omega arith, omega arith)

  -- a row's pair, and its step
  bounds-pair : (i : ℕ) → i < n → bounds_at center size n i ≡ (i - left, min n (i + right))
  bounds-pair i h = let b = bounds-at i h in pair_is (bounds_at center size n i) b.0 b.1

  pub next-bounds : (i : ℕ) → i + 1 < n → next_offsets i (bounds_at center size n i) left n ≡ bounds_at center size n (i + 1)
  next-bounds i h =
      ap (λ (p : ℕ × ℕ). next_offsets i p left n) (bounds-pair i (omega arith))
      ∙ next-reaches left right n i
      ∙ sym (bounds-pair (i + 1) h)

  -- and in the code's numbers
  pub steps-bounds : (i : ℕ) → i + 1 < n → n < 2 ^ 64 → {s e s' e' : ℕ} → (s, e) ≡ bounds_at center size n i
      → StepsTo (next_offsets i (s, e) left n) s' e' → (s', e') ≡ bounds_at center size n (i + 1)
  steps-bounds i h f {s} {e} {s'} {e'} b o =
      let q = b ∙ bounds-pair i (omega arith) in
      let v : Reaches left right n i s e = record { start_is = ap (λ (p : ℕ × ℕ). p.0) q; end_is = ap (λ (p : ℕ × ℕ). p.1) q } in
      let w = reaches-next left right n i (omega arith) f v o in
      pair_is (s', e') w.start_is w.end_is ∙ sym (bounds-pair (i + 1) h)

  pub bounds-reach : bounds center size n ≡ reaching left right n
  unfolding bounds
  bounds-reach =
      rw (
        table_same (λ i. (bounds_at center size n i).0) (λ i. i - left) n (λ i h. (bounds-at i h).0),
        table_same (λ i. (bounds_at center size n i).1) (λ i. min n (i + right)) n (λ i h. (bounds-at i h).1),
      )

  bounds-planned : Planned n (min size n) (bounds center size n)
  bounds-planned = let r = right_le in rw bounds-reach (reaching-planned left right n (min size n) (omega arith))

  pub bounds-rows : rows (bounds center size n) ≡ n
  unfolding bounds
  bounds-rows = table-length (λ i. (bounds_at center size n i).0) n

  -- "Widest window: the smaller of size and n."
  pub bounds-widest : widest (bounds center size n) n ≡ min size n
  bounds-widest =
      let r = right_le in
      let z : left + right ≡ size = omega arith in
      rw bounds-reach (reaching-widest left right n (λ h. right-some (omega arith)) ∙ ap (λ (k : ℕ). min k n) z)

  -- ---- the plan call of the bounds refuses nothing more, where what is given has no more places than a plan may have rows
  module _ (given outputs width work : ℕ) where
    fits : n ≤ 16777216 → wrong_lists (bounds center size n) ≡ false
    fits few =
        let e = bounds-planned.same in
        let t : too_many n ≡ false = le-ltb 16777216 n few in
        rw (eq-eqb _ _ e, bounds-rows, t)

    pub fixed-refusal : (given ≡ 0 → n ≤ 16777216) → fixed_refusal given n size outputs width work ≡ plan_refusal given (bounds center size n) n false outputs width work
    unfolding fixed_refusal plan_refusal
    fixed-refusal few = go (eqb given 0) refl
      where
        go : (b : Bool) → eqb given 0 ≡ b
            → given or_else refusal 12 (ltb outputs n) or_else refusal 13 (ltb work (width * min size n))
            ≡ given or_else refusal 4 (wrong_lists (bounds center size n)) or_else rows_refusal n (bounds center size n) (rows (bounds center size n))
            or_else refusal 12 (false || ltb outputs (rows (bounds center size n)))
            or_else refusal 13 (ltb work (width * widest (bounds center size n) (rows (bounds center size n))))
        go true e =
            let z = eqb-true given 0 e in
            let t : refusal 4 (wrong_lists (bounds center size n)) ≡ 0 = rw (fits (few z)) refl in
            let o = rows-in-order n (bounds center size n) (min size n) (rows (bounds center size n)) bounds-planned (le_refl _) in
            rw (
              none_then given (refusal 12 (ltb outputs n)) z,
              none_then given (refusal 4 (wrong_lists (bounds center size n))) z,
              t,
              none_then 0 (rows_refusal n (bounds center size n) (rows (bounds center size n))) refl,
              o,
              bounds-rows,
              bounds-widest,
            )
            (sym (ap (λ (a : ℕ). a or_else refusal 13 (ltb work (width * min size n))) (none_then 0 (refusal 12 (ltb outputs n)) refl)))
        go false e =
            let h = eqb-false given 0 e in
            rw (first_stands given _ h, first_stands given _ h, first_stands given _ h, first_stands given _ h, first_stands given _ h, first_stands given _ h)

    pub fixed-accepted : fixed_refusal given n size outputs width work ≡ 0 → Accepted given (bounds center size n) n false outputs width work (min size n)
    unfolding fixed_refusal
    fixed-accepted z =
        let a = none_of _ _ z in
        let b = none_of _ _ a.0 in
        record {
          given_is = b.0;
          plan = bounds-planned;
          wide_is = sym (ap (widest (bounds center size n)) bounds-rows ∙ bounds-widest);
          narrow = omega arith;
          readings_fit = refl;
          outputs_fit = rw bounds-rows (ltb-false _ _ (not_refused_lem 12 _ (lit≤ tt) b.1));
          work_fits = ltb-false _ _ (not_refused_lem 13 _ (lit≤ tt) a.1);
        }

-- the bounds, by the reach that `right_window` answers
pub bounds_by : (center : Bool) (size n right : ℕ) → right ≡ right_of center size → bounds center size n ≡ reaching (size - right) right n
bounds_by center size n right e = bounds-reach center size n ∙ ap (λ (r : ℕ). reaching (size - r) r n) (sym e)

pub reach_accepted : (center : Bool) (size n right : ℕ) {given outputs width work wide : ℕ} → right ≡ right_of center size →
    Accepted given (bounds center size n) n false outputs width work wide → Accepted given (reaching (size - right) right n) n false outputs width work wide
reach_accepted center size n right {given} {outputs} {width} {work} {wide} e a =
    subst (λ (p : Plan). Accepted given p n false outputs width work wide) (bounds_by center size n right e) a

-- a check that passes
pub fixed_passes : (given n size outputs width work wide : ℕ) → wide ≡ min size n → 0 ≡ fixed_refusal given n size outputs width work →
    ChecksWindows given n size outputs width work (Ok wide)
fixed_passes given n size outputs width work wide e z =
    record { number_is = z; wide_is = e; accepted = λ center. rw e (fixed-accepted center size n given outputs width work (sym z)) }
