-- The source's weighted rows are ours: both align row k's first place with weight left - k, where a window reaches `left` places
-- before its own; and `create_validity` takes the mark of every row that is too short, because the widths of fixed windows rise and
-- then fall. Assumes nothing.
use Prim.Native.Nat.{ℕ, zero, suc, ◌+◌, ◌-◌, ◌/◌, ◌^◌, ◌≤◌, ◌<◌, min}
use mathlib.Core.Path.{◌≡◌, refl, sym, ap, ◌∙◌}
use mathlib.Core.Bool.{Bool, true, false, cond, not}
use mathlib.Core.List.{List, [], ◌∷◌, foldl, map, zip, zip_with}
use native.Mathlib.Nat.{add-zero, zero-add, lt_of_le_of_lt}
use native.Mathlib.Omega.{arith}
use lib.Dec.{ltb, eqb, lit≤}
use lib.ListN.{length, get_or, length-map, get_or-map}
use lib.Seq.{slice, slice_empty, slice-cons}
use lib.IntN.{pos, negsuc, nat_abs, sub_ℕ, ◌-ℤ◌}
use lib.Ieee.{Float, nan, div, eq}
use borrow.Author.Tests.{ltb-true, lt-ltb, le-ltb, eqb-true, not-false}
use Rattle.float.specs.Operators.{◌⊘◌, zero64}
use Rattle.float.specs.Tables.{table}
use Rattle.float.proofs.Cases.{Or, here, there, order}
use Rattle.float.proofs.Tables.{table-place}
use Rattle.trace.specs.Refusals.{refusal, ◌or_else◌}
use Rattle.trace.proofs.Accepted.{none_of, not_refused_lem}
use Rattle.moment.specs.declared.Figure.{Figure}
use Rattle.moment.specs.declared.Figure.TheVariants.{Missing, Present}
use Rattle.plan.specs.Bounds.{bounds_at}
use Rattle.plan.specs.Code.Reaching.{right_of}
use Rattle.plan.proofs.FixedWindows.{bounds-at, right_le, right-some}
use Rattle.window.specs.Readings.{reading_of}
use Rattle.weighted.specs.Weights.{total_of, Sums, no_sums, plus, variance_of, compute_var_weights, weights_start, aligned, weighted_at, weights_refusal}
use Rattle.weighted.proofs.WeightedRows.{aligned-start}
use Rattle.promises.specs.Rust.{Rust}
use Rattle.promises.specs.SourceRows.{too_short, row_of}
use Rattle.promises.specs.SourceFixed.{offset_fn}
use Rattle.promises.specs.SourceWeights as source
use Rattle.promises.proofs.Validity.{created, created-marks, created-off}
use Rattle.promises.proofs.Spans.{span, span_table}
use Rattle.promises.proofs.SourceFixed.{offsets_are}

-- ---- `compute_var_weights`
abbrev triple : Sums → Float × Float × Float
triple s = (s.wssq, s.wsum, s.wtot)

sums_same : (l : List (Float × Float)) (s : Sums) → foldl source.add_weighted (triple s) l ≡ triple (foldl plus s l)
sums_same [] s = refl
sums_same ((v, w) ∷ l) s = sums_same l (plus s (v, w))

variance_same : (values weights : List Float) → source.compute_var_weights values weights ≡ compute_var_weights (zip values weights)
unfolding source.compute_var_weights compute_var_weights variance_of
variance_same values weights = ap source.from_sums (sums_same (zip values weights) no_sums)

-- two parts of equal length, zipped
zip_parts : (f : ℕ → Float × Float) (l m : List Float) (k a b c : ℕ) → a + k ≤ length l → b + k ≤ length m
    → ((i : ℕ) → i < k → f (c + i) ≡ (get_or l (a + i) nan, get_or m (b + i) nan)) → zip (slice a (a + k) l) (slice b (b + k) m) ≡ span f k c
unfolding zip zip_with span
zip_parts f l m zero a b c g h e = rw (add-zero a, add-zero b, slice_empty a l)
zip_parts f l m (suc k) a b c g h e =
    let x : a + suc k ≡ suc a + k = omega arith in
    let y : b + suc k ≡ suc b + k = omega arith in
    let z : f c ≡ (get_or l a nan, get_or m b nan) = simp add-zero at (e 0 (omega arith)) in
    let rest = zip_parts f l m k (suc a) (suc b) (suc c) (omega arith) (omega arith) (λ i o. after i (e (suc i) (omega arith))) in
    rw (slice-cons a (a + suc k) l nan (omega arith) g, slice-cons b (b + suc k) m nan (omega arith) h, x, y, z, rest)
  where
    after : (i : ℕ) → f (c + suc i) ≡ (get_or l (a + suc i) nan, get_or m (b + suc i) nan) → f (suc c + i) ≡ (get_or l (suc a + i) nan, get_or m (suc b + i) nan)
    after i =
        let x : a + suc i ≡ suc a + i = omega arith in
        let y : b + suc i ≡ suc b + i = omega arith in
        let z : c + suc i ≡ suc c + i = omega arith in
        rw (x, y, z) (λ h. h)

-- a divided weight; past the end stands NaN, which divided is NaN
divided_at : (total : Float) (l : List Float) (i : ℕ) → get_or (map (λ w. w ⊘ total) l) i nan ≡ get_or l i nan ⊘ total
unfolding div
divided_at total l i = get_or-map (λ w. w ⊘ total) l i nan

-- ---- `isize`
difference : (a b : ℕ) → pos a -ℤ pos b ≡ sub_ℕ a b
difference a zero = let z : a - 0 ≡ a = omega arith in rw (add-zero, le-ltb a 0 (omega arith), z)
difference a (suc b) = refl

clamped : (a b : ℕ) → source.at_least_zero (pos a -ℤ pos b) ≡ a - b
clamped a b = rw (difference a b) (go (ltb a b) refl)
  where
    go : (u : Bool) → ltb a b ≡ u → source.at_least_zero (cond u (negsuc (b - suc a)) (pos (a - b))) ≡ a - b
    go true e = let h = ltb-true a b e in omega arith
    go false e = refl

in_range_lem : (a b : ℕ) → a < 2 ^ 63 → b < 2 ^ 63 → nat_abs (pos a -ℤ pos b) < 2 ^ 63
in_range_lem a b g h = rw (difference a b) (go (ltb a b) refl)
  where
    go : (u : Bool) → ltb a b ≡ u → nat_abs (cond u (negsuc (b - suc a)) (pos (a - b))) < 2 ^ 63
    go true e = let l = ltb-true a b e in omega arith
    go false e = omega arith

not-below : (a b : ℕ) → b ≤ a → pos a -ℤ pos b ≡ pos (a - b)
not-below a b h = rw (difference a b, le-ltb a b h)

-- ---- widths
-- the widths of windows that reach so many places to each side rise up to place `left`, and fall from it on
rises : (left right n m k : ℕ) → m ≤ k → k ≤ left → min n (m + right) - (m - left) ≤ min n (k + right) - (k - left)
rises left right n m k h g =
    let x : m - left ≡ 0 = omega arith in
    let y : k - left ≡ 0 = omega arith in
    rw (x, y) (omega arith)

falls : (left right n k m : ℕ) → left ≤ k → k ≤ m → min n (m + right) - (m - left) ≤ min n (k + right) - (k - left)
falls left right n k m h g =
    let x : m ≡ left + (m - left) = omega arith in
    let y : k ≡ left + (k - left) = omega arith in
    omega arith

-- ---- a row
pair : (p : ℕ × ℕ) (a b : ℕ) → p.0 ≡ a → p.1 ≡ b → p ≡ (a, b)
pair p a b e f = rw (← e, ← f)

turned : (b : Bool) (x y : Figure) → cond (not b) x y ≡ cond b y x
turned true x y = refl
turned false x y = refl

module _ (rust : Rust) (center : Bool) (size min_periods : ℕ) (weights values : List Float) (fits : size < 2 ^ 64)
    (few : length values ≤ 16777216) (some : 1 ≤ length weights) (same : length weights ≡ size) where
  abbrev n : ℕ
  n = length values

  abbrev right : ℕ
  right = right_of center size

  abbrev left : ℕ
  left = size - right

  abbrev S : ℕ → ℕ
  S k = k - left

  abbrev E : ℕ → ℕ
  E k = min n (k + right)

  abbrev F : ℕ → ℕ × ℕ
  F = offset_fn rust center size n

  abbrev wts : List Float
  wts = map (λ w. w ⊘ total_of weights) weights

  bounds-are : (k : ℕ) → k < n → bounds_at center size n k ≡ (S k, E k)
  bounds-are k h = let b = bounds-at center size n k h in pair (bounds_at center size n k) (S k) (E k) b.0 b.1

  offset-is : (k : ℕ) → k < n → F k ≡ (S k, E k)
  offset-is k h = offsets_are rust center size n fits few k h ∙ bounds-are k h

  -- ---- the aligned part of the weights starts at left - k
  ours-starts : (k : ℕ) → k < n → weights_start center size k (S k) (E k) ≡ left - k
  ours-starts k h = aligned-start center size n k (omega arith) h

  theirs-starts : (k : ℕ) → k < n → source.weights_start rust values size min_periods F wts center k (S k) (E k - S k) ≡ left - k
  unfolding source.weights_start
  theirs-starts k h =
      let r = right_le center size n in
      let o = rust.signed_minus_is (pos k) (pos (S k)) (in_range_lem k (S k) (omega arith) (omega arith)) ∙ not-below k (S k) (omega arith) in
      let p = rust.signed_minus_is (pos (size / 2)) (pos (k - S k)) (in_range_lem (size / 2) (k - S k) (omega arith) (omega arith)) in
      rw (
        rust.signed_is (size / 2) (omega arith),
        rust.signed_is k (omega arith),
        rust.signed_is (S k) (omega arith),
        o,
        p,
        clamped (size / 2) (k - S k),
        length-map weights (λ w. w ⊘ total_of weights),
        same,
        rust.minus_is size (E k - S k) (omega arith),
      )
      (ours-starts k h)

  aligned-fits : (k : ℕ) → k < n → (left - k) + (E k - S k) ≤ size
  aligned-fits k h = let r = right_le center size n in omega arith

  -- the readings of row k with their weights
  pairs-are : (k : ℕ) → k < n → zip (slice (S k) (E k) values) (slice (left - k) ((left - k) + (E k - S k)) wts) ≡ aligned values weights (S k) (E k) (left - k)
  pairs-are k h =
      let a = aligned-fits k h in
      let m = length-map weights (λ w. w ⊘ total_of weights) in
      let e : E k ≡ S k + (E k - S k) = omega arith in
      let f : ℕ → Float × Float = λ i. (reading_of values (S k + i), get_or weights ((left - k) + i) nan ⊘ total_of weights) in
      ap (λ (j : ℕ). zip (slice (S k) j values) (slice (left - k) ((left - k) + (E k - S k)) wts)) e
      ∙ zip_parts f values wts (E k - S k) (S k) (left - k) 0 (omega arith) (omega arith)
      (λ i o. rw (zero-add, divided_at (total_of weights) weights ((left - k) + i)))
      ∙ span_table f (E k - S k)

  row_is : (k : ℕ) → k < n → source.weighted_row rust values size min_periods F wts center k ≡ compute_var_weights (aligned values weights (S k) (E k) (left - k))
  unfolding source.weighted_row
  row_is k h =
      let a = aligned-fits k h in
      let m = length-map weights (λ w. w ⊘ total_of weights) in
      rw (
        offset-is k h,
        rust.minus_is (E k) (S k) (omega arith),
        theirs-starts k h,
        rust.plus_is (left - k) (E k - S k) (omega arith),
        rust.part_is values (S k) (E k) (omega arith) (omega arith),
        rust.part_is wts (left - k) ((left - k) + (E k - S k)) (omega arith) (omega arith),
        variance_same,
        pairs-are k h,
      )

  -- ---- the marks
  short-is : (k : ℕ) → k < n → too_short rust min_periods F k ≡ ltb (E k - S k) min_periods
  short-is k h = rw (offset-is k h, rust.minus_is (E k) (S k) (omega arith))

  -- too short at one row is too short at all before it, or at all after it
  rise-or-fall : (k : ℕ) → k < n → E k - S k < min_periods
      → Or ((m : ℕ) → m ≤ k → too_short rust min_periods F m ≡ true) ((m : ℕ) → k ≤ m → m < n → too_short rust min_periods F m ≡ true)
  rise-or-fall k h l = go (order k left)
    where
      go : Or (k ≤ left) (left < k)
          → Or ((m : ℕ) → m ≤ k → too_short rust min_periods F m ≡ true) ((m : ℕ) → k ≤ m → m < n → too_short rust min_periods F m ≡ true)
      go (here g) = here (λ m o. rw (short-is m (omega arith)) (lt-ltb (E m - S m) min_periods (lt_of_le_of_lt (rises left right n m k o g) l)))
      go (there g) = there (λ m o p. rw (short-is m p) (lt-ltb (E m - S m) min_periods (lt_of_le_of_lt (falls left right n k m (omega arith) o) l)))

  mark-is : (k : ℕ) → k < n → get_or (created rust min_periods F n) k false ≡ not (ltb (E k - S k) min_periods)
  mark-is k h = go (ltb (E k - S k) min_periods) refl
    where
      off : get_or (created rust min_periods F n) k false ≡ false → ltb (E k - S k) min_periods ≡ true
      off e = let c = created-marks rust min_periods F n in let l = c.1 in sym (short-is k h) ∙ c.0 k (omega arith) (omega arith) e

      on : (b : Bool) → get_or (created rust min_periods F n) k false ≡ b → ltb (E k - S k) min_periods ≡ false → b ≡ true
      on true e f = refl
      on false e f = sym f ∙ off e

      go : (b : Bool) → ltb (E k - S k) min_periods ≡ b → get_or (created rust min_periods F n) k false ≡ not b
      go true e =
          let l = ltb-true (E k - S k) min_periods e in
          let r = right-some center size n (omega arith) in
          created-off rust min_periods F n k (omega arith) h (rise-or-fall k h l)
      go false e = on (get_or (created rust min_periods F n) k false) refl e

  applied-row : (k : ℕ) → k < n → row_of (source.rolling_apply_weights rust values size min_periods F wts center) k ≡ weighted_at center size min_periods weights values k
  unfolding weighted_at
  applied-row k h =
      ap (λ (b : Bool). cond b (Present (get_or (table (source.weighted_row rust values size min_periods F wts center) n) k nan)) Missing) (mark-is k h)
      ∙ rw (table-place (source.weighted_row rust values size min_periods F wts center) n k nan h, row_is k h, bounds-are k h, ours-starts k h)
      (turned (ltb (E k - S k) min_periods) (Present (compute_var_weights (aligned values weights (S k) (E k) (left - k)))) Missing)

  pub weighted-row : (k : ℕ) → k < n → row_of (source.rolling_var_weights rust values size min_periods center weights) k ≡ weighted_at center size min_periods weights values k
  weighted-row = applied-row

-- a weighted call that is accepted has as many weights as its windows have places
pub weights_many : (given : ℕ) (mapped : Bool) (n size count : ℕ) (total : Float) (outputs : ℕ)
    → 0 ≡ weights_refusal given mapped n size count total outputs → count ≡ size
unfolding weights_refusal
weights_many given mapped n size count total outputs z =
    let up_to9 = given or_else refusal 8 mapped or_else refusal 9 (eq total zero64) in
    let up_to10 = (none_of (up_to9 or_else refusal 10 (not (eqb count size))) (refusal 12 (ltb outputs n)) (sym z)).0 in
    eqb-true count size (not-false _ (not_refused_lem 10 _ (lit≤ tt) (none_of up_to9 _ up_to10).1))
