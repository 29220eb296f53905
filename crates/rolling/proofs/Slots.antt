-- The weight of a window's state is its count, so a correction that is kept by the count is the weight's; a slot comes to the double
-- of its row's answer. Assumes nothing.
use Rattle.std.proofs.Common.{◌≡◌, ◌≢◌, ℕ, ◌+◌, ◌-◌, ◌^◌, ◌<◌, ◌≤◌, Bool, true, false, cond, eqb, leb, List, ◌++◌, map, length, get_or, take, drop, sym, refl, ap, ◌∙◌, arith, Option, Some, None, length-take, get_or-set_other, get_or-take, get_or-set_same, eq-eqb, ne_eqb, le-leb, leb-false, leb-true}
use borrow.Author.Tests.{lt-leb}
use lib.ListN.{length-map, get_or-append, get_or-map, drop_of_length-le}
use mathlib.Core.List.{append-nil}
use lib.Seq.{take-length}
use lib.Ieee.{Float, nan, inf, fin, mul, div, of_bits}
use Rattle.float.specs.Operators.{◌⊗◌, ◌⊘◌, zero64, one64, of_nat64}
use Rattle.float.specs.Tables.{table}
use Rattle.float.proofs.Tables.{table_same}
use Rattle.root.specs.Root.{root, roots_into}
use Rattle.moment.specs.Figure.{double_of, byte_of}
use Rattle.moment.specs.declared.skew_state.SkewState.{SkewState}
use Rattle.moment.specs.declared.Figure.{Figure}
use Rattle.moment.specs.declared.Figure.TheVariants.{Missing, Present}
use Rattle.moment.specs.Skew.{is_zero, skew_biased, skew_correction, skew_finalize}
use Rattle.moment.proofs.Weights.{skew_combine_count}
use Rattle.moment.proofs.Figures.{skew-biased-missing, skew-unbiased-missing}
use Rattle.window.specs.Window.{or_nan}
use Rattle.window.specs.Code.Stacks.{state_by, answer_by}
use Rattle.window.specs.declared.Window.{Window}
use Rattle.rolling.specs.Code.Layouts.{skew_stored}
use Rattle.rolling.specs.declared.skew.Slots.{Slots}
use Rattle.plan.specs.declared.bounds.Offsets.{Offsets}
use Rattle.rolling.specs.Code.Slots.{m2_of, m3_of, least_of, estimate, double_at, pending_of, CanPend, slot_set, SlotHolds}

-- the weight of a window's two states combined
pub total_weight_lem : {w : Window} {agg : SkewState} {work : List Float} {at : Offsets} → CanPend w agg work at
    → (state_by skew_stored w agg work).weight ≡ of_nat64 (w.front + w.back)
total_weight_lem {w} {agg} q =
    let h = q.total.few in
    let k : w.back + w.front ≡ w.front + w.back = omega arith in
    skew_combine_count agg _ w.back w.front (omega arith) (omega arith) q.total.counted q.total.front_counted ∙ ap of_nat64 k

-- ---- what a slot comes to
div_nan : (y : Float) → nan ⊘ y ≡ nan
unfolding div
div_nan y = refl

mul_nan : (x : Float) → x ⊗ nan ≡ nan
unfolding mul
mul_nan nan = refl
mul_nan (inf s) = refl
mul_nan (fin s m e) = refl

-- a missing row's slot
nothing : (bias : Bool) → estimate bias one64 zero64 zero64 (root one64) ≡ zero64
unfolding root mul div of_bits
nothing true = refl
nothing false = refl

-- too few readings
too_few : (s : SkewState) (bias : Bool) (n nonfinite : ℕ) → n ≤ 2 ^ 53 → s.weight ≡ of_nat64 n → leb (least_of bias) n ≡ false
    → or_nan nonfinite (skew_finalize s bias) ≡ Missing
unfolding or_nan
too_few s bias n nonfinite h e f = ap (or_nan nonfinite) (go bias f) ∙ same (eqb nonfinite 0)
  where
    same : (b : Bool) → cond b Missing Missing ≡ Missing
    same true = refl
    same false = refl

    go : (bias : Bool) → leb (least_of bias) n ≡ false → skew_finalize s bias ≡ Missing
    go true f = skew-biased-missing n h s e ∙ rw (eq-eqb n 0 (let g = leb-false 1 n f in omega arith))
    go false f = skew-unbiased-missing n h s e ∙ rw (le-leb n 2 (let g = leb-false 3 n f in omega arith))

-- enough readings
module _ (s : SkewState) (n nonfinite : ℕ) (h : n ≤ 2 ^ 53) (e : s.weight ≡ of_nat64 n) where
  abbrev R : Float
  R = root (m2_of s)

  figured : (bias : Bool) → leb (least_of bias) n ≡ true
      → skew_finalize s bias ≡ Present (cond bias (skew_biased s) (skew_correction s.weight ⊗ skew_biased s))
  figured true f = skew-biased-missing n h s e ∙ rw (ne_eqb n 0 (λ z. let g = leb-true 1 n f in omega arith))
  figured false f = skew-unbiased-missing n h s e ∙ rw (lt-leb n 2 (let g = leb-true 3 n f in omega arith))

  biased-is : (b : Bool) → is_zero (m2_of s) s.mean ≡ b → cond b nan (s.m3 ⊘ s.weight) ⊘ (m2_of s ⊗ R) ≡ skew_biased s
  unfolding skew_biased
  biased-is true z = rw z (div_nan _)
  biased-is false z = rw z

  present-double : (bias : Bool) (factor : Float) → leb (least_of bias) n ≡ true → (bias ≡ false → factor ≡ skew_correction (of_nat64 n)) →
      estimate bias (m2_of s) (m3_of s (m2_of s) nonfinite) factor R ≡ double_of (or_nan nonfinite (skew_finalize s bias))
  unfolding or_nan
  present-double bias factor f c = rw (figured bias f) (go bias c (eqb nonfinite 0))
    where
      go : (bias : Bool) → (bias ≡ false → factor ≡ skew_correction (of_nat64 n)) → (b : Bool) →
          estimate bias (m2_of s) (cond b (cond (is_zero (m2_of s) s.mean) nan (s.m3 ⊘ s.weight)) nan) factor R
          ≡ double_of (cond b (Present (cond bias (skew_biased s) (skew_correction s.weight ⊗ skew_biased s))) (Present nan))
      go true c true = biased-is _ refl
      go true c false = div_nan _
      go false c true = rw (biased-is _ refl, c refl, e)
      go false c false = rw div_nan (mul_nan factor)

  present-byte : (bias : Bool) → leb (least_of bias) n ≡ true → 1 ≡ byte_of (or_nan nonfinite (skew_finalize s bias))
  unfolding or_nan
  present-byte bias f = rw (figured bias f) (go (eqb nonfinite 0) _)
    where
      go : (b : Bool) (v : Float) → 1 ≡ byte_of (cond b (Present v) (Present nan))
      go true v = refl
      go false v = refl

-- ---- a row that waits
abbrev state_or : SkewState → Option SkewState → SkewState
state_or d None = d
state_or d (Some s) = s

abbrev tag : Option SkewState → ℕ
tag None = 0
tag (Some s) = 1

module _ (bias mapped : Bool) (min_periods : ℕ) {w : Window} {agg : SkewState} {work : List Float} {at : Offsets}
    (q : CanPend w agg work at) where
  abbrev N : ℕ
  N = w.front + w.back

  abbrev S : SkewState
  S = state_by skew_stored w agg work

  abbrev Answer : Figure
  Answer = answer_by skew_stored (λ z. skew_finalize z bias) mapped min_periods at.start at.end w agg work

  -- a row without a state is missing
  pub none-pending : pending_of bias mapped min_periods at w S ≡ None → Answer ≡ Missing
  unfolding pending_of
  none-pending h = go (leb min_periods (cond mapped N (at.end - at.start))) refl (leb (least_of bias) N) refl h
    where
      go : (a : Bool) → leb min_periods (cond mapped N (at.end - at.start)) ≡ a → (b : Bool) → leb (least_of bias) N ≡ b
          → cond a (cond b (Some S) None) None ≡ None → Answer ≡ Missing
      go true x true y z = absurd (let t : ◌≡◌ {A = ℕ} 1 0 = ap tag z in omega arith)
      go true x false y z = rw x (too_few S bias N w.nonfinite q.total.few (total_weight_lem q) y)
      go false x b y z = rw x

  -- a row with a state has enough
  pub some-pending : (state : SkewState) → pending_of bias mapped min_periods at w S ≡ Some state
      → (leb min_periods (cond mapped N (at.end - at.start)) ≡ true) × (leb (least_of bias) N ≡ true) × (state ≡ S)
  unfolding pending_of
  some-pending state h = go (leb min_periods (cond mapped N (at.end - at.start))) refl (leb (least_of bias) N) refl h
    where
      go : (a : Bool) → leb min_periods (cond mapped N (at.end - at.start)) ≡ a → (b : Bool) → leb (least_of bias) N ≡ b
          → cond a (cond b (Some S) None) None ≡ Some state
          → (leb min_periods (cond mapped N (at.end - at.start)) ≡ true) × (leb (least_of bias) N ≡ true) × (state ≡ S)
      go true x true y z = (x, y, sym (ap (state_or state) z))
      go true x false y z = absurd (let t : ◌≡◌ {A = ℕ} 0 1 = ap tag z in omega arith)
      go false x b y z = absurd (let t : ◌≡◌ {A = ℕ} 0 1 = ap tag z in omega arith)

  -- of slots that have slot k
  module _ (s : Slots) {k : ℕ} (in_m2s : k < length s.m2s) (in_m3s : k < length s.m3s) (in_factors : k < length s.factors) where
    -- what a slot that is written comes to
    written-here : (m2 m3 factor : Float) → double_at bias (slot_set s k m2 m3 factor) k ≡ estimate bias m2 m3 factor (root m2)
    written-here m2 m3 factor =
        rw (
          get_or-set_same s.m2s k m2 nan in_m2s,
          get_or-set_same s.m3s k m3 nan in_m3s,
          get_or-set_same s.factors k factor nan in_factors,
        )

    -- and every other
    written-others : (m2 m3 factor : Float) (j : ℕ) → j ≢ k → double_at bias (slot_set s k m2 m3 factor) j ≡ double_at bias s j
    written-others m2 m3 factor j h =
        rw (
          get_or-set_other s.m2s k j m2 nan h,
          get_or-set_other s.m3s k j m3 nan h,
          get_or-set_other s.factors k j factor nan h,
        )

    -- the slot of a missing row
    pub missing_waits : pending_of bias mapped min_periods at w S ≡ None
        → SlotHolds bias Answer k 0 s (slot_set s k one64 zero64 zero64)
    missing_waits h =
        record {
          double_is = written-here one64 zero64 zero64 ∙ rw (none-pending h) (nothing bias);
          others_same = written-others one64 zero64 zero64;
          byte_is = rw (none-pending h);
        }

    -- the slot of a present one
    pub present_waits : {state : SkewState} → pending_of bias mapped min_periods at w S ≡ Some state → {factor m3 : Float}
        → (bias ≡ false → factor ≡ skew_correction (of_nat64 N)) → m3 ≡ m3_of state (m2_of state) w.nonfinite
        → SlotHolds bias Answer k 1 s (slot_set s k (m2_of state) m3 factor)
    present_waits {state} h {factor} {m3} c d =
        let m = some-pending state h in
        let e : state.weight ≡ of_nat64 N = rw m.2 (total_weight_lem q) in
        let a : Answer ≡ or_nan w.nonfinite (skew_finalize state bias) = rw (m.0, m.2) in
        record {
          double_is = written-here (m2_of state) m3 factor
              ∙ rw d (present-double state N w.nonfinite q.total.few e bias factor m.1 c ∙ ap double_of (sym a));
          others_same = written-others (m2_of state) m3 factor;
          byte_is = present-byte state N w.nonfinite q.total.few e bias m.1 ∙ ap byte_of (sym a);
        }

-- ---- a block of slots
-- the root of slot i, of the roots r that are taken of the first slots
root_at_lem : (m2s roots r : List Float) (n i : ℕ) → n ≤ length m2s → n ≤ length roots → r ≡ roots_into (take n m2s) (take n roots) → i < n
    → get_or (r ++ drop n roots) i nan ≡ root (get_or m2s i nan)
unfolding roots_into root
root_at_lem m2s roots r n i h k e l =
    let a : length (take n m2s) ≡ n = rw length-take (omega arith) in
    let b : length (take n roots) ≡ n = rw length-take (omega arith) in
    let q : r ≡ map root (take n m2s) = e ∙ rw (a, b, eq-eqb n n refl) in
    let m : i < length r = rw (q, length-map) (omega arith) in
    get_or-append r (drop n roots) nan i m ∙ rw q (get_or-map root (take n m2s) i nan) ∙ ap root (get_or-take n m2s i nan l)

-- of roots that fill the whole list
all_roots : (m2s figures r : List Float) (i : ℕ) → length figures ≤ length m2s → r ≡ roots_into (take (length figures) m2s) figures
    → i < length figures → get_or r i nan ≡ root (get_or m2s i nan)
all_roots m2s figures r i h e l =
    let whole : roots_into (take (length figures) m2s) (take (length figures) figures) ≡ roots_into (take (length figures) m2s) figures =
    ap (roots_into (take (length figures) m2s)) (take-length figures) in
    let past : length figures ≤ length figures = omega arith in
    let none : r ++ drop (length figures) figures ≡ r = rw (drop_of_length-le figures past) (append-nil r) in
    ap (λ f. get_or f i nan) (sym none) ∙ root_at_lem m2s figures r (length figures) i h (omega arith) (e ∙ sym whole) l

pub finished : (bias : Bool) (s : Slots) (figures r : List Float) (n : ℕ) → n ≡ length figures → length figures ≤ length s.m2s
    → r ≡ roots_into (take (length figures) s.m2s) figures
    → table (λ i. estimate bias (get_or s.m2s i nan) (get_or s.m3s i nan) (get_or s.factors i nan) (get_or r i nan)) n
    ≡ table (double_at bias s) (length figures)
finished bias s figures r n m h e =
    rw m
    (table_same _ _ (length figures) (λ i l.
    ap (estimate bias (get_or s.m2s i nan) (get_or s.m3s i nan) (get_or s.factors i nan)) (all_roots s.m2s figures r i h e l)))
