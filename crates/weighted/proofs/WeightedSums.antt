-- Weighted sums, a weight after another for the rows of a block: a row that has a place for the weight gains one term, and the sums of
-- any other stay. Assumes nothing.
use Rattle.std.proofs.Common.{◌≡◌, ◌≢◌, ℕ, ◌+◌, ◌-◌, ◌≤◌, ◌<◌, min, List, [], ◌∷◌, length, get_or, take, drop, set, replicate, get_or-set_other, get_or-set_same, sym, ap, ◌∙◌, subst, add-one, arith}
use Rattle.std.proofs.lemmas.List.{get_or-take, get_or-drop, length-take, length-drop, get_or-replicate}
use Rattle.std.specs.Prelude.{Float}
use mathlib.Core.List.{foldl-append}
use Rattle.std.specs.Float.{nan}
use Rattle.float.specs.Operators.{◌⊕◌, ◌⊗◌, ◌⊘◌, zero64}
use Rattle.float.specs.Tables.{table}
use Rattle.float.proofs.Cases.{Or, here, there, order}
use Rattle.window.specs.Readings.{reading_of}
use Rattle.weighted.specs.Weights.{Sums, no_sums, plus}
use Rattle.weighted.specs.Code.Blocks.{BlockRows}
use Rattle.weighted.specs.Code.Sums.{Lists, sums_of, reached, FirstRow, LastRow, sums_at, Added, SumsUpTo}

-- ---- the terms of a weight, a row after another
module _ (w : Float) (values : List Float) (row : ℕ) (s₀ s : Lists) (k : ℕ) (h : k < length values) (added : Added w (take k values) row s₀ s)
    (wssq_has : row + k < length s.wssq) (wsum_has : row + k < length s.wsum) (wtot_has : row + k < length s.wtot) where
  abbrev V : Float
  V = get_or values k nan

  -- the sums with the term of row k's reading
  abbrev S : Lists
  S =
      record {
        wssq = set s.wssq (row + k) (get_or s.wssq (row + k) nan ⊕ ((V ⊗ V) ⊗ w));
        wsum = set s.wsum (row + k) (get_or s.wsum (row + k) nan ⊕ (V ⊗ w));
        wtot = set s.wtot (row + k) (get_or s.wtot (row + k) nan ⊕ w);
      }

  kept : (r : ℕ) → r ≢ row + k → sums_at S r ≡ sums_at s r
  kept r ne = rw (get_or-set_other, get_or-set_other, get_or-set_other)

  gains : sums_at S (row + k) ≡ plus (sums_at s₀ (row + k)) (V, w)
  gains =
      rw (get_or-set_same, get_or-set_same, get_or-set_same)
      (ap (λ (x : Sums). plus x (V, w)) (added.behind (row + k) (rw length-take (omega arith))))

  reads : (i n : ℕ) → i < n → reading_of (take n values) i ≡ reading_of values i
  reads i n o = get_or-take n values i nan o

  pub added-more : Added w (take (k + 1) values) row s₀ S
  added-more =
      record {
        before = λ r o. kept r (omega arith) ∙ added.before r o;
        inside = λ i o. inside i (rw length-take at o) (order k i);
        behind = λ r o.
            let e : length (take (k + 1) values) ≡ k + 1 = rw length-take (omega arith) in
            kept r (omega arith) ∙ added.behind r (rw length-take (omega arith));
      }
    where
      inside : (i : ℕ) → i < min (k + 1) (length values) → Or (k ≤ i) (i < k) →
          sums_at S (row + i) ≡ plus (sums_at s₀ (row + i)) (reading_of (take (k + 1) values) i, w)
      inside i o (here u) =
          let e : k ≡ i = omega arith in
          rw (reads i (k + 1) (omega arith)) (subst (λ j. sums_at S (row + j) ≡ plus (sums_at s₀ (row + j)) (reading_of values j, w)) e gains)
      inside i o (there u) =
          kept (row + i) (omega arith) ∙ added.inside i (rw length-take (omega arith)) ∙ rw (reads i (k + 1) (omega arith), reads i k u)

-- ---- the rows that have a place for weight j
module _ (n left k j : ℕ) where
  -- row k has none: the place is before the series, or behind it
  row-idle : Or (k + j < left) (n + left ≤ k + j) → reached n left k (j + 1) ≡ reached n left k j
  row-idle (here h) = omega arith
  row-idle (there h) = omega arith

  row-busy : left ≤ k + j → k + j < n + left → reached n left k (j + 1) ≡ reached n left k j + 1
  row-busy h o = omega arith

  -- it is the place, and the weight, that come next in the row
  next_place : left ≤ k + j → k + j < n + left → (k - left) + reached n left k j ≡ (k + j) - left
  next_place h o = omega arith

  next-weight : left ≤ k + j → k + j < n + left → (left - k) + reached n left k j ≡ j
  next-weight h o = omega arith

module _ (values weights : List Float) (total : Float) (left : ℕ) where
  abbrev At : ℕ → ℕ → Sums
  At k c = sums_of values weights total left k c

  -- one place more
  sums-more : (k c : ℕ) → At k (c + 1) ≡ plus (At k c) (reading_of values ((k - left) + c), get_or weights ((left - k) + c) nan ⊘ total)
  unfolding sums_of table
  sums-more k c =
      let f : ℕ → Float × Float = λ i. (reading_of values ((k - left) + i), get_or weights ((left - k) + i) nan ⊘ total) in
      rw add-one (foldl-append plus no_sums (table f c) (f c ∷ []))

  -- row k's sums with the term of weight j, at the place that it stands at
  row-sums : (k j : ℕ) (s : Sums) → left ≤ k + j → k + j < length values + left → s ≡ At k (reached (length values) left k j) →
      plus s (reading_of values ((k + j) - left), get_or weights j nan ⊘ total) ≡ At k (reached (length values) left k (j + 1))
  row-sums k j s h o e =
      let n = length values in
      rw (row-busy n left k j h o, sums-more k (reached n left k j), next_place n left k j h o, next-weight n left k j h o, e)

-- ---- a block's rows after weight j, where those from row `from` up to row `to` have a place for it
module _ (values weights : List Float) (total : Float) (left first until j from to : ℕ) (block : BlockRows (length values) (length weights) left first until)
    {s : Lists} (held : SumsUpTo values weights total left first until j s) (low : FirstRow first left j from) (high : LastRow until (length values) left j to) where
  -- a row that has none keeps its sums
  idle : (r : ℕ) → r < until - first → Or (first + r < from) (to ≤ first + r) →
      sums_at s r ≡ sums_of values weights total left (first + r) (reached (length values) left (first + r) (j + 1))
  idle r h o = held.sums_are r h ∙ ap (sums_of values weights total left (first + r)) (sym (row-idle (length values) left (first + r) j (missed o)))
    where
      missed : Or (first + r < from) (to ≤ first + r) → Or (first + r + j < left) (length values + left ≤ first + r + j)
      missed (here o) = here (low.none_before (first + r) (omega arith) o)
      missed (there o) = there (high.none_behind (first + r) o (omega arith))

  pub weighed-none : to ≤ from → SumsUpTo values weights total left first until (j + 1) s
  weighed-none h = record { sums_are = λ r o. idle r o (go r (order to (first + r))) }
    where
      go : (r : ℕ) → Or (to ≤ first + r) (first + r < to) → Or (first + r < from) (to ≤ first + r)
      go r (here i) = there i
      go r (there i) = here (omega arith)

  module _ (some : from < to) {s' : Lists} (added : Added (get_or weights j nan ⊘ total)
      (take ((to + j - left) - (from + j - left)) (drop (from + j - left) values)) (from - first) s s') where
    abbrev Part : List Float
    Part = take ((to + j - left) - (from + j - left)) (drop (from + j - left) values)

    part-long : length Part ≡ to - from
    part-long =
        let a = high.inside (omega arith) in
        let b = low.inside in
        rw (length-take, length-drop) (omega arith)

    part-place : (r : ℕ) → from ≤ first + r → first + r < to → reading_of Part (first + r - from) ≡ reading_of values ((first + r + j) - left)
    part-place r o u =
        let b = low.inside in
        let i = first + r - from in
        get_or-take ((to + j - left) - (from + j - left)) (drop (from + j - left) values) i nan (omega arith)
        ∙ get_or-drop (from + j - left) values i nan ∙ ap (reading_of values) (omega arith)

    busy : (r : ℕ) → r < until - first → from ≤ first + r → first + r < to →
        sums_at s' r ≡ sums_of values weights total left (first + r) (reached (length values) left (first + r) (j + 1))
    busy r h o u =
        let a = high.inside (omega arith) in
        let b = low.inside in
        let d = low.after in
        let z : from - first + (first + r - from) ≡ r = omega arith in
        rw z at (added.inside (first + r - from) (rw part-long (omega arith)))
        ∙ rw part-place (row-sums values weights total left (first + r) j (sums_at s r) (omega arith) (omega arith) (held.sums_are r h))

    pub weighed-some : SumsUpTo values weights total left first until (j + 1) s'
    weighed-some = record { sums_are = λ r h. at r h (order from (first + r)) (order to (first + r)) }
      where
        at : (r : ℕ) → r < until - first → Or (from ≤ first + r) (first + r < from) → Or (to ≤ first + r) (first + r < to) →
            sums_at s' r ≡ sums_of values weights total left (first + r) (reached (length values) left (first + r) (j + 1))
        at r h (there o) i = added.before r (let d = low.after in omega arith) ∙ idle r h (here o)
        at r h (here o) (here i) = added.behind r (let d = low.after in rw part-long (omega arith)) ∙ idle r h (there i)
        at r h (here o) (there i) = busy r h o i

-- ---- before the first weight
abbrev zeros : Lists
zeros = let l = replicate 32 zero64 in record { wssq = l; wsum = l; wtot = l }

pub sums-start : (values weights : List Float) (total : Float) (left first until : ℕ) → BlockRows (length values) (length weights) left first until →
    SumsUpTo values weights total left first until 0 zeros
unfolding sums_of table
sums-start values weights total left first until block =
    record {
      sums_are = λ r h.
          let f = block.few in
          let z : reached (length values) left (first + r) 0 ≡ 0 = omega arith in
          rw (get_or-replicate 32 r zero64 nan (omega arith), z);
    }
