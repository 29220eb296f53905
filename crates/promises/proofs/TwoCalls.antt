-- Two accepted calls have the same answers in every row in whose window they are given the same, for every figure: the law that demand 3,
-- the statement for pairs of traces and the law of maps cite. It is proved in a stronger form: where the same rows move both windows, which
-- is so where both go by the rule for a map or neither does. Assumes nothing.
use Prim.Native.Nat.{ℕ, zero, suc, ◌-◌, ◌≤◌, ◌<◌}
use mathlib.Core.Path.{◌≡◌, refl, sym, ap, ◌∙◌}
use mathlib.Core.Bool.{Bool, true, false, ◌||◌}
use mathlib.Core.List.{◌++◌}
use native.Mathlib.Omega.{arith}
use lib.Dec.{eqb}
use lib.ListN.{length, take}
use borrow.Author.Tests.{le-leb}
use Rattle.plan.specs.Plan.{rows, row_start, row_end}
use Rattle.window.specs.Given.{series_of, places_of}
use Rattle.window.specs.Rows.{moves}
use Rattle.window.specs.Outputs.{Lent, answers_in, counts_in}
use Rattle.rolling.specs.Moments.{Statistic, kind_of, moment_of, finals_of}
use Rattle.rolling.specs.Calls.{Query, GivenTo, figures_of, extremes_by}
use Rattle.promises.specs.Calls.{figures_in, AcceptedCall}
use Rattle.promises.specs.DemandThree.{Alike, Agree, SameAnswers}
use Rattle.promises.proofs.RowsSame.{figures_same, extremes_same, answers_both}
use Rattle.promises.proofs.Accepted.{known}

-- ---- where the same rows move the window
-- whether row k of a query moves the window of what is given
abbrev pub moves_at : (q : Query) → GivenTo q → ℕ → Bool
moves_at q t k = moves (series_of (kind_of q.statistic) t).places.mapped q.min_periods k (row_start q.plan k) (row_end q.plan k)

-- The same rows before row k move the window. By Rows every row does with a map, but "Without one, a row shorter than the minimum ..
-- doesn't move the window": a map of ones, which misses what no map misses, can leave another split, and other bits in a later row
-- (`ones_are_a_map` of proofs/Witnesses). So the demand speaks of two traces "both by a map or both without one".
abbrev pub SameMoves : (q : Query) (t t' : GivenTo q) → ℕ → Type 0
SameMoves q t t' k = (j : ℕ) → j < k → moves_at q t j ≡ moves_at q t' j

-- a map for both traces, or for neither
pub both_or_neither : (q : Query) (t t' : GivenTo q) (k : ℕ) → (series_of (kind_of q.statistic) t).places.mapped
    ≡ (series_of (kind_of q.statistic) t').places.mapped → SameMoves q t t' k
both_or_neither q t t' k e j h = rw e

-- a row that is long enough moves every window
long_moves : (m : Bool) (min_periods k s e : ℕ) → min_periods ≤ e - s → moves m min_periods k s e ≡ true
long_moves m min_periods k s e h = rw (le-leb min_periods (e - s) h) (go m (eqb k 0))
  where
    go : (a b : Bool) → (a || (b || true)) ≡ true
    go true b = refl
    go false true = refl
    go false false = refl

-- no row but row 0 is shorter than the minimum
pub none_shorter : (q : Query) (t t' : GivenTo q) (k : ℕ)
    → ((j : ℕ) → 0 < j → j < k → q.min_periods ≤ row_end q.plan j - row_start q.plan j)
    → SameMoves q t t' k
none_shorter q t t' k f zero h = go (series_of (kind_of q.statistic) t).places.mapped
    (series_of (kind_of q.statistic) t').places.mapped
  where
    go : (m m' : Bool) → moves m q.min_periods 0 (row_start q.plan 0) (row_end q.plan 0) ≡ moves m' q.min_periods 0
        (row_start q.plan 0) (row_end q.plan 0)
    go true true = refl
    go true false = refl
    go false true = refl
    go false false = refl
none_shorter q t t' k f (suc j) h =
    let l = f (suc j) (omega arith) h in
    long_moves (series_of (kind_of q.statistic) t).places.mapped q.min_periods (suc j) (row_start q.plan (suc j))
    (row_end q.plan (suc j)) l
    ∙ sym (long_moves (series_of (kind_of q.statistic) t').places.mapped q.min_periods (suc j) (row_start q.plan (suc j))
    (row_end q.plan (suc j)) l)

-- row k's figures and counts in the lists that two calls leave
pub record SameRow (a : Statistic) (k : ℕ) (l l' : Lent) : Type 0 where
  pub figures : figures_in a l k ≡ figures_in a l' k
  pub counts : counts_in l.outputs.counts k ≡ counts_in l'.outputs.counts k

-- of what two calls are given the same rows move the window: the same figures where it agrees in the row's window, and the same counts
pub same_moves_same_row : (q : Query) (t t' : GivenTo q) (l l' : Lent) → AcceptedCall q t l → AcceptedCall q t' l'
    → ((i : ℕ) → i < places_of (kind_of q.statistic) t → (series_of (kind_of q.statistic) t).places.valid i
    ≡ (series_of (kind_of q.statistic) t').places.valid i)
    → (k : ℕ) → k < rows q.plan → SameMoves q t t' k → Agree (kind_of q.statistic) t t' (row_start q.plan k) (row_end q.plan k)
    → SameRow q.statistic k l l'
same_moves_same_row q t t' l l' c c' places k h m g =
    let a = known q t l c in
    let a' = known q t' l' c' in
    let kind = kind_of q.statistic in
    record {
      figures = a.figures k h
          ∙ figures_same kind (moment_of q.statistic) (finals_of q.statistic) t t' q.min_periods (places_of kind t) a.widest
          q.plan a.plan places k h m g
          ∙ sym (a'.figures k h);
      counts = a.counts k h ∙ sym (a'.counts k h);
    }

-- both by the rule for a map or both not: every answer, of the figures and of what stands behind them
pub alike_answers : (q : Query) (t t' : GivenTo q) (l l' : Lent) → Alike (kind_of q.statistic) t t' → AcceptedCall q t l
    → AcceptedCall q t' l' → (k : ℕ) → k < rows q.plan
    → Agree (kind_of q.statistic) t t' (row_start q.plan k) (row_end q.plan k)
    → answers_in l.outputs.answers k ≡ answers_in l'.outputs.answers k
alike_answers q t t' l l' alike c c' k h g =
    let a = known q t l c in
    let a' = known q t' l' c' in
    let kind = kind_of q.statistic in
    let f = figures_same kind (moment_of q.statistic) (finals_of q.statistic) t t' q.min_periods (places_of kind t) a.widest
    q.plan a.plan alike.places k h (both_or_neither q t t' k alike.mapped) g in
    let e = extremes_same q.statistic t t' q.min_periods q.plan k alike.mapped
    (λ i x l. let w = a.plan.row k h in alike.places i (omega arith)) g in
    a.answers k h
    ∙ answers_both (figures_of q t) (extremes_by q.statistic t q.min_periods q.plan) k
    ∙ (λ j. f j ++ e j)
    ∙ sym (answers_both (figures_of q t') (extremes_by q.statistic t' q.min_periods q.plan) k)
    ∙ sym (a'.answers k h)

-- so the figures
pub alike_same : (q : Query) (t t' : GivenTo q) (l l' : Lent) → Alike (kind_of q.statistic) t t' → AcceptedCall q t l
    → AcceptedCall q t' l' → SameAnswers q t t' l l'
alike_same q t t' l l' alike c c' k h g =
    ap (take (length (finals_of q.statistic))) (alike_answers q t t' l l' alike c c' k h g)
