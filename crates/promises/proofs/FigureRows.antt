-- Where a figure is missing and where it is NaN: the weight of a window's state is the valid count, and `finalize` asks the weight. One law
-- over the kind of entry and the moment. Assumes nothing.
use Prim.Native.Nat.{ℕ, suc, ◌+◌, ◌^◌, ◌≤◌, ◌<◌}
use mathlib.Core.Path.{◌≡◌, refl, ap, ◌∙◌}
use mathlib.Core.Bool.{Bool, true, false, cond, not, ◌&&◌}
use mathlib.Core.List.{List, ◌∷◌}
use mathlib.Core.Logic.{◌⊎◌, inl, inr}
use native.Mathlib.Omega.{arith}
use lib.Dec.{leb, eqb}
use lib.ListN.{length, length-append}
use lib.Ieee.{Float, nan}
use borrow.Author.Tests.{leb-true, leb-false, eqb-true}
use Rattle.float.specs.Operators.{of_nat64}
use Rattle.moment.specs.declared.Figure.{Figure}
use Rattle.moment.specs.declared.Figure.TheVariants.{Missing, Present}
use Rattle.plan.specs.Plan.{Plan, rows, row_start, row_end}
use Rattle.plan.specs.Code.Accepted.{Planned}
use Rattle.window.specs.Places.{Series, entries, valid_count, nonfinite_count}
use Rattle.window.specs.Window.{Account, Moment, front, back, rising, falling, as_nan, or_nan, figure_of}
use Rattle.window.specs.Readings.{nonfinite_at}
use Rattle.window.specs.Pairs.{nonfinite_pair}
use Rattle.window.specs.Given.{Kind, Readings, Pairs, Entry, Given, series_of, places_of}
use Rattle.window.specs.Rows.{account_at, counted, answer_of, answer_at}
use Rattle.window.specs.Outputs.{Lent, Answer, of_figure, answers_in}
use Rattle.window.proofs.Places.{entries-split, entries-cons, many-chosen, count-le, two-counts}
use Rattle.promises.specs.DemandThree.{TooFew, NotFiniteAt, SomeNotFinite, FigureRow, FirstAnswer}
use Rattle.promises.proofs.Accounts.{lies, row-account}
use Rattle.promises.proofs.RowsSame.{counted_is}

-- what is asked of a moment and its `finalize`: the weight of a window's state counts, and the figure is missing where at most `few` do
pub record ByWeight {A : Type 0} (M : Moment A) (final : M.State → Figure) (few : ℕ) : Type 0 where
  pub weight : M.State → Float
  pub value : M.State → Float
  pub counts : (xs ys : List A) → length xs + length ys ≤ 2 ^ 53
      → weight (M.combine (rising M M.empty xs) (falling M ys)) ≡ of_nat64 (length xs + length ys)
  pub judges : (n : ℕ) → n ≤ 2 ^ 53 → (s : M.State) → weight s ≡ of_nat64 n → final s ≡ cond (leb n few) Missing (Present (value s))

not_few : {n few min_periods : ℕ} → min_periods ≤ n → few < n → (n ≤ few) ⊎ (n < min_periods) → ◌≡◌ {A = ℕ} 1 0
not_few h g (inl p) = absurd (omega arith)
not_few h g (inr p) = absurd (omega arith)

-- where too few are valid the row is one that is missing
pub missing_row : {kind : Kind} {t : Given kind} {s e min_periods few : ℕ} → TooFew kind t s e min_periods few
    → FigureRow kind t s e min_periods few (of_figure Missing)
missing_row less = record { byte-is = inl refl; missing = (λ _. less, λ _. refl); not_finite = λ x. absurd (omega arith) }

-- a row's first answer, of what stands in the lists and what is said of it
pub first_answer : {Said : Answer → Type 0} {k : ℕ} {l : Lent} (answer : Answer) (others : List Answer)
    → answers_in l.outputs.answers k ≡ answer ∷ others → Said answer → FirstAnswer Said k l
first_answer answer others stands said = record { answer = answer; others = others; stands = stands; row = said }

-- a valid place that holds what is not finite counts as such, by the kind of entry
not_both_lem : (a b : Bool) → (a ≡ false) ⊎ (b ≡ false) → not (a && b) ≡ true
not_both_lem a b (inl e) = rw e
not_both_lem true b (inr e) = rw e
not_both_lem false b (inr e) = refl

nonfinite_there : (kind : Kind) (t : Given kind) (i : ℕ) → (series_of kind t).places.valid i ≡ true → NotFiniteAt kind t i
    → (series_of kind t).places.nonfinite i ≡ true
unfolding nonfinite_at nonfinite_pair
nonfinite_there Readings t i v f = rw (v, f)
nonfinite_there Pairs t i v f = rw v (not_both_lem _ _ f)

module _ (kind : Kind) (M : Moment (Entry kind)) (final : M.State → Figure) (few : ℕ) (by : ByWeight M final few) (t : Given kind)
    (p : Plan) (min_periods widest : ℕ) (plan : Planned (places_of kind t) widest p) (small : places_of kind t ≤ 16777216)
    (k : ℕ) (h : k < rows p) where
  abbrev w : Series (Entry kind)
  w = series_of kind t

  abbrev s : ℕ
  s = row_start p k

  abbrev e : ℕ
  e = row_end p k

  -- the account after row k
  abbrev B : Account
  B = account_at w.places.valid w.places.mapped min_periods p (suc k)

  abbrev N : ℕ
  N = valid_count w.places s e

  abbrev state : M.State
  state = M.combine (rising M M.empty (back w B)) (falling M (front w B))

  abbrev judged : Figure
  judged = cond (leb N few) Missing (Present (by.value state))

  figure-is : B.start ≡ s → B.end ≡ e → figure_of M final w B ≡ or_nan (nonfinite_count w.places s e) judged
  unfolding figure_of
  figure-is x y =
      let n = small in
      let r = plan.row k h in
      let i = lies w.places.valid w.places.mapped min_periods (places_of kind t) widest p plan (suc k) h in
      let b = count-le w.places.valid (λ j. j) s e in
      let m : length (front w B) + length (back w B) ≡ N = two-counts w.places.valid w.entry B.start B.split B.end
      i.start_le i.split_le ∙ many-chosen w.places.valid w.entry B.start B.end ∙ rw (x, y) in
      let o : length (back w B) + length (front w B) ≡ N = omega arith in
      let f = by.counts (back w B) (front w B) (omega arith) ∙ ap of_nat64 o in
      let d : nonfinite_count w.places B.start B.end ≡ nonfinite_count w.places s e = rw (x, y) in
      ap (λ (z : ℕ). or_nan z (final state)) d ∙ ap (or_nan (nonfinite_count w.places s e)) (by.judges N (omega arith) state f)

  -- row k's answer
  abbrev pub Answered : Figure
  Answered = answer_at M final w min_periods p k

  shape : Answered ≡ cond (leb min_periods N) (or_nan (nonfinite_count w.places s e) judged) Missing
  unfolding answer_at answer_of
  shape =
      go (leb min_periods (counted w.places s e)) refl
      ∙ ap (λ (z : ℕ). cond (leb min_periods z) (or_nan (nonfinite_count w.places s e) judged) Missing) (counted_is kind t s e)
    where
      go : (b : Bool) → leb min_periods (counted w.places s e) ≡ b
          → cond b (figure_of M final w B) Missing ≡ cond b (or_nan (nonfinite_count w.places s e) judged) Missing
      go true x = let f = row-account w.places min_periods p k x in figure-is f.0 f.1
      go false x = refl

  some-nonfinite : SomeNotFinite kind t s e → nonfinite_count w.places s e ≡ 0 → ⊥
  some-nonfinite (i, p, o, v, f) z =
      let d = simp length-append at (ap length (entries-split w.places.nonfinite (λ j. j) s i e p (omega arith))) in
      let g : entries w.places.nonfinite (λ j. j) i e ≡ i ∷ entries w.places.nonfinite (λ j. j) (suc i) e = entries-cons
      w.places.nonfinite (λ j. j) i e o ∙ rw (nonfinite_there kind t i v f) in
      let j = ap length g in
      omega arith

  -- the answer by what is tested: the minimum, the weight, and whether all are finite
  abbrev Told : Bool → Bool → Bool → Figure
  Told enough less finite =
      let figure = cond {A = Figure} less Missing (Present (by.value state)) in
      cond enough (cond finite figure (as_nan figure)) Missing

  pub figure-row : FigureRow kind t s e min_periods few (of_figure Answered)
  unfolding or_nan
  figure-row = rw shape (go (leb min_periods N) (leb N few) (eqb (nonfinite_count w.places s e) 0) refl refl refl)
    where
      go : (a b z : Bool) → leb min_periods N ≡ a → leb N few ≡ b → eqb (nonfinite_count w.places s e) 0 ≡ z
          → FigureRow kind t s e min_periods few (of_figure (Told a b z))
      go false b z x y n = missing_row (inr (leb-false _ _ x))
      go true true true x y n = missing_row (inl (leb-true _ _ y))
      go true true false x y n = missing_row (inl (leb-true _ _ y))
      go true false true x y n =
          record {
            byte-is = inr refl;
            missing = (λ z. absurd (omega arith), not_few (leb-true _ _ x) (leb-false _ _ y));
            not_finite = λ z f. absurd (some-nonfinite f (eqb-true _ _ n));
          }
      go true false false x y n =
          record {
            byte-is = inr refl;
            missing = (λ z. absurd (omega arith), not_few (leb-true _ _ x) (leb-false _ _ y));
            not_finite = λ z f. refl;
          }

  -- what holds of NaN and of every value holds of a present figure
  pub present-row : (Holds : Float → Type 0) → Holds nan → ((s : M.State) → Holds (by.value s))
      → (of_figure Answered).byte ≡ 1 → Holds (of_figure Answered).double
  unfolding or_nan
  present-row Holds bad good = rw shape (go (leb min_periods N) (leb N few) (eqb (nonfinite_count w.places s e) 0))
    where
      go : (a b z : Bool) → (of_figure (Told a b z)).byte ≡ 1 → Holds (of_figure (Told a b z)).double
      go false b z x = absurd (omega arith)
      go true true true x = absurd (omega arith)
      go true true false x = absurd (omega arith)
      go true false true x = good state
      go true false false x = bad
