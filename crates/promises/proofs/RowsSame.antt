-- A row's answers depend on the account, which no reading moves, and on the places of its own window, for every kind of entry; where the
-- minimum is not met there is no answer to compare. Assumes nothing.
use Prim.Native.Nat.{ℕ, suc, ◌-◌, ◌≤◌, ◌<◌}
use mathlib.Core.Path.{◌≡◌, refl, sym, ap, ◌∙◌, subst}
use mathlib.Core.Bool.{Bool, true, false, cond, not, ◌&&◌}
use mathlib.Core.List.{List, [], ◌∷◌, ◌++◌}
use native.Mathlib.Omega.{arith}
use lib.Dec.{leb}
use lib.ListN.{length}
use lib.Ieee.{Float}
use lib.Ieee.Scale.{finite}
use Rattle.float.proofs.Cases.{Or, here, there, order}
use Rattle.trace.specs.Trace.{valid_at}
use Rattle.moment.specs.declared.Figure.{Figure}
use Rattle.moment.specs.declared.Figure.TheVariants.{Missing}
use Rattle.plan.specs.Plan.{Plan, rows, row_start, row_end}
use Rattle.plan.specs.Code.Accepted.{Planned}
use Rattle.window.specs.Places.{Series, valid_count, nonfinite_count}
use Rattle.window.specs.Window.{Account, Moment, figure_of}
use Rattle.window.specs.Readings.{reading_of, inserted_at, nonfinite_at}
use Rattle.window.specs.Pairs.{pair_of, finite_pair, inserted_pair, nonfinite_pair}
use Rattle.window.specs.Given.{Kind, Readings, Pairs, Entry, Given, series_of, SameAt}
use Rattle.window.specs.Rows.{moves, account_at, counted, answer_of, answer_at}
use Rattle.window.specs.Extremes.{finite_at, finite_readings, lower, higher, extreme, short_row, extreme_of, extreme_at}
use Rattle.window.specs.Outputs.{of_figure, answers_at}
use Rattle.window.proofs.Places.{count-all}
use Rattle.window.proofs.Pairs.{unmapped_both}
use Rattle.window.proofs.Extremes.{first_of}
use Rattle.window.proofs.Outputs.{◌then◌}
use Rattle.rolling.specs.Moments.{Statistic, Variance, Skewness, Kurtosis, Covariance, Correlation, kind_of}
use Rattle.rolling.specs.Calls.{figures_by, extremes_by}
use Rattle.promises.proofs.Accounts.{entries-same, account-same, figure_same, lies, meets, row-account}

-- ---- laws of what is given, by its kind
entry_same_lem : (kind : Kind) (t t' : Given kind) (i : ℕ) → SameAt kind t t' i → (series_of kind t).entry i ≡ (series_of kind t').entry i
unfolding inserted_at inserted_pair
entry_same_lem Readings t t' i e = rw e
entry_same_lem Pairs t t' i e = rw (e.0, e.1)

-- what is told of valid places alone
guards : (a b c d : Bool) → a ≡ b → (a ≡ true → c ≡ d) → (a && c) ≡ (b && d)
guards true b c d e f = rw (← e) (f refl)
guards false b c d e f = rw (← e)

guarded : (v a b : Bool) → (v ≡ true → a ≡ b) → (v && not a) ≡ (v && not b)
guarded v a b g = guards v v (not a) (not b) refl (λ e. ap not (g e))

nonfinite_same : (kind : Kind) (t t' : Given kind) (i : ℕ) → (series_of kind t).places.valid i ≡ (series_of kind t').places.valid i
    → ((series_of kind t).places.valid i ≡ true → SameAt kind t t' i) → (series_of kind t).places.nonfinite i ≡ (series_of kind t').places.nonfinite i
unfolding nonfinite_at nonfinite_pair
nonfinite_same Readings t t' i v e = rw (← v) (guarded ((series_of Readings t).places.valid i) _ _ (λ x. ap finite (e x)))
nonfinite_same Pairs t t' i v e =
    rw (← v)
    (guarded ((series_of Pairs t).places.valid i) (finite_pair (pair_of t.x.readings t.y.readings i))
    (finite_pair (pair_of t'.x.readings t'.y.readings i)) (λ x. rw ((e x).0, (e x).1)))

-- without any map every place is valid
all_valid : (kind : Kind) (t : Given kind) → (series_of kind t).places.mapped ≡ false → (i : ℕ) → (series_of kind t).places.valid i ≡ true
unfolding valid_at
all_valid Readings t e i = rw e
all_valid Pairs t e i = unmapped_both t.x.mapped t.y.mapped t.x.map t.y.map e i

pub counted_is : (kind : Kind) (t : Given kind) (s e : ℕ) → counted (series_of kind t).places s e ≡ valid_count (series_of kind t).places s e
counted_is kind t s e = go (series_of kind t).places.mapped refl
  where
    go : (m : Bool) → (series_of kind t).places.mapped ≡ m → cond m (valid_count (series_of kind t).places s e) (e - s) ≡ valid_count (series_of kind t).places s e
    go true x = refl
    go false x = sym (count-all (series_of kind t).places.valid (λ i. i) (all_valid kind t x) s e)

module _ (kind : Kind) (M : Moment (Entry kind)) (final : M.State → Figure) (t t' : Given kind) (min_periods n widest : ℕ) (p : Plan) (plan : Planned n widest p)
    (places : (i : ℕ) → i < n → (series_of kind t).places.valid i ≡ (series_of kind t').places.valid i) where
  abbrev u : Series (Entry kind)
  u = series_of kind t

  abbrev u' : Series (Entry kind)
  u' = series_of kind t'

  abbrev moves_at : Series (Entry kind) → ℕ → Bool
  moves_at w k = moves w.places.mapped min_periods k (row_start p k) (row_end p k)

  abbrev SameMoves : ℕ → Type 0
  SameMoves k = (j : ℕ) → j < k → moves_at u j ≡ moves_at u' j

  module _ (k : ℕ) (h : k < rows p) (m : SameMoves k) (g : (i : ℕ) → row_start p k ≤ i → i < row_end p k → u.places.valid i ≡ true → SameAt kind t t' i) where
    abbrev S : ℕ
    S = row_start p k

    abbrev E : ℕ
    E = row_end p k

    valid-in : (i : ℕ) → S ≤ i → i < E → u.places.valid i ≡ u'.places.valid i
    valid-in i x l = let w = plan.row k h in places i (omega arith)

    entry_in : (i : ℕ) → S ≤ i → i < E → u.places.valid i ≡ true → u.entry i ≡ u'.entry i
    entry_in i x l v = entry_same_lem kind t t' i (g i x l v)

    -- with a map or without one
    counted_same : counted u.places S E ≡ counted u'.places S E
    counted_same =
        counted_is kind t S E
        ∙ ap length (entries-same u.places.valid u'.places.valid (λ i. i) (λ i. i) S E valid-in (λ i x l v. refl))
        ∙ sym (counted_is kind t' S E)

    nonfinite-count : nonfinite_count u.places S E ≡ nonfinite_count u'.places S E
    nonfinite-count =
        ap length
        (entries-same u.places.nonfinite u'.places.nonfinite (λ i. i) (λ i. i) S E (λ i x l. nonfinite_same kind t t' i (valid-in i x l) (g i x l)) (λ i x l b. refl))

    abbrev A : Account
    A = account_at u.places.valid u.places.mapped min_periods p (suc k)

    -- a row that meets the minimum moves both windows, as the same rows before it do
    row-moves : leb min_periods (counted u.places S E) ≡ true → SameMoves (suc k)
    row-moves e j o = go (order k j)
      where
        this : moves_at u k ≡ moves_at u' k
        this = meets u.places min_periods k S E e ∙ sym (meets u'.places min_periods k S E (rw (← counted_same) e))

        go : Or (k ≤ j) (j < k) → moves_at u j ≡ moves_at u' j
        go (here l) = let z : k ≡ j = omega arith in subst (λ (i : ℕ). moves_at u i ≡ moves_at u' i) z this
        go (there l) = m j l

    accounts : leb min_periods (counted u.places S E) ≡ true → A ≡ account_at u'.places.valid u'.places.mapped min_periods p (suc k)
    accounts e =
        account-same u.places.valid u'.places.valid u.places.mapped u'.places.mapped min_periods n widest p plan places (suc k) h
        (row-moves e)

    pub yields-same : answer_at M final u min_periods p k ≡ answer_at M final u' min_periods p k
    unfolding answer_at answer_of
    yields-same =
        rw (← counted_same) (go (leb min_periods (counted u.places S E)) refl)
      where
        go : (b : Bool) → leb min_periods (counted u.places S E) ≡ b
            → cond b (figure_of M final u A) Missing
            ≡ cond b (figure_of M final u' (account_at u'.places.valid u'.places.mapped min_periods p (suc k))) Missing
        go true e =
            let f = row-account u.places min_periods p k e in
            let x = f.0 in
            let y = f.1 in
            let l = lies u.places.valid u.places.mapped min_periods n widest p plan (suc k) h in
            figure_same M final u u' A l.start_le l.split_le (λ i x' o. valid-in i (omega arith) (omega arith))
            (λ i x' o v. entry_in i (omega arith) (omega arith) v) (rw (x, y) nonfinite-count)
            ∙ ap (figure_of M final u') (accounts e)
        go false e = refl

-- every figure of the list at once
pub figures_same : (kind : Kind) (M : Moment (Entry kind)) (finals : List (M.State → Figure)) (t t' : Given kind) (min_periods n widest : ℕ) (p : Plan) → Planned n widest p
    → ((i : ℕ) → i < n → (series_of kind t).places.valid i ≡ (series_of kind t').places.valid i) → (k : ℕ) → k < rows p
    → ((j : ℕ) → j < k → moves (series_of kind t).places.mapped min_periods j (row_start p j) (row_end p j) ≡ moves (series_of kind t').places.mapped min_periods j (row_start p j) (row_end p j))
    → ((i : ℕ) → row_start p k ≤ i → i < row_end p k → (series_of kind t).places.valid i ≡ true → SameAt kind t t' i)
    → answers_at (figures_by M finals (series_of kind t) min_periods p) k ≡ answers_at (figures_by M finals (series_of kind t') min_periods p) k
figures_same kind M [] t t' min_periods n widest p plan places k h m g = refl
figures_same kind M (final ∷ finals) t t' min_periods n widest p plan places k h m g =
    ap of_figure (yields-same kind M final t t' min_periods n widest p plan places k h m g)
    then figures_same kind M finals t t' min_periods n widest p plan places k h m g

-- the lowest and highest reading, which the places of the row's window tell alone
pub extremes_same : (a : Statistic) (t t' : Given (kind_of a)) (min_periods : ℕ) (p : Plan) (k : ℕ)
    → (series_of (kind_of a) t).places.mapped ≡ (series_of (kind_of a) t').places.mapped
    → ((i : ℕ) → row_start p k ≤ i → i < row_end p k
    → (series_of (kind_of a) t).places.valid i ≡ (series_of (kind_of a) t').places.valid i)
    → ((i : ℕ) → row_start p k ≤ i → i < row_end p k → (series_of (kind_of a) t).places.valid i ≡ true → SameAt (kind_of a) t t' i)
    → answers_at (extremes_by a t min_periods p) k ≡ answers_at (extremes_by a t' min_periods p) k
unfolding extreme_of
extremes_same (Variance ddof) t t' min_periods p k m v g =
    ap of_figure (same lower) then ap of_figure (same higher) then refl
  where
    readings : finite_readings t (row_start p k) (row_end p k) ≡ finite_readings t' (row_start p k) (row_end p k)
    readings =
        entries-same (finite_at t) (finite_at t') (reading_of t.readings) (reading_of t'.readings) (row_start p k) (row_end p k)
        (λ i x l. guards _ _ _ _ (v i x l) (λ e. ap finite (g i x l e))) (λ i x l e. g i x l (first_of (valid_at t.mapped
        t.map i) _ e))

    same : (beyond : Float → Float → Bool) → extreme_at beyond t min_periods p k ≡ extreme_at beyond t' min_periods p k
    same beyond = λ j. cond (short_row (m j) min_periods (row_start p k) (row_end p k)) Missing (extreme beyond (readings j))
extremes_same (Skewness bias) t t' min_periods p k m v g = refl
extremes_same (Kurtosis fisher bias) t t' min_periods p k m v g = refl
extremes_same (Covariance ddof) t t' min_periods p k m v g = refl
extremes_same Correlation t t' min_periods p k m v g = refl

-- figures, then what stands behind them
pub answers_both : (fs gs : List (ℕ → Figure)) (k : ℕ) → answers_at (fs ++ gs) k ≡ answers_at fs k ++ answers_at gs k
answers_both [] gs k = refl
answers_both (f ∷ fs) gs k = refl then answers_both fs gs k
