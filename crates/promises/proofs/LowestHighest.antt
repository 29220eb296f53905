-- The definition's fold is one of the window's finite valid readings that none is beyond, by the law of numbers that readings widen; two
-- calls' are the same by the law of two calls' rows. Assumes nothing.
use Prim.Native.Nat.{ℕ, ◌-◌, ◌<◌}
use mathlib.Core.Path.{◌≡◌, refl, sym, ap, ◌∙◌, subst}
use mathlib.Core.Bool.{Bool, true, false, cond, not}
use mathlib.Core.List.Memᴰ
use mathlib.Core.List.{List, [], ◌∷◌, foldl, Memᴰ}
use mathlib.Core.Logic.{inl, inr, ⊎_elim}
use native.Mathlib.Omega.{arith}
use borrow.Author.Tests.{not-true, ltb-true, lt-ltb}
use lib.ListN.{length, drop}
use lib.Ieee.{Float, inf}
use lib.Ieee.Scale.{finite}
use Rattle.float.proofs.Cases.{apart}
use Rattle.float.proofs.Ordering.{Orders, lower_orders, higher_orders, plain_double}
use Rattle.trace.specs.Trace.{Trace, valid_at}
use Rattle.moment.specs.declared.Figure.TheVariants.{Missing}
use Rattle.plan.specs.Plan.{Plan, rows, row_start, row_end}
use Rattle.window.specs.Readings.{reading_of}
use Rattle.window.specs.Extremes.{finite_at, finite_readings, lower, higher, further, unsigned_zero, extreme, short_row, extreme_of, extreme_at}
use Rattle.window.specs.Given.{Given}
use Rattle.window.specs.Outputs.{Lent, of_figure}
use Rattle.window.proofs.Extremes.{entry_place, place-entry, not-limit, fold-extreme, both, first_of, second-of}
use Rattle.rolling.specs.Moments.{Statistic, Variance, Skewness, Kurtosis, Covariance, Correlation, kind_of, finals_of}
use Rattle.rolling.specs.Calls.{query}
use Rattle.promises.specs.Calls.{AcceptedCall}
use Rattle.promises.specs.LowestHighest.{FiniteIn, Short, IsExtreme, ExtremeRow, WhereExtremes, LowestHighest}
use Rattle.promises.proofs.Accepted.{known}
use Rattle.promises.proofs.TwoCalls.{alike_answers}

module _ (t : Trace) (s e : ℕ) where
  abbrev l : List Float
  l = finite_readings t s e

  -- a place of the window, and its reading in the list
  listed : (i : ℕ) → FiniteIn t s e i → Memᴰ (reading_of t.readings i) l
  listed i f = place-entry (finite_at t) (reading_of t.readings) s e i f.from f.below (both _ _ f.valid f.is_finite)

  placed : (x : Float) → Memᴰ x l → (i : ℕ) × FiniteIn t s e i × (x ≡ reading_of t.readings i)
  placed x m =
      let p = entry_place (finite_at t) (reading_of t.readings) s e x m in
      let v = valid_at t.mapped t.map p.place in (
        p.place,
        record { from = p.from; below = p.below; valid = first_of v _ p.chosen; is_finite = second-of v _ p.chosen },
        p.is,
      )

  all-finite : (x : Float) → Memᴰ x l → finite x ≡ true
  all-finite x m = let p = placed x m in ap finite p.2 ∙ p.1.is_finite

  -- ---- a row is short exactly where its test says so
  short-is : (min_periods : ℕ) → short_row t.mapped min_periods s e ≡ true → Short t s e min_periods
  short-is min_periods h =
      record {
        without = not-true t.mapped (first_of (not t.mapped) _ h);
        shorter = ltb-true (e - s) min_periods (second-of (not t.mapped) _ h);
      }

  not_short : (min_periods : ℕ) → short_row t.mapped min_periods s e ≡ false → Short t s e min_periods → ⊥
  not_short min_periods h q = apart (sym h ∙ rw (q.without, lt-ltb (e - s) min_periods q.shorter))

  module _ (beyond : Float → Float → Bool) (limit : Float) (O : Orders beyond limit) where
    -- the fold of a list that has a member
    found : (x : Float) (m : List Float) → l ≡ x ∷ m → IsExtreme beyond t s e (unsigned_zero (foldl (further beyond) x m))
    found x m q =
        let in-l : (u : Float) → Memᴰ u (x ∷ m) → Memᴰ u l = λ u i. subst (Memᴰ u) (sym q) i in
        let f : (u : Float) → Memᴰ u (x ∷ m) → finite u ≡ true = λ u i. all-finite u (in-l u i) in
        let v = fold-extreme beyond limit O x m f in
        let z = foldl (further beyond) x m in
        let here = Memᴰ.head refl in
        ⊎_elim
        (λ k. not-limit beyond limit O x z (f x here) (v.none_beyond x here (f x here)) k)
        (λ o.
        let p = placed z (in-l z o.1) in
        record {
          place = p.0;
          stands = p.1;
          is = ap unsigned_zero p.2;
          none_beyond = λ i g.
              ap (beyond (reading_of t.readings i)) (sym p.2)
              ∙ v.none_beyond _ (subst (Memᴰ (reading_of t.readings i)) q (listed i g)) g.is_finite;
        })
        v.is_one

    row-by-list : (min_periods : ℕ) → short_row t.mapped min_periods s e ≡ false → (m : List Float) → l ≡ m
        → ExtremeRow beyond t s e min_periods (of_figure (extreme beyond m))
    unfolding extreme
    row-by-list min_periods h [] q =
        record {
          byte-is = inl refl;
          present = (λ k. absurd (omega arith), λ o. absurd (Memᴰ.not-nil (subst (Memᴰ _) q (listed o.0.0 o.0.1))));
          missing = λ k. refl;
          extreme = λ k. absurd (omega arith);
        }
    row-by-list min_periods h (x ∷ m) q =
        let w = found x m q in
        record {
          byte-is = inr refl;
          present = (λ k. ((w.place, w.stands), not_short min_periods h), λ o. refl);
          missing = λ k. absurd (omega arith);
          extreme = λ k. w;
        }

    extreme-row : (min_periods : ℕ) → ExtremeRow beyond t s e min_periods (of_figure (extreme_of beyond t min_periods s e))
    unfolding extreme_of
    extreme-row min_periods = go (short_row t.mapped min_periods s e) refl
      where
        go : (b : Bool) → short_row t.mapped min_periods s e ≡ b
            → ExtremeRow beyond t s e min_periods (of_figure (cond b Missing (extreme beyond l)))
        go true h =
            record {
              byte-is = inl refl;
              present = (λ k. absurd (omega arith), λ o. absurd (o.1 (short-is min_periods h)));
              missing = λ k. refl;
              extreme = λ k. absurd (omega arith);
            }
        go false h = row-by-list min_periods h l refl

by_figure : (a : Statistic) (t : Given (kind_of a)) (p : Plan) (min_periods : ℕ) (l : Lent) → AcceptedCall (query p min_periods a) t l
    → (k : ℕ) → k < rows p → WhereExtremes a t p min_periods k l
by_figure (Variance ddof) t p min_periods l c k h =
    record {
      variance = _;
      lowest = of_figure (extreme_at lower t min_periods p k);
      highest = of_figure (extreme_at higher t min_periods p k);
      stand = (known (query p min_periods (Variance ddof)) t l c).answers k h;
      lowest_is = extreme-row t (row_start p k) (row_end p k) lower (inf false) lower_orders min_periods;
      highest_is = extreme-row t (row_start p k) (row_end p k) higher (inf true) higher_orders min_periods;
    }
by_figure (Skewness bias) t p min_periods l c k h = tt
by_figure (Kurtosis fisher bias) t p min_periods l c k h = tt
by_figure (Covariance ddof) t p min_periods l c k h = tt
by_figure Correlation t p min_periods l c k h = tt

pub lowest_highest : LowestHighest
lowest_highest =
    record {
      one = λ q t l c k h. by_figure q.statistic t q.plan q.min_periods l c k h;
      two = λ q t t' l l' alike c c' k h g. ap (drop (length (finals_of q.statistic))) (alike_answers q t t' l l' alike c c' k h g);
      unsigned = plain_double;
    }
