-- A call on traces that are lent with a flag is the call on the traces that the flag tells: without a map its bytes change no number and no
-- answer. Assumes nothing.
use Rattle.std.proofs.Common.{◌≡◌, ℕ, Bool, true, false, List, length, refl, ap, ◌∙◌, subst}
use lib.Ieee.{Float}
use Rattle.trace.specs.Trace.{Trace, trace_of, valid_at, both_at}
use Rattle.trace.specs.Refusals.{wrong_map}
use Rattle.trace.specs.Lent.{LentAs}
use Rattle.plan.specs.Plan.{Plan}
use Rattle.plan.specs.Bounds.{bounds}
use Rattle.window.specs.Readings.{nonfinite_at}
use Rattle.window.specs.Pairs.{TracePair, nonfinite_pair}
use Rattle.window.specs.Extremes as extremes
use Rattle.window.specs.Given.{Readings, Pairs, Given, places_of, given_refusal}
use Rattle.window.specs.Outputs.{Lent}
use Rattle.rolling.specs.Moments.{Statistic, Variance, Skewness, Kurtosis, Covariance, Correlation, kind_of}
use Rattle.rolling.specs.Calls.{Query, query, GivenTo, Left, Called, Calls, yields}
use Rattle.rolling.specs.Fixed.{CalledFixed, CallsFixed}

-- ---- what a call says of what is given is its number, its places and its rows
module _ (q : Query) (t t' : GivenTo q) (rows_same : yields q t ≡ yields q t') {l₀ l₁ : Lent} {number : ℕ} where
  pub left_alike : Left q t l₀ l₁ number → Left q t' l₀ l₁ number
  left_alike v =
      record {
        fits = record { answers = v.fits.answers ∙ ap (λ fs. length fs) rows_same; counts = v.fits.counts };
        written = record { answers_are = rw (← rows_same) v.written.answers_are; counts_are = v.written.counts_are };
        work_kept = v.work_kept;
      }

  pub called_alike : given_refusal (kind_of q.statistic) t ≡ given_refusal (kind_of q.statistic) t'
      → places_of (kind_of q.statistic) t ≡ places_of (kind_of q.statistic) t' → Called q t l₀ l₁ number → Called q t' l₀ l₁ number
  called_alike g p v = record { number_is = v.number_is ∙ rw (g, p); left = left_alike v.left }

-- ---- of a flag
-- what a map without a flag does not change is the same by the flag
by_flag : {X : Type 0} (F : Bool → List ℕ → X) → ((m m' : List ℕ) → F false m ≡ F false m') → {v : List Float} {has : Bool} {map : List ℕ} {t : Trace}
    → LentAs v has map t → F t.mapped t.map ≡ F has map
by_flag F e {has = has} {map} {t} h = ap (λ b. F b t.map) h.mapped_is ∙ go has map t.map h.map_is
  where
    go : (has : Bool) (map map' : List ℕ) → (has ≡ true → map' ≡ map) → F has map' ≡ F has map
    go true map map' z = ap (λ m. F true m) (z refl)
    go false map map' z = e map' map

-- what a call with fixed windows says of what is given
module _ (center : Bool) (size min_periods : ℕ) (a : Statistic) (t t' : Given (kind_of a))
    (rows_same : (p : Plan) → yields (query p min_periods a) t ≡ yields (query p min_periods a) t')
    (given_same : given_refusal (kind_of a) t ≡ given_refusal (kind_of a) t') (places_same : places_of (kind_of a) t ≡ places_of (kind_of a) t')
    {l₀ l₁ : Lent} {number : ℕ} where
  pub fixed_alike : CalledFixed center size min_periods a t l₀ l₁ number → CalledFixed center size min_periods a t' l₀ l₁ number
  fixed_alike v =
      let q = query (bounds center size (places_of (kind_of a) t)) min_periods a in
      let plan_call = called_alike q t t' (rows_same q.plan) given_same places_same v.plan_call in
      record {
        number_is = v.number_is ∙ rw (given_same, places_same);
        plan_call = subst (λ (n : ℕ). Called (query (bounds center size n) min_periods a) t' l₀ l₁ number) places_same plan_call;
      }

-- ---- one trace
module _ {v : List Float} {has : Bool} {map : List ℕ} {t : Trace} (h : LentAs v has map t) where
  given_lent : given_refusal Readings t ≡ given_refusal Readings (trace_of v has map)
  unfolding wrong_map
  given_lent = by_flag (λ b m. given_refusal Readings (trace_of t.readings b m)) (λ m m'. refl) h ∙ ap (λ r. given_refusal Readings (trace_of r has map)) h.readings_are

  places_lent : places_of Readings t ≡ places_of Readings (trace_of v has map)
  places_lent = ap (λ r. length r) h.readings_are

  var_rows : (p : Plan) (min_periods ddof : ℕ) → yields (query p min_periods (Variance ddof)) t ≡ yields (query p min_periods (Variance ddof)) (trace_of v has map)
  unfolding valid_at nonfinite_at extremes.extreme_of
  var_rows p min_periods ddof =
      by_flag (λ b m. yields (query p min_periods (Variance ddof)) (trace_of t.readings b m)) (λ m m'. refl) h
      ∙ ap (λ r. yields (query p min_periods (Variance ddof)) (trace_of r has map)) h.readings_are

  skew_rows : (p : Plan) (min_periods : ℕ) (bias : Bool) → yields (query p min_periods (Skewness bias)) t ≡ yields (query p min_periods (Skewness bias)) (trace_of v has map)
  unfolding valid_at nonfinite_at
  skew_rows p min_periods bias =
      by_flag (λ b m. yields (query p min_periods (Skewness bias)) (trace_of t.readings b m)) (λ m m'. refl) h
      ∙ ap (λ r. yields (query p min_periods (Skewness bias)) (trace_of r has map)) h.readings_are

  kurtosis_rows : (p : Plan) (min_periods : ℕ) (fisher bias : Bool)
      → yields (query p min_periods (Kurtosis fisher bias)) t ≡ yields (query p min_periods (Kurtosis fisher bias)) (trace_of v has map)
  unfolding valid_at nonfinite_at
  kurtosis_rows p min_periods fisher bias =
      by_flag (λ b m. yields (query p min_periods (Kurtosis fisher bias)) (trace_of t.readings b m)) (λ m m'. refl) h
      ∙ ap (λ r. yields (query p min_periods (Kurtosis fisher bias)) (trace_of r has map)) h.readings_are

  module _ {l : Lent × Lent} {number : ℕ} where
    pub var_lent : (p : Plan) (min_periods ddof : ℕ) → Calls (query p min_periods (Variance ddof)) t l number
        → Calls (query p min_periods (Variance ddof)) (trace_of v has map) l number
    var_lent p min_periods ddof = called_alike _ t _ (var_rows p min_periods ddof) given_lent places_lent

    pub skew_lent : (p : Plan) (min_periods : ℕ) (bias : Bool) → Calls (query p min_periods (Skewness bias)) t l number
        → Calls (query p min_periods (Skewness bias)) (trace_of v has map) l number
    skew_lent p min_periods bias = called_alike _ t _ (skew_rows p min_periods bias) given_lent places_lent

    pub kurtosis_lent : (p : Plan) (min_periods : ℕ) (fisher bias : Bool) → Calls (query p min_periods (Kurtosis fisher bias)) t l number
        → Calls (query p min_periods (Kurtosis fisher bias)) (trace_of v has map) l number
    kurtosis_lent p min_periods fisher bias = called_alike _ t _ (kurtosis_rows p min_periods fisher bias) given_lent places_lent

    module _ (center : Bool) (size min_periods : ℕ) where
      pub var_lent_fixed : (ddof : ℕ) → CallsFixed center size min_periods (Variance ddof) t l number
          → CallsFixed center size min_periods (Variance ddof) (trace_of v has map) l number
      var_lent_fixed ddof = fixed_alike center size min_periods _ t _ (λ p. var_rows p min_periods ddof) given_lent places_lent

      pub skew_lent_fixed : (bias : Bool) → CallsFixed center size min_periods (Skewness bias) t l number
          → CallsFixed center size min_periods (Skewness bias) (trace_of v has map) l number
      skew_lent_fixed bias = fixed_alike center size min_periods _ t _ (λ p. skew_rows p min_periods bias) given_lent places_lent

      pub kurtosis_lent_fixed : (fisher bias : Bool) → CallsFixed center size min_periods (Kurtosis fisher bias) t l number
          → CallsFixed center size min_periods (Kurtosis fisher bias) (trace_of v has map) l number
      kurtosis_lent_fixed fisher bias = fixed_alike center size min_periods _ t _ (λ p. kurtosis_rows p min_periods fisher bias) given_lent places_lent

-- ---- two
abbrev two : Trace → Trace → TracePair
two x y = record { x = x; y = y }

module _ {v v' : List Float} {has has' : Bool} {map map' : List ℕ} {x y : Trace} (h : LentAs v has map x) (h' : LentAs v' has' map' y) where
  -- a fact of two traces, by the first and then by the second
  by_both : {X : Type 0} (F : Trace → Trace → X) → ((r : List Float) (m m' : List ℕ) (z : Trace) → F (trace_of r false m) z ≡ F (trace_of r false m') z)
      → ((r : List Float) (m m' : List ℕ) (z : Trace) → F z (trace_of r false m) ≡ F z (trace_of r false m'))
      → F x y ≡ F (trace_of v has map) (trace_of v' has' map')
  by_both F e e' =
      by_flag (λ b m. F (trace_of x.readings b m) y) (λ m m'. e x.readings m m' y) h ∙ ap (λ r. F (trace_of r has map) y) h.readings_are
      ∙ by_flag (λ b m. F (trace_of v has map) (trace_of y.readings b m)) (λ m m'. e' y.readings m m' (trace_of v has map)) h'
      ∙ ap (λ r. F (trace_of v has map) (trace_of r has' map')) h'.readings_are

  pair_given : given_refusal Pairs (two x y) ≡ given_refusal Pairs (two (trace_of v has map) (trace_of v' has' map'))
  unfolding wrong_map
  pair_given = by_both (λ a b. given_refusal Pairs (two a b)) (λ r m m' z. refl) (λ r m m' z. refl)

  pair_places' : places_of Pairs (two x y) ≡ places_of Pairs (two (trace_of v has map) (trace_of v' has' map'))
  pair_places' = ap (λ r. length r) h.readings_are

  cov_rows : (p : Plan) (min_periods ddof : ℕ) → yields (query p min_periods (Covariance ddof)) (two x y)
      ≡ yields (query p min_periods (Covariance ddof)) (two (trace_of v has map) (trace_of v' has' map'))
  unfolding valid_at both_at nonfinite_pair
  cov_rows p min_periods ddof = by_both (λ a b. yields (query p min_periods (Covariance ddof)) (two a b)) (λ r m m' z. refl) (λ r m m' z. refl)

  pearson_rows : (p : Plan) (min_periods : ℕ) → yields (query p min_periods Correlation) (two x y)
      ≡ yields (query p min_periods Correlation) (two (trace_of v has map) (trace_of v' has' map'))
  unfolding valid_at both_at nonfinite_pair
  pearson_rows p min_periods = by_both (λ a b. yields (query p min_periods Correlation) (two a b)) (λ r m m' z. refl) (λ r m m' z. refl)

  module _ {l : Lent × Lent} {number : ℕ} where
    pub cov_lent : (p : Plan) (min_periods ddof : ℕ) → Calls (query p min_periods (Covariance ddof)) (two x y) l number
        → Calls (query p min_periods (Covariance ddof)) (two (trace_of v has map) (trace_of v' has' map')) l number
    cov_lent p min_periods ddof = called_alike _ (two x y) _ (cov_rows p min_periods ddof) pair_given pair_places'

    pub pearson_lent : (p : Plan) (min_periods : ℕ) → Calls (query p min_periods Correlation) (two x y) l number
        → Calls (query p min_periods Correlation) (two (trace_of v has map) (trace_of v' has' map')) l number
    pearson_lent p min_periods = called_alike _ (two x y) _ (pearson_rows p min_periods) pair_given pair_places'

    module _ (center : Bool) (size min_periods : ℕ) where
      pub cov_lent_fixed : (ddof : ℕ) → CallsFixed center size min_periods (Covariance ddof) (two x y) l number
          → CallsFixed center size min_periods (Covariance ddof) (two (trace_of v has map) (trace_of v' has' map')) l number
      cov_lent_fixed ddof = fixed_alike center size min_periods _ (two x y) _ (λ p. cov_rows p min_periods ddof) pair_given pair_places'

      pub pearson_lent_fixed : CallsFixed center size min_periods Correlation (two x y) l number
          → CallsFixed center size min_periods Correlation (two (trace_of v has map) (trace_of v' has' map')) l number
      pearson_lent_fixed = fixed_alike center size min_periods _ (two x y) _ (λ p. pearson_rows p min_periods) pair_given pair_places'
