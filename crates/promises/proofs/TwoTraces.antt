-- The statement for pairs of traces: the law of two calls' rows, and the law of where a figure is missing. The weight counts pairs: an
-- insert combines with a state of weight one. Assumes nothing.
use Prim.Native.Nat.{ℕ, zero, suc, ◌+◌, ◌^◌, ◌≤◌, ◌<◌}
use mathlib.Core.Path.{◌≡◌, refl, sym, ap, ◌∙◌}
use mathlib.Core.Bool.{cond}
use mathlib.Core.List.{List, [], ◌∷◌}
use native.Mathlib.Omega.{arith}
use lib.Dec.{leb, eqb}
use lib.ListN.{length}
use borrow.Author.Tests.{ne_eqb, lt-leb}
use lib.Ieee.{Float}
use Rattle.float.specs.Operators.{◌⊖◌, ◌⊘◌, of_nat64}
use Rattle.float.proofs.Counts.{zero_is}
use Rattle.moment.specs.declared.Figure.{Figure}
use Rattle.moment.specs.declared.Figure.TheVariants.{Missing, Present}
use Rattle.moment.specs.Cov.{cov_empty, cov_new, cov_combine, cov_finalize}
use Rattle.moment.specs.Pearson.{pearson_empty, pearson_new, pearson_combine, pearson_finalize}
use Rattle.moment.proofs.Weights.{CombineCounts, combining, parts-count, cov_weight, pearson_weight, cov_combine_count}
use Rattle.moment.proofs.Weights.{pearson_combine_count, at_zero}
use Rattle.moment.proofs.Figures.{cov-missing}
use Rattle.plan.specs.Plan.{Plan, rows}
use Rattle.plan.specs.Code.Accepted.{Planned}
use Rattle.window.specs.Window.{Moment, rising, falling}
use Rattle.window.specs.Given.{Pairs, Given, series_of, places_of, given_refusal}
use Rattle.window.specs.Outputs.{Lent, answers_in, answers_at}
use Rattle.rolling.specs.Moments.{Statistic, Variance, Skewness, Kurtosis, Covariance, Correlation, kind_of}
use Rattle.rolling.specs.Moments.{pair_moment, covariance, correlation, correlation_finalize}
use Rattle.rolling.specs.Calls.{query, figures_by}
use Rattle.rolling.proofs.Calls.{few_places}
use Rattle.promises.specs.Calls.{AcceptedCall}
use Rattle.promises.specs.DemandThree.{IsSetting}
use Rattle.promises.specs.TwoTraces.{PairFigureIn, WherePairs, PairStatement}
use Rattle.promises.proofs.Accepted.{known}
use Rattle.promises.proofs.TwoCalls.{alike_same}
use Rattle.promises.proofs.FigureRows.{first_answer, ByWeight, figure-row}

-- ---- a state's weight counts pairs
module _ {S : Type 0} (weight : S → Float) (empty : S) (new : List (Float × Float) → S) (combine : S → S → S)
    (none : weight empty ≡ of_nat64 0) (one : (p : Float × Float) → weight (new (p ∷ [])) ≡ of_nat64 1)
    (adds : CombineCounts weight combine) where
  pub pairs-count : (xs ys : List (Float × Float)) → length xs + length ys ≤ 2 ^ 53
      → weight (combine (rising (pair_moment empty new combine) empty xs) (falling (pair_moment empty new combine) ys))
      ≡ of_nat64 (length xs + length ys)
  pairs-count =
      parts-count weight (pair_moment empty new combine).insert (combining weight combine (λ p. new (p ∷ [])) adds one) combine adds empty none

cov_one : (p : Float × Float) → cov_weight (cov_new (p ∷ [])) ≡ of_nat64 1
unfolding cov_new
cov_one p = refl

pearson_one : (p : Float × Float) → pearson_weight (pearson_new (p ∷ [])) ≡ of_nat64 1
unfolding pearson_new
pearson_one p = refl

-- ---- where the figures are missing
cov_by_weight : (ddof : ℕ) → ddof < 256 → ByWeight covariance (λ s. cov_finalize s ddof) ddof
cov_by_weight ddof byte =
    record {
      weight = cov_weight;
      value = λ s. s.dp_xy ⊘ (s.weight ⊖ of_nat64 ddof);
      counts = pairs-count cov_weight cov_empty cov_new cov_combine zero_is cov_one cov_combine_count;
      judges = λ n h s e. cov-missing n h s ddof byte e;
    }

-- at most 0 is 0
none_counts : (n : ℕ) → eqb n 0 ≡ leb n 0
none_counts zero = refl
none_counts (suc n) = ne_eqb (suc n) 0 (λ e. omega arith) ∙ sym (lt-leb (suc n) 0 (omega arith))

correlation_by_weight : ByWeight correlation correlation_finalize 0
correlation_by_weight =
    record {
      weight = pearson_weight;
      value = pearson_finalize;
      counts = pairs-count pearson_weight pearson_empty pearson_new pearson_combine zero_is pearson_one pearson_combine_count;
      judges = λ n h s e. ap (λ b. cond b Missing (Present (pearson_finalize s))) (at_zero s.weight n h e ∙ none_counts n);
    }

-- ---- the statement
figure_in : (M : Moment (Float × Float)) (final : M.State → Figure) (few : ℕ) → ByWeight M final few → (t : Given Pairs)
    → given_refusal Pairs t ≡ 0 → (p : Plan) (min_periods widest : ℕ) → Planned (places_of Pairs t) widest p → (l : Lent) (k : ℕ) → k < rows p
    → answers_in l.outputs.answers k ≡ answers_at (figures_by M (final ∷ []) (series_of Pairs t) min_periods p) k
    → PairFigureIn t p min_periods few k l
figure_in M final few by t g p min_periods widest plan l k h stands =
    first_answer _ [] stands (figure-row Pairs M final few by t p min_periods widest plan (few_places Pairs t g) k h)

where_pairs : (a : Statistic) → IsSetting a → (t : Given (kind_of a)) (p : Plan) (min_periods : ℕ) (l : Lent)
    → AcceptedCall (query p min_periods a) t l
    → (k : ℕ) → k < rows p → WherePairs a t p min_periods k l
where_pairs (Variance ddof) set t p min_periods l c k h = tt
where_pairs (Skewness bias) set t p min_periods l c k h = tt
where_pairs (Kurtosis fisher bias) set t p min_periods l c k h = tt
where_pairs (Covariance ddof) byte t p min_periods l c k h =
    let a = known (query p min_periods (Covariance ddof)) t l c in
    figure_in covariance (λ s. cov_finalize s ddof) ddof (cov_by_weight ddof byte) t a.given_is p min_periods a.widest a.plan l k h
    (a.answers k h)
where_pairs Correlation set t p min_periods l c k h =
    let a = known (query p min_periods Correlation) t l c in
    figure_in correlation correlation_finalize 0 correlation_by_weight t a.given_is p min_periods a.widest a.plan l k h
    (a.answers k h)

pub pair_statement : PairStatement
pair_statement =
    record {
      two = λ q pairs. alike_same q;
      one = λ q pairs t l set c k h.
          record {
            account = (known q t l c).figures k h;
            figure = where_pairs q.statistic set t q.plan q.min_periods l c k h;
          };
    }
