-- Demand 3: the law of two calls' rows, and the law of where a figure is missing, for a variance, whose quotient below zero is zero.
-- Assumes nothing.
use Prim.Native.Nat.{ℕ, ◌<◌}
use mathlib.Core.Path.{◌≡◌, refl}
use mathlib.Core.Bool.{true}
use mathlib.Core.Logic.{◌⊎◌, inl}
use lib.Ieee.{Float, is_nan, le}
use lib.Ieee.Bits.{is_true}
use Rattle.float.specs.Operators.{zero64, ◌⊖◌, ◌⊘◌, of_nat64}
use Rattle.float.proofs.Signs.{nan_or_at_least_zero}
use Rattle.moment.specs.Var.{not_negative, var_finalize}
use Rattle.moment.proofs.Weights.{var_parts_count}
use Rattle.moment.proofs.Figures.{var-missing}
use Rattle.plan.specs.Plan.{Plan, rows}
use Rattle.window.specs.Given.{Readings, Given}
use Rattle.window.specs.Outputs.{Lent}
use Rattle.rolling.specs.Moments.{Statistic, Variance, Skewness, Kurtosis, Covariance, Correlation, variance, kind_of}
use Rattle.rolling.specs.Calls.{query}
use Rattle.rolling.proofs.Calls.{few_places}
use Rattle.promises.specs.Calls.{AcceptedCall}
use Rattle.promises.specs.DemandThree.{IsSetting, WhereVariance, DemandThree}
use Rattle.promises.proofs.DemandOne.{either}
use Rattle.promises.proofs.Accepted.{known}
use Rattle.promises.proofs.TwoCalls.{alike_same}
use Rattle.promises.proofs.FigureRows.{ByWeight, figure-row, present-row}

-- a variance is missing where at most ddof count
by_weight : (ddof : ℕ) → ddof < 256 → ByWeight variance (λ s. var_finalize s ddof) ddof
by_weight ddof byte =
    record {
      weight = λ s. s.weight;
      value = λ s. not_negative (s.dp ⊘ (s.weight ⊖ of_nat64 ddof));
      counts = var_parts_count;
      judges = λ n h s e. var-missing n h s ddof byte e;
    }

-- "NaN or at least zero"
abbrev NotBelow : Float → Type 0
NotBelow x = (is_nan x ≡ true) ⊎ (le zero64 x ≡ true)

not_negative_lem : (x : Float) → NotBelow (not_negative x)
not_negative_lem x = either _ _ (λ e. e) (λ e. e) (is_true _ (nan_or_at_least_zero x))

where_variance : (a : Statistic) → IsSetting a → (t : Given (kind_of a)) (p : Plan) (min_periods : ℕ) (l : Lent)
    → AcceptedCall (query p min_periods a) t l
    → (k : ℕ) → k < rows p → WhereVariance a t p min_periods k l
unfolding is_nan by_weight
where_variance (Variance ddof) byte t p min_periods l c k h =
    let a = known (query p min_periods (Variance ddof)) t l c in
    let small = few_places Readings t a.given_is in
    let by = by_weight ddof byte in
    record {
      answer = _;
      others = _;
      stands = a.answers k h;
      row = record {
        figure = figure-row Readings variance (λ s. var_finalize s ddof) ddof by t p min_periods a.widest a.plan small k h;
        not-below = present-row Readings variance (λ s. var_finalize s ddof) ddof by t p min_periods a.widest a.plan small k h
            NotBelow (inl refl) (λ s. not_negative_lem _);
      };
    }
where_variance (Skewness bias) set t p min_periods l c k h = tt
where_variance (Kurtosis fisher bias) set t p min_periods l c k h = tt
where_variance (Covariance ddof) set t p min_periods l c k h = tt
where_variance Correlation set t p min_periods l c k h = tt

pub demand_three : DemandThree
demand_three =
    record {
      two = λ q one. alike_same q;
      one = λ q one t l set c k h.
          record {
            account = (known q t l c).figures k h;
            variance = where_variance q.statistic set t q.plan q.min_periods l c k h;
          };
    }
