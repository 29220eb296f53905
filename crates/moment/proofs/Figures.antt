-- Of a state whose weight is the float of a count: where each figure is missing, in terms of the count; and a variance is
-- missing, NaN or at least zero. Assumes nothing.
use Rattle.std.proofs.Common.{◌≡◌, ℕ, ◌^◌, ◌<◌, ◌≤◌, Bool, true, false, cond, T, eqb, leb, refl, ap, ◌∙◌, arith}
use lib.Ieee.{Float, le, of_bits, of_int}
use Rattle.float.specs.Operators.{◌⊖◌, ◌⊗◌, ◌⊘◌, two64, three64, of_nat64}
use Rattle.float.proofs.Signs.{nan_or_at_least_zero}
use Rattle.moment.specs.declared.var_state.VarState.{VarState}
use Rattle.moment.specs.declared.cov_state.CovState.{CovState}
use Rattle.moment.specs.declared.skew_state.SkewState.{SkewState}
use Rattle.moment.specs.declared.kurtosis_state.KurtosisState.{KurtosisState}
use Rattle.moment.specs.declared.Figure.TheVariants.{Missing, Present}
use Rattle.moment.specs.Var.{not_negative, var_finalize, not_below_zero}
use Rattle.moment.specs.Cov.{cov_finalize}
use Rattle.moment.specs.Skew.{skew_biased, skew_correction, skew_finalize}
use Rattle.moment.specs.Kurtosis.{kurtosis_biased, kurtosis_unbiased, less_three, kurtosis_finalize}
use Rattle.moment.proofs.Weights.{at_zero, at_most_ddof}

-- ---- missing exactly where the count says so
two_is : two64 ≡ of_nat64 2
unfolding of_bits of_int
two_is = refl

three_is : three64 ≡ of_nat64 3
unfolding of_bits of_int
three_is = refl

module _ (n : ℕ) (h : n ≤ 2 ^ 53) where
  at_most : (w m : Float) (k : ℕ) → k < 256 → m ≡ of_nat64 k → w ≡ of_nat64 n → le w m ≡ leb n k
  at_most w m k l f e = ap (λ (m : Float). le w m) f ∙ at_most_ddof w n k h l e

  -- variance, and covariance, where the count is at most ddof
  pub var-missing : (s : VarState) (ddof : ℕ) → ddof < 256 → s.weight ≡ of_nat64 n
      → var_finalize s ddof ≡ cond (leb n ddof) Missing (Present (not_negative (s.dp ⊘ (s.weight ⊖ of_nat64 ddof))))
  unfolding var_finalize
  var-missing s ddof k e = rw (at_most_ddof s.weight n ddof h k e)

  pub cov-missing : (s : CovState) (ddof : ℕ) → ddof < 256 → s.weight ≡ of_nat64 n
      → cov_finalize s ddof ≡ cond (leb n ddof) Missing (Present (s.dp_xy ⊘ (s.weight ⊖ of_nat64 ddof)))
  unfolding cov_finalize
  cov-missing s ddof k e = rw (at_most_ddof s.weight n ddof h k e)

  -- biased skewness where the count is 0, unbiased where it is at most 2
  pub skew-biased-missing : (s : SkewState) → s.weight ≡ of_nat64 n → skew_finalize s true ≡ cond (eqb n 0) Missing (Present (skew_biased s))
  unfolding skew_finalize
  skew-biased-missing s e = rw (at_zero s.weight n h e)

  pub skew-unbiased-missing : (s : SkewState) → s.weight ≡ of_nat64 n
      → skew_finalize s false ≡ cond (leb n 2) Missing (Present (skew_correction s.weight ⊗ skew_biased s))
  unfolding skew_finalize
  skew-unbiased-missing s e = rw (at_most s.weight two64 2 (omega arith) two_is e)

  -- biased kurtosis where the count is 0, unbiased where it is at most 3
  pub kurtosis-biased-missing : (s : KurtosisState) (fisher : Bool) → s.weight ≡ of_nat64 n
      → kurtosis_finalize s fisher true ≡ cond (eqb n 0) Missing (Present (less_three (kurtosis_biased s) fisher))
  unfolding kurtosis_finalize
  kurtosis-biased-missing s fisher e = rw (at_zero s.weight n h e)

  pub kurtosis-unbiased-missing : (s : KurtosisState) (fisher : Bool) → s.weight ≡ of_nat64 n
      → kurtosis_finalize s fisher false
      ≡ cond (leb n 3) Missing (Present (less_three (kurtosis_unbiased s.weight (kurtosis_biased s)) fisher))
  unfolding kurtosis_finalize
  kurtosis-unbiased-missing s fisher e = rw (at_most s.weight three64 3 (omega arith) three_is e)

-- ---- a variance
-- of any state, whatever its floats
pub var_not_below_zero : (s : VarState) (ddof : ℕ) → T (not_below_zero (var_finalize s ddof))
unfolding var_finalize not_below_zero
var_not_below_zero s ddof = by (le s.weight (of_nat64 ddof)) (s.dp ⊘ (s.weight ⊖ of_nat64 ddof))
  where
    by : (t : Bool) (v : Float) → T (not_below_zero (cond t Missing (Present (not_negative v))))
    by true v = tt
    by false v = nan_or_at_least_zero v
