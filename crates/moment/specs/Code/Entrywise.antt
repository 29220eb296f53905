-- The five states entry by entry, and what the code's generic functions ask of each. Proofs stand here, and not in proofs/, since an
-- `impl` proves its trait's laws by what its own crate's specs/ hold alone. Assumes nothing.
use Rattle.std.specs.Prelude.{◌≡◌, true, false, cond, List, [], ◌∷◌, ◌++◌, length, ◌==◌, Float, refl}
use Rattle.std.proofs.Common.{ap}
use mathlib.Core.List.{foldl}
use Rattle.float.specs.Operators.{◌⊕◌, ◌⊘◌, zero64, of_nat64}
use Rattle.moment.specs.declared.var_state.VarState.{VarState}
use Rattle.moment.specs.declared.cov_state.CovState.{CovState}
use Rattle.moment.specs.declared.pearson_state.PearsonState.{PearsonState}
use Rattle.moment.specs.declared.skew_state.SkewState.{SkewState}
use Rattle.moment.specs.declared.kurtosis_state.KurtosisState.{KurtosisState}
use Rattle.moment.specs.Sums.{sum_of, first_of, second_of, square, cube, fourth, deviation_product}
use Rattle.moment.specs.Var.{var_about, var_new, var_merge, var_combine}
use Rattle.moment.specs.Cov.{pair_mean, cov_about, cov_new, cov_merge, cov_combine}
use Rattle.moment.specs.Pearson.{square_x, square_y, pearson_about, pearson_new, pearson_merge, pearson_combine}
use Rattle.moment.specs.Skew.{skew_about, skew_new, skew_merge, skew_combine}
use Rattle.moment.specs.Kurtosis.{kurtosis_about, kurtosis_new, kurtosis_merge, kurtosis_combine}
use Rattle.moment.specs.Code.Entries.{pair_sum, pair_means}
use Rattle.moment.specs.Code.States.{mean_by, new_by, combined}

-- ---- one entry more about the same mean
abbrev pub var_with : VarState → Float → VarState
var_with s x = record s { dp = s.dp ⊕ square s.mean x }

abbrev pub skew_with : SkewState → Float → SkewState
skew_with s x = record s { m2 = s.m2 ⊕ square s.mean x; m3 = s.m3 ⊕ cube s.mean x }

abbrev pub kurtosis_with : KurtosisState → Float → KurtosisState
kurtosis_with s x = record s { m2 = s.m2 ⊕ square s.mean x; m3 = s.m3 ⊕ cube s.mean x; m4 = s.m4 ⊕ fourth s.mean x }

abbrev pub cov_with : CovState → Float × Float → CovState
cov_with s p = record s { dp_xy = s.dp_xy ⊕ deviation_product s.mean_x s.mean_y p }

abbrev pub pearson_with : PearsonState → Float × Float → PearsonState
pearson_with s p =
    record s {
      dp_xx = s.dp_xx ⊕ square_x s.mean_x p;
      dp_xy = s.dp_xy ⊕ deviation_product s.mean_x s.mean_y p;
      dp_yy = s.dp_yy ⊕ square_y s.mean_y p;
    }

-- ---- which is the state of one entry more, as each of its sums is
fold_more : {A B : Type 0} (f : B → A → B) (t : B) (xs : List A) (x : A) → foldl f t (xs ++ x ∷ []) ≡ f (foldl f t xs) x
fold_more f t [] x = refl
fold_more f t (y ∷ xs) x = fold_more f (f t y) xs x

sum_more : {A : Type 0} (f : A → Float) (xs : List A) (x : A) → sum_of f (xs ++ x ∷ []) ≡ sum_of f xs ⊕ f x
sum_more f xs x = fold_more (λ t x. t ⊕ f x) zero64 xs x

pub var_about_more : (w mean : Float) (xs : List Float) (x : Float) → var_about w mean (xs ++ x ∷ []) ≡ var_with (var_about w mean xs) x
var_about_more w mean xs x = rw (sum_more (square mean) xs x)

pub skew_about_more : (w mean : Float) (xs : List Float) (x : Float) → skew_about w mean (xs ++ x ∷ []) ≡ skew_with (skew_about w mean xs) x
skew_about_more w mean xs x = rw (sum_more (square mean) xs x, sum_more (cube mean) xs x)

pub kurtosis_about_more : (w mean : Float) (xs : List Float) (x : Float)
    → kurtosis_about w mean (xs ++ x ∷ []) ≡ kurtosis_with (kurtosis_about w mean xs) x
kurtosis_about_more w mean xs x = rw (sum_more (square mean) xs x, sum_more (cube mean) xs x, sum_more (fourth mean) xs x)

pub cov_about_more : (w : Float) (mean : Float × Float) (ps : List (Float × Float)) (p : Float × Float)
    → cov_about w mean.0 mean.1 (ps ++ p ∷ []) ≡ cov_with (cov_about w mean.0 mean.1 ps) p
cov_about_more w mean ps p = rw (sum_more (deviation_product mean.0 mean.1) ps p)

pub pearson_about_more : (w : Float) (mean : Float × Float) (ps : List (Float × Float)) (p : Float × Float)
    → pearson_about w mean.0 mean.1 (ps ++ p ∷ []) ≡ pearson_with (pearson_about w mean.0 mean.1 ps) p
pearson_about_more w mean ps p =
    rw (sum_more (square_x mean.0) ps p, sum_more (deviation_product mean.0 mean.1) ps p, sum_more (square_y mean.1) ps p)

-- ---- `new` is that about the mean, and of pairs the members are added up side by side
pub var_new_is : (xs : List Float) → var_new xs ≡ new_by var_about zero64 (mean_by zero64 ◌⊕◌ ◌⊘◌) xs
unfolding var_new
var_new_is xs = refl

pub skew_new_is : (xs : List Float) → skew_new xs ≡ new_by skew_about zero64 (mean_by zero64 ◌⊕◌ ◌⊘◌) xs
unfolding skew_new
skew_new_is xs = refl

pub kurtosis_new_is : (xs : List Float) → kurtosis_new xs ≡ new_by kurtosis_about zero64 (mean_by zero64 ◌⊕◌ ◌⊘◌) xs
unfolding kurtosis_new
kurtosis_new_is xs = refl

summed : (a b : Float) (ps : List (Float × Float))
    → (foldl (λ t p. t ⊕ first_of p) a ps, foldl (λ t p. t ⊕ second_of p) b ps) ≡ foldl pair_sum (a, b) ps
summed a b [] = refl
summed a b (p ∷ ps) = summed (a ⊕ p.0) (b ⊕ p.1) ps

abbrev means : List (Float × Float) → Float × Float
means = mean_by (zero64, zero64) pair_sum pair_means

means_are : (ps : List (Float × Float)) → (pair_mean first_of ps, pair_mean second_of ps) ≡ means ps
means_are ps = ap (λ s. pair_means s (of_nat64 (length ps))) (summed zero64 zero64 ps)

module _ {S : Type 0} (about : Float → Float × Float → List (Float × Float) → S) where
  by_means : (ps : List (Float × Float))
      → cond (length ps == 0) (about zero64 (zero64, zero64) [])
      (about (of_nat64 (length ps)) (pair_mean first_of ps, pair_mean second_of ps) ps)
      ≡ new_by about (zero64, zero64) means ps
  by_means ps = ap (λ m. cond (length ps == 0) (about zero64 (zero64, zero64) []) (about (of_nat64 (length ps)) m ps)) (means_are ps)

pub cov_new_is : (ps : List (Float × Float)) → cov_new ps ≡ new_by (λ w mean. cov_about w mean.0 mean.1) (zero64, zero64) means ps
unfolding cov_new
cov_new_is ps = by_means (λ w mean. cov_about w mean.0 mean.1) ps

pub pearson_new_is : (ps : List (Float × Float))
    → pearson_new ps ≡ new_by (λ w mean. pearson_about w mean.0 mean.1) (zero64, zero64) means ps
unfolding pearson_new
pearson_new_is ps = by_means (λ w mean. pearson_about w mean.0 mean.1) ps

-- ---- `combine`, in which variance alone merges into an empty state
pub var_combine_is : (s o : VarState) → var_combine s o ≡ combined true (λ s. s.weight) var_merge s o
unfolding var_combine
var_combine_is s o = refl

pub skew_combine_is : (s o : SkewState) → skew_combine s o ≡ combined false (λ s. s.weight) skew_merge s o
unfolding skew_combine
skew_combine_is s o = refl

pub kurtosis_combine_is : (s o : KurtosisState) → kurtosis_combine s o ≡ combined false (λ s. s.weight) kurtosis_merge s o
unfolding kurtosis_combine
kurtosis_combine_is s o = refl

pub cov_combine_is : (s o : CovState) → cov_combine s o ≡ combined false (λ s. s.weight) cov_merge s o
unfolding cov_combine
cov_combine_is s o = refl

pub pearson_combine_is : (s o : PearsonState) → pearson_combine s o ≡ combined false (λ s. s.weight) pearson_merge s o
unfolding pearson_combine
pearson_combine_is s o = refl
