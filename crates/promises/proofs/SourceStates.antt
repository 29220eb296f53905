-- Our states' operations are the source's: the stores of a method, made one after another, leave what our definition names at once; a
-- loop that keeps several sums keeps each as if it were alone. Assumes nothing.
use Prim.Native.Nat.{ℕ}
use mathlib.Core.Path.{◌≡◌, refl, ap, ◌∙◌}
use mathlib.Core.Bool.{Bool, true, false, cond}
use mathlib.Core.List.{List, [], ◌∷◌, foldl, foldl-map, map, zip, zip_with}
use lib.Dec.{eqb-suc-zero}
use lib.ListN.{length, length-map}
use lib.Ieee.{Float}
use Rattle.float.specs.Operators.{◌⊕◌, ◌⊗◌, ◌⊘◌, zero64, one64, of_nat64}
use Rattle.moment.specs.declared.var_state.VarState.{VarState}
use Rattle.moment.specs.declared.cov_state.CovState.{CovState}
use Rattle.moment.specs.declared.pearson_state.PearsonState.{PearsonState}
use Rattle.moment.specs.declared.skew_state.SkewState.{SkewState}
use Rattle.moment.specs.declared.kurtosis_state.KurtosisState.{KurtosisState}
use Rattle.moment.specs.Sums.{sum_of, first_of, second_of, square, cube, fourth, deviation_product}
use Rattle.moment.specs.Var.{mean_of, var_new, var_clear, var_combine}
use Rattle.moment.specs.Cov.{cov_empty, cov_new, cov_combine}
use Rattle.moment.specs.Pearson.{square_x, square_y, pearson_empty, pearson_about, pearson_new, pearson_combine}
use Rattle.moment.specs.Skew.{skew_new, skew_clear, skew_combine}
use Rattle.moment.specs.Kurtosis.{kurtosis_new, kurtosis_clear, kurtosis_combine, kurtosis_biased, kurtosis_finalize}
use Rattle.promises.specs.SourceStates.{is_empty, alg_add, alg_sum, add_products, add_cubes, add_fourths, squared_from, product_from}
use Rattle.promises.specs.SourceStates.{VarState-new, VarState-clear_zero_weight_nan}
use Rattle.promises.specs.SourceStates.{VarState-combine}
use Rattle.promises.specs.SourceStates.{CovState-new, CovState-combine}
use Rattle.promises.specs.SourceStates.{PearsonState-new, PearsonState-combine}
use Rattle.promises.specs.SourceStates.{SkewState-from_iter, SkewState-clear_zero_weight_nan}
use Rattle.promises.specs.SourceStates.{SkewState-combine}
use Rattle.promises.specs.SourceStates.{KurtosisState-from_iter, KurtosisState-clear_zero_weight_nan}
use Rattle.promises.specs.SourceStates.{KurtosisState-combine, KurtosisState-finalize}

-- ---- loops
-- one of the sums that a loop keeps, where each turn adds to it what it would add if it were alone
kept_sum : {A S : Type 0} (member : S → Float) (turn : S → A → S) (f : A → Float) → ((s : S) (x : A) → member (turn s x) ≡ member s ⊕ f x)
    → (s : S) (xs : List A) → member (foldl turn s xs) ≡ foldl (λ t x. t ⊕ f x) (member s) xs
kept_sum member turn f each s [] = refl
kept_sum member turn f each s (x ∷ xs) =
    kept_sum member turn f each (turn s x) xs ∙ ap (λ (t : Float). foldl (λ t x. t ⊕ f x) t xs) (each s x)

-- a sum of what f gives, taken of the list of them
sum-map : {A : Type 0} (f : A → Float) (xs : List A) → alg_sum (map f xs) ≡ sum_of f xs
sum-map f xs = foldl-map f alg_add xs zero64

-- pairs, taken apart and put together
zip_members : (ps : List (Float × Float)) → zip (map first_of ps) (map second_of ps) ≡ ps
unfolding zip zip_with
zip_members [] = refl
zip_members (p ∷ ps) = ap (λ (l : List (Float × Float)). p ∷ l) (zip_members ps)

-- a state that both make of how many pairs there are, the sums of their members, and the pairs
module _ {S : Type 0} (of : ℕ → Float → Float → List (Float × Float) → S) (empty : S) where
  alike : (n n' : ℕ) (x x' y y' : Float) (ps ps' : List (Float × Float)) → n ≡ n' → x ≡ x' → y ≡ y' → ps ≡ ps'
      → of n x y ps ≡ of n' x' y' ps'
  alike n n' x x' y y' ps ps' e f g h = cc

  pair-new : (source : List Float → List Float → S) (new : List (Float × Float) → S)
      → ((x y : List Float) → source x y ≡ cond (is_empty x) empty (of (length x) (alg_sum x) (alg_sum y) (zip x y)))
      → empty ≡ new []
      → ((p : Float × Float) (ps : List (Float × Float)) →
      let all = p ∷ ps in of (length all) (sum_of first_of all) (sum_of second_of all) all ≡ new all)
      → (ps : List (Float × Float)) → source (map first_of ps) (map second_of ps) ≡ new ps
  pair-new source new source_is none ours [] = source_is [] [] ∙ none
  pair-new source new source_is none ours (p ∷ ps) =
      let all = p ∷ ps in
      source_is (map first_of all) (map second_of all)
      ∙ alike _ _ _ _ _ _ _ _ (length-map all first_of) (sum-map first_of all) (sum-map second_of all) (zip_members all)
      ∙ ours p ps

-- ---- `VarState`
pub var_new_lem : (x : List Float) → VarState-new x ≡ var_new x
unfolding VarState-new var_new
var_new_lem [] = refl
var_new_lem (x ∷ xs) = rw (eqb-suc-zero (length xs), sum-map (squared_from (mean_of (x ∷ xs))) (x ∷ xs))

pub var_combine_lem : ◌≡◌ {A = VarState → VarState → VarState} VarState-combine var_combine
unfolding VarState-combine VarState-clear_zero_weight_nan var_combine var_clear
var_combine_lem = refl

-- ---- `CovState`
-- a state from how many pairs there are, the sums of their members, and the pairs
cov_of : ℕ → Float → Float → List (Float × Float) → CovState
cov_of n x y ps =
    let mean_x = x ⊗ (one64 ⊘ of_nat64 n) in
    let mean_y = y ⊗ (one64 ⊘ of_nat64 n) in
    record { weight = of_nat64 n; mean_x = mean_x; mean_y = mean_y; dp_xy = sum_of (product_from mean_x mean_y) ps }

cov_source : (x y : List Float) → CovState-new x y ≡ cond (is_empty x) cov_empty (cov_of (length x) (alg_sum x) (alg_sum y) (zip x y))
unfolding CovState-new cov_of
cov_source x y = rw (sum-map (product_from (alg_sum x ⊗ (one64 ⊘ of_nat64 (length x))) (alg_sum y ⊗ (one64 ⊘ of_nat64 (length x)))) (zip x y))

cov_ours : (p : Float × Float) (ps : List (Float × Float)) →
    let all = p ∷ ps in cov_of (length all) (sum_of first_of all) (sum_of second_of all) all ≡ cov_new all
unfolding cov_new cov_of
cov_ours p ps = rw (eqb-suc-zero (length ps))

pub cov_new_lem : (ps : List (Float × Float)) → CovState-new (map first_of ps) (map second_of ps) ≡ cov_new ps
unfolding cov_new
cov_new_lem = pair-new cov_of cov_empty CovState-new cov_new cov_source refl cov_ours

pub cov_combine_lem : ◌≡◌ {A = CovState → CovState → CovState} CovState-combine cov_combine
unfolding CovState-combine cov_combine
cov_combine_lem = refl

-- ---- `PearsonState`
-- a state from how many pairs there are, the sums of their members, and the pairs
pearson_of : ℕ → Float → Float → List (Float × Float) → PearsonState
pearson_of n x y ps = pearson_about (of_nat64 n) (x ⊗ (one64 ⊘ of_nat64 n)) (y ⊗ (one64 ⊘ of_nat64 n)) ps

pearson_source : (x y : List Float) → PearsonState-new x y ≡ cond (is_empty x) pearson_empty (pearson_of (length x) (alg_sum x) (alg_sum y) (zip x y))
unfolding PearsonState-new pearson_of
pearson_source x y =
    let mean_x = alg_sum x ⊗ (one64 ⊘ of_nat64 (length x)) in
    let mean_y = alg_sum y ⊗ (one64 ⊘ of_nat64 (length x)) in
    let none : Float × Float × Float = (zero64, zero64, zero64) in
    rw (
      kept_sum (λ s. s.0) (add_products mean_x mean_y) (square_x mean_x) (λ s p. refl) none (zip x y),
      kept_sum (λ s. s.1) (add_products mean_x mean_y) (deviation_product mean_x mean_y) (λ s p. refl) none (zip x y),
      kept_sum (λ s. s.2) (add_products mean_x mean_y) (square_y mean_y) (λ s p. refl) none (zip x y),
    )

pearson_ours : (p : Float × Float) (ps : List (Float × Float)) →
    let all = p ∷ ps in pearson_of (length all) (sum_of first_of all) (sum_of second_of all) all ≡ pearson_new all
unfolding pearson_new pearson_of
pearson_ours p ps = rw (eqb-suc-zero (length ps))

pub pearson_new_lem : (ps : List (Float × Float)) → PearsonState-new (map first_of ps) (map second_of ps) ≡ pearson_new ps
unfolding pearson_new
pearson_new_lem = pair-new pearson_of pearson_empty PearsonState-new pearson_new pearson_source refl pearson_ours

pub pearson_combine_lem : ◌≡◌ {A = PearsonState → PearsonState → PearsonState} PearsonState-combine pearson_combine
unfolding PearsonState-combine pearson_combine
pearson_combine_lem = refl

-- ---- `SkewState`
pub skew_new_lem : (xs : List Float) → SkewState-from_iter xs (length xs) ≡ skew_new xs
unfolding SkewState-from_iter skew_new
skew_new_lem xs =
    let mean = mean_of xs in
    let none : Float × Float = (zero64, zero64) in
    rw (
      kept_sum (λ s. s.0) (add_cubes mean) (square mean) (λ s x. refl) none xs,
      kept_sum (λ s. s.1) (add_cubes mean) (cube mean) (λ s x. refl) none xs,
    )

pub skew_combine_lem : ◌≡◌ {A = SkewState → SkewState → SkewState} SkewState-combine skew_combine
unfolding SkewState-combine SkewState-clear_zero_weight_nan skew_combine skew_clear
skew_combine_lem = refl

-- ---- `KurtosisState`
pub kurtosis_new_lem : (xs : List Float) → KurtosisState-from_iter xs (length xs) ≡ kurtosis_new xs
unfolding KurtosisState-from_iter kurtosis_new
kurtosis_new_lem xs =
    let mean = mean_of xs in
    let none : Float × Float × Float = (zero64, zero64, zero64) in
    rw (
      kept_sum (λ s. s.0) (add_fourths mean) (square mean) (λ s x. refl) none xs,
      kept_sum (λ s. s.1) (add_fourths mean) (cube mean) (λ s x. refl) none xs,
      kept_sum (λ s. s.2) (add_fourths mean) (fourth mean) (λ s x. refl) none xs,
    )

pub kurtosis_combine_lem : ◌≡◌ {A = KurtosisState → KurtosisState → KurtosisState} KurtosisState-combine kurtosis_combine
unfolding KurtosisState-combine KurtosisState-clear_zero_weight_nan kurtosis_combine kurtosis_clear
kurtosis_combine_lem = refl

-- the source takes three off and makes a figure in each arm, ours makes the figure once
pub kurtosis_finalize_lem : (s : KurtosisState) (fisher bias : Bool) → KurtosisState-finalize s fisher bias ≡ kurtosis_finalize s fisher bias
unfolding KurtosisState-finalize kurtosis_finalize kurtosis_biased
kurtosis_finalize_lem s true bias = refl
kurtosis_finalize_lem s false bias = refl
