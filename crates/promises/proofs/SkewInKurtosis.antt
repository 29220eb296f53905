-- An insert and a combine of kurtosis states do to weight, mean, m2 and m3 what those of skewness states do, so by the law of what two
-- moments keep alike every history does. Assumes nothing.
use Prim.Native.Nat.{ℕ}
use mathlib.Core.Path.{◌≡◌, refl}
use mathlib.Core.List.{List, [], ◌∷◌, map}
use lib.Ieee.{Float, nan, of_bits, of_int, add, sub, mul, div, eq}
use Rattle.float.specs.Operators.{of_nat64}
use Rattle.moment.specs.Skew.{skew_clear, skew_combine}
use Rattle.moment.specs.Kurtosis.{kurtosis_clear, kurtosis_combine}
use Rattle.moment.specs.Arrays.{skew_list, kurtosis_list}
use Rattle.window.specs.Histories.{History, empty, inserted, combined, after}
use Rattle.window.proofs.Related.{itself, histories}
use Rattle.rolling.specs.Moments.{skewness, kurtosis}
use Rattle.rolling.proofs.SkewInKurtosis.{keeps_skewness}
use Rattle.promises.specs.SkewInKurtosis.{SameAfter, SkewInKurtosis}

pub skew_in_kurtosis : SkewInKurtosis
skew_in_kurtosis = record { members = λ h. histories keeps_skewness (itself h) }

-- ---- computed
-- whole numbers inserted in turn
abbrev in_turn : History Float → List ℕ → History Float
in_turn h [] = h
in_turn h (x ∷ xs) = in_turn (inserted h (of_nat64 x)) xs

-- an empty state combined with that of 2, 4, and the state of 9, 9 with an empty one; these two combined; then 1 inserted
abbrev shapes : History Float
shapes = in_turn (combined (combined empty (in_turn empty (2 ∷ 4 ∷ []))) (combined (in_turn empty (9 ∷ 9 ∷ [])) empty)) (1 ∷ [])

-- and a NaN, after which the weight alone is a number
abbrev with_nan : History Float
with_nan = inserted shapes nan

-- the members of both states, worked by another program
pub kurtosis_after : kurtosis_list (after kurtosis shapes) ≡ map of_nat64 (5 ∷ 5 ∷ 58 ∷ 36 ∷ 850 ∷ [])
unfolding after kurtosis_clear kurtosis_combine of_bits of_int add sub mul div eq
kurtosis_after = refl

pub skewness_after : skew_list (after skewness shapes) ≡ map of_nat64 (5 ∷ 5 ∷ 58 ∷ 36 ∷ [])
unfolding after skew_clear skew_combine of_bits of_int add sub mul div eq
skewness_after = refl

pub kurtosis_after_nan : kurtosis_list (after kurtosis with_nan) ≡ of_nat64 6 ∷ nan ∷ nan ∷ nan ∷ nan ∷ []
unfolding after kurtosis_clear kurtosis_combine of_bits of_int add sub mul div eq
kurtosis_after_nan = refl

pub skewness_after_nan : skew_list (after skewness with_nan) ≡ of_nat64 6 ∷ nan ∷ nan ∷ nan ∷ []
unfolding after skew_clear skew_combine of_bits of_int add sub mul div eq
skewness_after_nan = refl

-- what the theorem says, computed: of the empty state and of 2, 4 ..
pub same_after : SameAfter empty × SameAfter (in_turn empty (2 ∷ 4 ∷ []))
unfolding after skew_clear kurtosis_clear of_bits of_int add sub mul div eq
same_after = (refl, refl)

-- .. of both histories, and of a combine of the one with the other
pub same_after_shapes : SameAfter shapes × SameAfter with_nan × SameAfter (combined shapes with_nan)
unfolding after skew_clear skew_combine kurtosis_clear kurtosis_combine of_bits of_int add sub mul div eq
same_after_shapes = (refl, refl, refl)
