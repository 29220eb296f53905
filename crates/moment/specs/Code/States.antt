-- What the five states have in common: how the code makes one of entries, and where an empty one stands aside. Assumes nothing.
use Rattle.std.specs.Prelude.{◌≡◌, ℕ, Bool, cond, not, ◌&&◌, List, [], length, ◌==◌, Float}
use Rattle.std.specs.Float.Ieee.{eq}
use mathlib.Core.List.{foldl}
use Rattle.float.specs.Operators.{zero64, of_nat64}

-- how many entries there are, and their sum
pub record Totalled {E : Type 0} (none : E) (plus : E → E → E) (xs : List E) (count : ℕ) (sum : E) : Type 0 where
  pub counted : count ≡ length xs
  pub summed : sum ≡ foldl plus none xs

-- the mean of entries, from how they are added up and how a sum is made a mean
abbrev pub mean_by : {E : Type 0} → E → (E → E → E) → (E → Float → E) → List E → E
mean_by none plus mean xs = mean (foldl plus none xs) (of_nat64 (length xs))

-- `new`, from what a state of some entries is about a mean
abbrev pub new_by : {E S : Type 0} → (Float → E → List E → S) → E → (List E → E) → List E → S
new_by about none mean xs = cond (length xs == 0) (about zero64 none []) (about (of_nat64 (length xs)) (mean xs) xs)

-- two states combined: the other one stays out where it has no weight, and where an empty state isn't merged into, that gives way
abbrev pub combined : {S : Type 0} → Bool → (S → Float) → (S → S → S) → S → S → S
combined merges_empty weight merge s o =
    cond (eq (weight o) zero64) s (cond (not merges_empty && eq (weight s) zero64) o (merge s o))
