-- Document 01, "A plan call": the places of a series and what is inserted there, over any kind of entry. Assumes nothing.
use Rattle.std.specs.Prelude.{ℕ, zero, suc, ◌-◌, Bool, cond, List, [], ◌∷◌, length}

-- What the account "is given" of places: whether a map is lent, and of each whether it is valid, and whether it is valid but not finite
pub record Places : Type 0 where
  pub mapped : Bool
  pub valid : ℕ → Bool
  pub nonfinite : ℕ → Bool

-- places with what is inserted at each
pub record Series (A : Type 0) : Type 0 where
  pub places : Places
  pub entry : ℕ → A

-- the entries of those of the k places from a on that are chosen, in rising order
unfoldable pub entries_from : {A : Type 0} → (ℕ → Bool) → (ℕ → A) → ℕ → ℕ → List A
entries_from chosen entry zero a = []
entries_from chosen entry (suc k) a = cond (chosen a) (entry a ∷ entries_from chosen entry k (suc a)) (entries_from chosen entry k (suc a))

-- "places start up to but not including end"
abbrev pub entries : {A : Type 0} → (ℕ → Bool) → (ℕ → A) → ℕ → ℕ → List A
entries chosen entry a b = entries_from chosen entry (b - a) a

-- how many places there are chosen
abbrev pub chosen_count : (ℕ → Bool) → ℕ → ℕ → ℕ
chosen_count chosen a b = length (entries chosen (λ i. i) a b)

-- "the row's valid count is the number of valid places there"
abbrev pub valid_count : Places → ℕ → ℕ → ℕ
valid_count t a b = chosen_count t.valid a b

-- how many valid places there hold what is not finite
abbrev pub nonfinite_count : Places → ℕ → ℕ → ℕ
nonfinite_count t a b = chosen_count t.nonfinite a b
