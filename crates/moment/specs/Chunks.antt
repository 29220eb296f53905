-- Document 01, "Whole arrays (000)": "valid readings in chunks of 128, each made a state by `new` and combined in order", over
-- any state and any kind of entry. Assumes nothing.
use Rattle.std.specs.Prelude.{ℕ, zero, suc, ◌+◌, ◌/◌, List, [], ◌∷◌, length, take, drop}
use mathlib.Core.List.{foldl}

-- the first k chunks of 128
unfoldable pub chunks : {A : Type 0} → ℕ → List A → List (List A)
chunks zero xs = []
chunks (suc k) xs = take 128 xs ∷ chunks k (drop 128 xs)

-- the list in chunks of 128, the last of which may be shorter
unfoldable pub chunks_of : {A : Type 0} → List A → List (List A)
chunks_of xs = chunks ((length xs + 127) / 128) xs

-- each chunk made a state and combined in order
abbrev pub fold_chunks : {A S : Type 0} → (List A → S) → (S → S → S) → S → List (List A) → S
fold_chunks new combine = foldl (λ s chunk. combine s (new chunk))

-- the state of a whole list
unfoldable pub in_chunks : {A S : Type 0} → (List A → S) → (S → S → S) → S → List A → S
in_chunks new combine empty xs = fold_chunks new combine empty (chunks_of xs)
