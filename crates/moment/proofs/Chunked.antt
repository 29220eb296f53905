-- A state that is combined chunk by chunk: the state so far, with the chunks of what is left combined, is the whole. Over any
-- state and entry, from what a state is made and combined by. Assumes nothing.
use Rattle.std.proofs.Common.{◌≡◌, ℕ, suc, ◌+◌, ◌-◌, ◌/◌, ◌<◌, ◌≤◌, Bool, List, [], ◌∷◌, length, take, drop, sym, ap, ◌∙◌, arith}
use Rattle.std.proofs.Common.{length-drop}
use lib.Ieee.{Float, eq, of_bits}
use Rattle.float.specs.Operators.{zero64}
use Rattle.trace.specs.Trace.{valid_from}
use Rattle.moment.specs.Code.States.{combined}
use Rattle.moment.specs.Chunks.{chunks, chunks_of, fold_chunks, in_chunks}
use Rattle.moment.specs.Code.Filling.{Filled}
use Rattle.moment.proofs.Folds.{rest, from_end}

-- the number of chunks falls by one with each 128 that is taken
fewer : (n : ℕ) → 0 < n → (n + 127) / 128 ≡ suc ((n - 128 + 127) / 128)
fewer n h = omega arith

pub chunks_cons : {A : Type 0} (xs : List A) → 0 < length xs → chunks_of xs ≡ take 128 xs ∷ chunks_of (drop 128 xs)
unfolding chunks chunks_of
chunks_cons xs h = rw (fewer (length xs) h, length-drop)

-- the state s so far, with the chunks of the valid ones from place i on combined, is the whole, from an empty state on
pub record Reached {A S : Type 0} (new : List A → S) (combine : S → S → S) (empty : S) (valid : ℕ → Bool) (entries : List A)
    (s : S) (i : ℕ) : Type 0 where
  pub with_rest : fold_chunks new combine s (chunks_of (rest valid entries i)) ≡ in_chunks new combine empty (rest valid entries 0)

-- where a chunk of nothing adds nothing
module _ {A S : Type 0} (new : List A → S) (combine : S → S → S) (none : (s : S) → combine s (new []) ≡ s) where
  next : (s : S) (xs : List A)
      → fold_chunks new combine (combine s (new (take 128 xs))) (chunks_of (drop 128 xs)) ≡ fold_chunks new combine s (chunks_of xs)
  unfolding chunks chunks_of
  next s [] = none s
  next s (x ∷ xs) = sym (ap (fold_chunks new combine s) (chunks_cons (x ∷ xs) (omega arith)))

  -- a filled chunk is made a state t and combined
  pub reached_next : {empty s t u : S} {valid : ℕ → Bool} {entries chunk : List A} {i j n : ℕ} → Filled valid entries i j n chunk
      → Reached new combine empty valid entries s i → t ≡ new (take n chunk) → u ≡ combine s t
      → Reached new combine empty valid entries u j
  reached_next {s = s} {valid = valid} {entries} {i = i} f r e g =
      record { with_rest = rw (g, e, f.taken, f.remains) (next s (rest valid entries i) ∙ r.with_rest) }

-- which it does where the state of nothing has no weight
pub none_adds : {A S : Type 0} (empty : S) (new : List A → S) (combine : S → S → S) (merges : Bool) (weight : S → Float) (merge : S → S → S)
    → new [] ≡ empty → weight empty ≡ zero64 → ((s o : S) → combine s o ≡ combined merges weight merge s o) → (s : S)
    → combine s (new []) ≡ s
unfolding eq of_bits
none_adds empty new combine merges weight merge e w is s = is s (new []) ∙ rw (e, w)

module _ {A S : Type 0} {new : List A → S} {combine : S → S → S} {empty s : S} {valid : ℕ → Bool} {entries : List A} where
  pub reached_start : s ≡ empty → Reached new combine empty valid entries s 0
  unfolding in_chunks
  reached_start e = record { with_rest = rw e }

  -- no place is left
  pub reached_end : {i : ℕ} → Reached new combine empty valid entries s i → length entries ≤ i
      → s ≡ in_chunks new combine empty (valid_from valid 0 entries)
  unfolding chunks chunks_of
  reached_end {i} r h = rw (from_end valid entries i h) at r.with_rest
