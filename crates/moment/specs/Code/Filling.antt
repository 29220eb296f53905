-- A chunk that is filled from places (`chunk_as_float` and `chunk_as_float_binary`). Assumes nothing.
use Rattle.std.specs.Prelude.{◌≡◌, ℕ, ◌<◌, ◌≤◌, Bool, List, length, take, drop}
use Rattle.trace.specs.Trace.{valid_from}

-- A chunk filled from place i on: its first n are the next 128 valid entries, or all that are left, and the rest of them start
-- at place j.
pub record Filled {A : Type 0} (valid : ℕ → Bool) (entries : List A) (i j n : ℕ) (chunk : List A) : Type 0 where
  pub room : length chunk ≡ 128
  pub within : n ≤ 128
  pub taken : take n chunk ≡ take 128 (valid_from valid i (drop i entries))
  pub remains : valid_from valid j (drop j entries) ≡ drop 128 (valid_from valid i (drop i entries))
  pub further : i < length entries → i < j
