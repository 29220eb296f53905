-- Document 01, "A plan call, from bytes to figures": which places of a trace are valid, and the readings there. Its terms: a trace
-- is a series of n doubles, a reading one of them, a place an index; a place that is not valid is missing. Assumes nothing.
use Rattle.std.specs.Prelude.{ℕ, suc, ◌+◌, ◌/◌, ◌%◌, ◌^◌, Bool, true, cond, ◌&&◌, eqb, get_or, Float}
use mathlib.Core.List.{List, [], ◌∷◌, zip}
use Rattle.trace.specs.Slices.{Slice, entering}

-- "A trace is n doubles", with its validity map "where one is lent"
pub record Trace : Type 0 where
  pub readings : List Float
  pub mapped : Bool
  pub map : List ℕ

-- a trace of its parts
abbrev pub trace_of : List Float → Bool → List ℕ → Trace
trace_of readings has map = record { readings = readings; mapped = has; map = map }

-- the trace that a call's parameters are
abbrev pub tracing : Slice Float → Bool → Slice ℕ → Trace
tracing values has map = trace_of (entering values) has (entering map)

-- how many bytes have a bit for each of n places: "n / 8 bytes rounded up"
abbrev pub bytes_for : ℕ → ℕ
bytes_for n = (n + 7) / 8

-- "A validity map, where one is lent, has one bit a place, lowest bit first, 1 for valid .. Without a map every place is valid"
unfoldable pub valid_at : Bool → List ℕ → ℕ → Bool
valid_at has map i = cond has (eqb (get_or map (i / 8) 0 / 2 ^ (i % 8) % 2) 1) true

-- "A pair is taken where both places are valid."
unfoldable pub both_at : Bool → List ℕ → Bool → List ℕ → ℕ → Bool
both_at has map has' map' i = valid_at has map i && valid_at has' map' i

-- the valid ones, in order, of entries that stand from place i on
unfoldable pub valid_from : {A : Type 0} → (ℕ → Bool) → ℕ → List A → List A
valid_from valid i [] = []
valid_from valid i (x ∷ xs) = cond (valid i) (x ∷ valid_from valid (suc i) xs) (valid_from valid (suc i) xs)

-- the valid readings of a trace
abbrev pub valid_readings : Bool → List ℕ → List Float → List Float
valid_readings has map trace = valid_from (valid_at has map) 0 trace

-- the pairs of two traces that are valid in both
abbrev pub valid_pairs : Bool → List ℕ → List Float → Bool → List ℕ → List Float → List (Float × Float)
valid_pairs has map xs has' map' ys = valid_from (both_at has map has' map') 0 (zip xs ys)
