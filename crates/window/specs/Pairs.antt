-- Document 02, request 2: two traces as the series of a window, whose entries are pairs of readings. Assumes nothing.
use Rattle.std.specs.Prelude.{ℕ, Bool, cond, not, ◌&&◌, ◌||◌, List, Float}
use Rattle.std.specs.Float.Ieee.Scale.{finite}
use Rattle.float.specs.Operators.{zero64}
use Rattle.trace.specs.Slices.{Slice}
use Rattle.trace.specs.Trace.{Trace, tracing, both_at}
use Rattle.trace.specs.Lent.{traced}
use Rattle.trace.specs.declared.Pair as code
use Rattle.window.specs.Places.{Places, Series}
use Rattle.window.specs.Readings.{reading_of}

-- "two traces", each with its own map where one is lent
pub record TracePair : Type 0 where
  pub x : Trace
  pub y : Trace

-- the two traces that a call's parameters are
abbrev pub pairing : Slice Float → Bool → Slice ℕ → Slice Float → Bool → Slice ℕ → TracePair
pairing x has_x map_x y has_y map_y = record { x = tracing x has_x map_x; y = tracing y has_y map_y }

-- the two traces that a value of the code's type is
abbrev pub paired : code.Pair → TracePair
paired p = record { x = traced p.x; y = traced p.y }

-- the pair at a place
abbrev pub pair_of : List Float → List Float → ℕ → Float × Float
pair_of xs ys i = (reading_of xs i, reading_of ys i)

-- no member of a pair is "non-finite"
abbrev pub finite_pair : Float × Float → Bool
finite_pair p = finite p.0 && finite p.1

-- "A pair with a non-finite member enters as (0.0, 0.0)"
unfoldable pub inserted_pair : List Float → List Float → ℕ → Float × Float
inserted_pair xs ys i = cond (finite_pair (pair_of xs ys i)) (pair_of xs ys i) (zero64, zero64)

-- a valid pair with a member that is not finite
unfoldable pub nonfinite_pair : Bool → List ℕ → List Float → Bool → List ℕ → List Float → ℕ → Bool
nonfinite_pair has map xs has' map' ys i = both_at has map has' map' i && not (finite_pair (pair_of xs ys i))

-- the places of two traces: "A place is valid when both traces have it. The rows go by the rule for a map as soon as either trace has one."
abbrev pub pair_places : Bool → List ℕ → List Float → Bool → List ℕ → List Float → Places
pair_places has map xs has' map' ys =
    record { mapped = has || has'; valid = both_at has map has' map'; nonfinite = nonfinite_pair has map xs has' map' ys }

-- the series of two traces: "The split account holds with pairs for readings"
abbrev pub pair_series : Bool → List ℕ → List Float → Bool → List ℕ → List Float → Series (Float × Float)
pair_series has map xs has' map' ys = record { places = pair_places has map xs has' map' ys; entry = inserted_pair xs ys }
