-- Document 01, Window: a trace of readings as the series of a window. Assumes nothing.
use Rattle.std.specs.Prelude.{ℕ, Bool, cond, not, ◌&&◌, List, get_or, Float}
use Rattle.std.specs.Float.{nan}
use Rattle.std.specs.Float.Ieee.Scale.{finite}
use Rattle.float.specs.Operators.{zero64}
use Rattle.trace.specs.Trace.{valid_at}
use Rattle.window.specs.Places.{Places, Series}

-- the reading at a place
abbrev pub reading_of : List Float → ℕ → Float
reading_of values i = get_or values i nan

-- "A non-finite valid reading is inserted as 0.0"
unfoldable pub inserted_at : List Float → ℕ → Float
inserted_at values i = cond (finite (reading_of values i)) (reading_of values i) zero64

-- a valid reading that is not finite
unfoldable pub nonfinite_at : Bool → List ℕ → List Float → ℕ → Bool
nonfinite_at has map values i = valid_at has map i && not (finite (reading_of values i))

-- the places of a trace and its map
abbrev pub places_by : Bool → List ℕ → List Float → Places
places_by has map values = record { mapped = has; valid = valid_at has map; nonfinite = nonfinite_at has map values }

-- the series of a trace and its map
abbrev pub series : Bool → List ℕ → List Float → Series Float
series has map values = record { places = places_by has map values; entry = inserted_at values }
