-- The lowest and the highest reading as a window's states keep them: two numbers that readings widen, each a float beyond which every
-- reading lies while there is none. The back stack holds readings as they are, so that a flip can tell which are not finite. Assumes
-- nothing.
use Rattle.std.specs.Prelude.{ℕ, Bool, cond, List, Float}
use Rattle.std.specs.Float.Ieee.Scale.{finite}
use Rattle.float.specs.Operators.{zero64}
use Rattle.moment.specs.declared.Figure.{Figure}
use Rattle.moment.specs.declared.Figure.TheVariants.{Missing, Present}
use Rattle.window.specs.Places.{Series}
use Rattle.window.specs.Readings.{reading_of, places_by}
use Rattle.window.specs.Extremes.{further, unsigned_zero}

-- the series of a trace and its map with the readings as they are
abbrev pub raw_series : Bool → List ℕ → List Float → Series Float
raw_series has map values = record { places = places_by has map values; entry = reading_of values }

-- what a moment is given for a reading: "A non-finite valid reading is inserted as 0.0"
abbrev pub inserting : Float → Float
inserting x = cond (finite x) x zero64

-- the number y, widened by a reading if that is finite
abbrev pub widened : (Float → Float → Bool) → Float → Float → Float
widened beyond y x = cond (finite x) (further beyond y x) y

-- the number as a row shows it
unfoldable pub shown : Float → Figure
shown y = cond (finite y) (Present (unsigned_zero y)) Missing
