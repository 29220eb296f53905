-- Document 02, request 4: "the lowest and highest finite valid reading of the window, a zero of either sign as +0.0, both missing when
-- there is none". Both are said of the window's places alone, once over the comparison. Assumes nothing.
use Rattle.std.specs.Prelude.{ℕ, ◌-◌, Bool, cond, not, ◌&&◌, ltb, Float}
use mathlib.Core.List.{List, [], ◌∷◌, foldl}
use Rattle.std.specs.Float.Ieee.{lt}
use Rattle.std.specs.Float.Ieee.Scale.{finite}
use Rattle.float.specs.Operators.{◌⊕◌, zero64}
use Rattle.trace.specs.Trace.{Trace, valid_at}
use Rattle.moment.specs.declared.Figure.{Figure}
use Rattle.moment.specs.declared.Figure.TheVariants.{Missing, Present}
use Rattle.plan.specs.Plan.{Plan, row_start, row_end}
use Rattle.window.specs.Places.{entries}
use Rattle.window.specs.Readings.{reading_of}

-- a "finite valid reading" stands at place i
abbrev pub finite_at : Trace → ℕ → Bool
finite_at t i = valid_at t.mapped t.map i && finite (reading_of t.readings i)

-- those "of the window" from s up to e
abbrev pub finite_readings : Trace → ℕ → ℕ → List Float
finite_readings t s e = entries (finite_at t) (reading_of t.readings) s e

-- "lowest": x is lower than y
abbrev pub lower : Float → Float → Bool
lower x y = lt x y

-- "and highest": x is higher than y
abbrev pub higher : Float → Float → Bool
higher x y = lt y x

-- of two readings the one that is further out, the first where neither is
abbrev pub further : (Float → Float → Bool) → Float → Float → Float
further beyond x y = cond (beyond y x) y x

-- "a zero of either sign as +0.0": the sum with +0.0 is the number itself, and +0.0 of a zero of either sign
abbrev pub unsigned_zero : Float → Float
unsigned_zero x = x ⊕ zero64

-- the reading that none is beyond, "missing when there is none"
unfoldable pub extreme : (Float → Float → Bool) → List Float → Figure
extreme beyond [] = Missing
extreme beyond (x ∷ l) = Present (unsigned_zero (foldl (further beyond) x l))

-- "a row without a map that is shorter than the minimum"
abbrev pub short_row : Bool → ℕ → ℕ → ℕ → Bool
short_row mapped min_periods s e = not mapped && ltb (e - s) min_periods

-- "given also where the variance is missing, except in a row without a map that is shorter than the minimum": of the row from s up to e
unfoldable pub extreme_of : (Float → Float → Bool) → Trace → ℕ → ℕ → ℕ → Figure
unfolding extreme
extreme_of beyond t min_periods s e = cond (short_row t.mapped min_periods s e) Missing (extreme beyond (finite_readings t s e))

-- row k's
abbrev pub extreme_at : (Float → Float → Bool) → Trace → ℕ → Plan → ℕ → Figure
extreme_at beyond t min_periods p k = extreme_of beyond t min_periods (row_start p k) (row_end p k)
