-- What a call is given, by the kind of its entries: the statements above speak of any kind, and a new one is a case here. Assumes
-- nothing.
use Rattle.std.specs.Prelude.{ℕ, ◌≡◌, length, Float}
use Rattle.trace.specs.Trace.{Trace}
use Rattle.trace.specs.Refusals.{trace_refusal, pair_refusal}
use Rattle.window.specs.Places.{Series}
use Rattle.window.specs.Readings.{reading_of, series}
use Rattle.window.specs.Pairs.{TracePair, pair_series}

-- the kinds of entry of a window
pub data Kind : Type 0 where
  Readings : Kind
  Pairs : Kind

-- one entry
abbrev pub Entry : Kind → Type 0
Entry Readings = Float
Entry Pairs = Float × Float

-- what is given
abbrev pub Given : Kind → Type 0
Given Readings = Trace
Given Pairs = TracePair

-- the series of a window over it
abbrev pub series_of : (kind : Kind) → Given kind → Series (Entry kind)
series_of Readings t = series t.mapped t.map t.readings
series_of Pairs t = pair_series t.x.mapped t.x.map t.x.readings t.y.mapped t.y.map t.y.readings

-- how many places it has: two traces that are not refused have as many
abbrev pub places_of : (kind : Kind) → Given kind → ℕ
places_of Readings t = length t.readings
places_of Pairs t = length t.x.readings

-- its number: what refuses it before any plan is looked at
abbrev pub given_refusal : (kind : Kind) → Given kind → ℕ
given_refusal Readings t = trace_refusal t
given_refusal Pairs t = pair_refusal (length t.x.readings) t.x.mapped t.x.map (length t.y.readings) t.y.mapped t.y.map

-- two hold "the same bits" at place i. Readings with the same bits are equal here, and so are two NaNs whose bits differ.
abbrev pub SameAt : (kind : Kind) → Given kind → Given kind → ℕ → Type 0
SameAt Readings t t' i = reading_of t.readings i ≡ reading_of t'.readings i
SameAt Pairs t t' i =
    (reading_of t.x.readings i ≡ reading_of t'.x.readings i) × (reading_of t.y.readings i ≡ reading_of t'.y.readings i)
