-- Document 01, "Host call": a plan call whose trace, or traces, are lent as bytes. The contract of each plan call of this crate is
-- `CallsBytes`. Assumes nothing.
use Rattle.std.specs.Prelude.{ℕ, ◌/◌, ◌%◌, ◌≡◌, Bool, not, ◌||◌, List, eqb, ltb, length, Float}
use Rattle.float.specs.Tables.{table}
use Rattle.float.specs.Bytes.{reading_at}
use Rattle.trace.specs.Slices.{Slice, MutSlice, entering, entering_mut, leaving}
use Rattle.trace.specs.Trace.{Trace, trace_of}
use Rattle.trace.specs.Refusals.{refusal, ◌or_else◌}
use Rattle.window.specs.Given.{Kind, Readings, Pairs, Given}
use Rattle.window.specs.Outputs.{Lent, filled}
use Rattle.rolling.specs.Moments.{kind_of}
use Rattle.rolling.specs.Calls.{Query, refusal_of, Left}

-- "traces as little-endian bytes, eight a reading", with the map where one is lent
pub record ByteTrace : Type 0 where
  pub bytes : List ℕ
  pub mapped : Bool
  pub map : List ℕ

-- how many whole readings it has
abbrev pub reading_count : ByteTrace → ℕ
reading_count t = length t.bytes / 8

-- the trace that it is
abbrev pub decoded : ByteTrace → Trace
decoded t = trace_of (table (reading_at t.bytes) (reading_count t)) t.mapped t.map

-- two traces as bytes
pub record BytePair : Type 0 where
  pub x : ByteTrace
  pub y : ByteTrace

-- ---- by the kind of entry, as what a call is given
-- what the host lends
abbrev pub Host : Kind → Type 0
Host Readings = ByteTrace
Host Pairs = BytePair

-- what that is when it is decoded
abbrev pub decoded_of : (kind : Kind) → Host kind → Given kind
decoded_of Readings t = decoded t
decoded_of Pairs t = record { x = decoded t.x; y = decoded t.y }

-- "14 trace bytes not a multiple of 8"
abbrev pub no_whole : ByteTrace → Bool
no_whole t = not (eqb (length t.bytes % 8) 0)

-- by the kind: of two traces "14 where either trace's bytes are no whole readings" (ABI.md)
abbrev pub odd_bytes : (kind : Kind) → Host kind → Bool
odd_bytes Readings t = no_whole t
odd_bytes Pairs t = no_whole t.x || no_whole t.y

-- the lists that readings are decoded into
abbrev pub ReadingLists : Kind → Type 0
ReadingLists Readings = List Float
ReadingLists Pairs = List Float × List Float

-- 12 "in the host call a reading list shorter than n"
abbrev pub short_list : ByteTrace → List Float → Bool
short_list t l = ltb (length l) (reading_count t)

-- by the kind: of two traces "either reading list"
abbrev pub short_lists : (kind : Kind) → Host kind → ReadingLists kind → Bool
short_lists Readings t l = short_list t l
short_lists Pairs t l = short_list t.x l.0 || short_list t.y l.1

-- "An accepted call decodes the readings, bits unchanged, into a lent list of doubles, whose places past n keep their contents.": but
-- for a NaN's bits, since the logic has one NaN (docs/DIFFERENCES.md)
abbrev pub decoded_list : ℕ → ByteTrace → List Float → List Float
decoded_list number t l = filled number (reading_at t.bytes) (reading_count t) l

-- by the kind: of two traces each into its own list
abbrev pub decoded_lists : (kind : Kind) → ℕ → Host kind → ReadingLists kind → ReadingLists kind
decoded_lists Readings number t l = decoded_list number t l
decoded_lists Pairs number t l = (decoded_list number t.x l.0, decoded_list number t.y l.1)

-- a host call: "14 before all", then the numbers of the plan call on what is decoded
pub record CalledBytes (q : Query) (h : Host (kind_of q.statistic)) (r₀ r₁ : ReadingLists (kind_of q.statistic)) (l₀ l₁ : Lent)
    (number : ℕ) : Type 0 where
  pub number_is : number
      ≡ refusal 14 (odd_bytes (kind_of q.statistic) h)
      or_else refusal_of q (decoded_of (kind_of q.statistic) h) (short_lists (kind_of q.statistic) h r₀) l₀
  pub readings_are : r₁ ≡ decoded_lists (kind_of q.statistic) number h r₀
  pub left : Left q (decoded_of (kind_of q.statistic) h) l₀ l₁ number

-- ---- the same, of a call's parameters
abbrev pub hosting : Slice ℕ → Bool → Slice ℕ → ByteTrace
hosting bytes has map = record { bytes = entering bytes; mapped = has; map = entering map }

-- the bytes and maps of two traces
abbrev pub hosting_pair : Slice ℕ → Bool → Slice ℕ → Slice ℕ → Bool → Slice ℕ → BytePair
hosting_pair x has_x map_x y has_y map_y = record { x = hosting x has_x map_x; y = hosting y has_y map_y }

-- the list that is decoded into, before and after
abbrev pub decoding : MutSlice Float → List Float × List Float
decoding readings = (entering_mut readings, leaving readings)

-- the two lists
abbrev pub decoding_pair : MutSlice Float → MutSlice Float → (List Float × List Float) × (List Float × List Float)
decoding_pair x y = ((entering_mut x, entering_mut y), (leaving x, leaving y))

abbrev pub CallsBytes : (q : Query) → Host (kind_of q.statistic)
    → ReadingLists (kind_of q.statistic) × ReadingLists (kind_of q.statistic) → Lent × Lent → ℕ → Type 0
CallsBytes q h r l number = CalledBytes q h r.0 r.1 l.0 l.1 number
