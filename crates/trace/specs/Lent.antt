-- A trace and its map as the code has them: a map is there or not, where a C caller tells by a flag. Assumes nothing.
use Rattle.std.specs.Prelude.{◌≡◌, ℕ, Bool, true, false, List, [], Float, Option, Some, None}
use Rattle.std.specs.Borrow.{Bor}
use Rattle.trace.specs.Trace.{Trace, trace_of}
use Rattle.trace.specs.declared.Trace as code

-- whether there is a map
abbrev pub mapped : Option (Bor (List ℕ)) → Bool
mapped None = false
mapped (Some map) = true

-- its bytes
abbrev pub bytes_of : Option (Bor (List ℕ)) → List ℕ
bytes_of None = []
bytes_of (Some map) = map.now

-- the trace that a value of the code's type is
abbrev pub traced : code.Trace → Trace
traced x = trace_of x.values.now (mapped x.map) (bytes_of x.map)

-- a map that is lent with a flag, whose bytes are looked at where the flag says so
pub record MapAs (has : Bool) (map : List ℕ) (m : Option (Bor (List ℕ))) : Type 0 where
  pub mapped_is : mapped m ≡ has
  pub map_is : has ≡ true → bytes_of m ≡ map

-- a trace that is lent with a flag, and with bytes that are looked at where the flag says so
pub record LentAs (values : List Float) (has : Bool) (map : List ℕ) (t : Trace) : Type 0 where
  pub readings_are : t.readings ≡ values
  pub mapped_is : t.mapped ≡ has
  pub map_is : has ≡ true → t.map ≡ map
