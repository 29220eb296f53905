-- A trace that is lent with a flag is the trace that the flag tells: without a map its bytes are not looked at. Assumes nothing.
use Rattle.std.proofs.Common.{◌≡◌, ℕ, Bool, true, false, List, length, refl, ap}
use Rattle.std.specs.Prelude.{Float, Option}
use Rattle.std.specs.Borrow.{Bor}
use Rattle.trace.specs.Trace.{Trace, trace_of, valid_at}
use Rattle.trace.specs.Refusals.{wrong_map, trace_refusal}
use Rattle.trace.specs.Lent.{mapped, bytes_of, MapAs, LentAs}

by_flag : (has : Bool) (map map' : List ℕ) → (has ≡ true → map' ≡ map) → valid_at has map' ≡ valid_at has map
unfolding valid_at
by_flag true map map' e = ap (λ m. valid_at true m) (e refl)
by_flag false map map' e = refl

-- it has the same valid places
pub lent_valid : (values : List Float) (has : Bool) (map : List ℕ) (t : Trace) → LentAs values has map t → valid_at t.mapped t.map ≡ valid_at has map
lent_valid values has map t h = rw (h.mapped_is) (by_flag has map t.map h.map_is)

by_flag_wrong : (n : ℕ) (has : Bool) (map map' : List ℕ) → (has ≡ true → map' ≡ map) → wrong_map n has map' ≡ wrong_map n has map
unfolding wrong_map
by_flag_wrong n true map map' e = ap (λ m. wrong_map n true m) (e refl)
by_flag_wrong n false map map' e = refl

-- and is refused alike, as its map is
pub lent_wrong : (n : ℕ) (values : List Float) (has : Bool) (map : List ℕ) (t : Trace) → LentAs values has map t → wrong_map n t.mapped t.map ≡ wrong_map n has map
lent_wrong n values has map t h = rw (h.mapped_is) (by_flag_wrong n has map t.map h.map_is)

pub map_wrong : (n : ℕ) (has : Bool) (map : List ℕ) (m : Option (Bor (List ℕ))) → MapAs has map m
    → wrong_map n (mapped m) (bytes_of m) ≡ wrong_map n has map
map_wrong n has map m h = rw (h.mapped_is) (by_flag_wrong n has map (bytes_of m) h.map_is)

pub lent_refusal : (values : List Float) (has : Bool) (map : List ℕ) (t : Trace) → LentAs values has map t
    → trace_refusal t ≡ trace_refusal (trace_of values has map)
lent_refusal values has map t h = rw (lent_wrong (length t.readings) values has map t h, h.readings_are)
