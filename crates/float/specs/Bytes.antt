-- Document 01, Host call: "traces as little-endian bytes, eight a reading". Assumes nothing.
use Rattle.std.specs.Prelude.{ℕ, ◌+◌, ◌*◌, ◌/◌, min, List, ◌++◌, length, get_or, drop, Float}
use Rattle.std.specs.Float.{binary64}
use Rattle.std.specs.Float.Ieee.{of_bits}
use Rattle.float.specs.Tables.{table}

-- the number that the eight bytes from `at` on spell, the lowest first
abbrev pub le64 : List ℕ → ℕ → ℕ
le64 bytes at =
    get_or bytes at 0
    + 0x100 * get_or bytes (at + 1) 0
    + 0x1_0000 * get_or bytes (at + 2) 0
    + 0x100_0000 * get_or bytes (at + 3) 0
    + 0x1_0000_0000 * get_or bytes (at + 4) 0
    + 0x100_0000_0000 * get_or bytes (at + 5) 0
    + 0x1_0000_0000_0000 * get_or bytes (at + 6) 0
    + 0x100_0000_0000_0000 * get_or bytes (at + 7) 0

-- reading i of a trace that is lent as bytes
abbrev pub reading_at : List ℕ → ℕ → Float
reading_at bytes i = of_bits binary64 (le64 bytes (i * 8))

-- A list of doubles after a trace is decoded into it, as many readings as both hold: "bits unchanged, into a lent list of doubles,
-- whose places past n keep their contents"
unfoldable pub decoded_into : List ℕ → List Float → List Float
unfolding table
decoded_into bytes readings =
    let n = min (length bytes / 8) (length readings) in
    table (reading_at bytes) n ++ drop n readings
