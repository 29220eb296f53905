-- Document 01, "Who can cause a refusal": the numbers that whole arrays and ranges can answer, and their order. A refusal is its
-- term for an error, answered as a number; a call that is accepted has the number 0. Assumes nothing.
use Rattle.std.specs.Prelude.{ℕ, ◌+◌, Bool, false, cond, not, ◌||◌, List, eqb, ltb, length}
use Rattle.trace.specs.Trace.{Trace, bytes_for}

-- a number where its condition holds, else 0
unfoldable pub refusal : ℕ → Bool → ℕ
refusal number holds = cond holds number 0

infixl 5 ◌or_else◌
-- "Checks run in number order": the first of two that is a refusal
unfoldable pub ◌or_else◌ : ℕ → ℕ → ℕ
a or_else b = cond (eqb a 0) b a

-- "1 more than 16,777,216 readings"
abbrev pub too_many : ℕ → Bool
too_many n = ltb 16777216 n

-- "3 a map of the wrong length", and document 02, request 1: "Accept a longer map and ignore the bytes behind. A shorter one is still 3"
unfoldable pub wrong_map : ℕ → Bool → List ℕ → Bool
wrong_map n has map = cond has (ltb (length map) (bytes_for n)) false

-- one trace: 1, 3
abbrev pub array_refusal : ℕ → Bool → List ℕ → ℕ
array_refusal n has map = refusal 1 (too_many n) or_else refusal 3 (wrong_map n has map)

-- the number of a trace
abbrev pub trace_refusal : Trace → ℕ
trace_refusal t = array_refusal (length t.readings) t.mapped t.map

-- two traces: 1 for either, "2 paired traces differ in length", 3 for either
abbrev pub pair_refusal : ℕ → Bool → List ℕ → ℕ → Bool → List ℕ → ℕ
pair_refusal n has map n' has' map' =
    refusal 1 (too_many n || too_many n') or_else refusal 2 (not (eqb n n'))
    or_else refusal 3 (wrong_map n has map || wrong_map n' has' map')

-- the number of two traces
abbrev pub paired_refusal : Trace → Trace → ℕ
paired_refusal x y = pair_refusal (length x.readings) x.mapped x.map (length y.readings) y.mapped y.map

-- a range: 1, 3, then "11 start + length > n, added without a limit of width"
abbrev pub range_refusal : ℕ → Bool → List ℕ → ℕ → ℕ → ℕ
range_refusal n has map start len = array_refusal n has map or_else refusal 11 (ltb n (start + len))
