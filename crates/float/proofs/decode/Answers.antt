-- One reading more of a table; the eight bytes of a word are those from eight times its place on. Assumes nothing.
use Prim.Native.Nat.{ℕ, zero, suc, ◌+◌, ◌*◌, ◌/◌, ◌<◌}
use mathlib.Core.Path.{◌≡◌, refl, ap, ◌∙◌}
use mathlib.Core.List.{List, []}
use native.Mathlib.Numerals.{add-one}
use native.Mathlib.Omega.{arith}
use lib.ListN.{length, take, drop, get_or}
use lib.Ieee.{Float}
use Rattle.std.specs.Int.{from_le_bytes, w64}
use lib.Seq.{take-suc-set}
use Rattle.std.proofs.lemmas.List.{get_or-take, get_or-drop, length-take, take_all}
use Rattle.std.specs.Simd.{first_chunks}
use Rattle.float.specs.Tables.{table}
use Rattle.float.specs.Bytes.{le64, decoded_into}
use Rattle.float.proofs.decode.Goals as goal

-- byte j of word i
byte_at : (k i j : ℕ) (bytes : List ℕ) → i < k → j < 8 → get_or (get_or (first_chunks 8 k bytes) i []) j 0 ≡ get_or bytes (i * 8 + j) 0
byte_at zero i j bytes h g = absurd (omega arith)
byte_at (suc k) zero j bytes h g = get_or-take 8 bytes j 0 g ∙ ap (λ (n : ℕ). get_or bytes n 0) (omega arith)
byte_at (suc k) (suc i) j bytes h g =
    byte_at k i j (drop 8 bytes) (omega arith) g ∙ get_or-drop 8 bytes (i * 8 + j) 0 ∙ ap (λ (n : ℕ). get_or bytes n 0) (omega arith)

spelled : (word bytes : List ℕ) (at : ℕ) → ((j : ℕ) → j < 8 → get_or word j 0 ≡ get_or bytes (at + j) 0)
    → from_le_bytes w64 word ≡ le64 bytes at
spelled word bytes at same = grind (arith, same)

word_at : (k i : ℕ) (bytes : List ℕ) → i < k → from_le_bytes w64 (get_or (first_chunks 8 k bytes) i []) ≡ le64 bytes (i * 8)
word_at k i bytes h = spelled (get_or (first_chunks 8 k bytes) i []) bytes (i * 8) (λ j g. byte_at k i j bytes h g)

pub loop-i-init : goal.loop-i-init
unfolding table
loop-i-init c = refl

pub loop-i-preserved : goal.loop-i-preserved
unfolding table
loop-i-preserved c =
    let bytes = c.args.trace.now in
    let l = c.loop-i in
    let h : l.i < length l.reading-items = omega arith in
    let k = length bytes / 8 in
    let g : l.i < k = omega (arith, length-take {A = Float}) in
    let words : c.as_chunks.result.0.now ≡ first_chunks 8 k bytes = c.as_chunks.ensures.front in
    let word : c.from_le_bytes.result ≡ le64 bytes (l.i * 8) = c.from_le_bytes.ensures ∙ rw words (word_at k l.i bytes g) in
    rw (add-one, take-suc-set, c.from_bits.ensures, word, l.invariant)

pub returns : goal.returns
unfolding decoded_into
returns c =
    let l = c.loop-i in
    let whole : take l.i l.reading-items ≡ l.reading-items = take_all l.i l.reading-items (omega arith) in
    let long : l.i ≡ c.min-n.result = omega (arith, length-take {A = Float}) in
    rw (← whole, l.invariant, long, c.min-n.ensures, c.as_chunks.ensures.front_len)
