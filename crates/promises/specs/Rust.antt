-- What demand 2's transcription of the Rust takes from Rust and arrow themselves: arithmetic, slices and bits where Rust defines them,
-- and a bitmap. Assumes nothing.
use Rattle.std.specs.Prelude.{ℕ, ◌+◌, ◌-◌, ◌*◌, ◌^◌, ◌≤◌, ◌<◌, ◌≡◌, refl, Bool, true, false, List, length, get_or, set, ℤ, pos, nat_abs, ◌-ℤ◌, Float}
use Rattle.std.proofs.Math.Seq.{slice}
use Rattle.std.specs.Float.{nan}
use Rattle.trace.specs.Trace.{Trace, valid_at}

-- `Bitmap`: bytes, and how many of their bits count, the lowest first
pub record Bitmap : Type 0 where
  pub bytes : List ℕ
  pub bits : ℕ

-- a trace's map as the Rust's `Bitmap`: "one bit a place", in all the bytes that are lent
abbrev pub bitmap_of : Trace → Bitmap
bitmap_of t = record { bytes = t.map; bits = length t.readings }

-- What Rust defines for some arguments only, and elsewhere panics, wraps or leaves undefined: known where it is defined, else left
-- open. So what holds of every such `Rust` holds without leaning on a sum past 64 bits, a difference below zero or a place past the
-- end.
pub record Rust : Type 0 where
  -- `a + b` of two `usize`
  pub plus : ℕ → ℕ → ℕ
  pub plus_is : (a b : ℕ) → a + b < 2 ^ 64 → plus a b ≡ a + b
  -- `a - b` of two `usize`
  pub minus : ℕ → ℕ → ℕ
  pub minus_is : (a b : ℕ) → b ≤ a → minus a b ≡ a - b
  -- `a as isize` of a `usize`
  pub signed : ℕ → ℤ
  pub signed_is : (a : ℕ) → a < 2 ^ 63 → signed a ≡ pos a
  -- `a - b` of two `isize`
  pub signed_minus : ℤ → ℤ → ℤ
  pub signed_minus_is : (a b : ℤ) → nat_abs (a -ℤ b) < 2 ^ 63 → signed_minus a b ≡ a -ℤ b
  -- `&l[a..b]` and `l.get_unchecked(a..b)`
  pub part : List Float → ℕ → ℕ → List Float
  pub part_is : (l : List Float) (a b : ℕ) → a ≤ b → b ≤ length l → part l a b ≡ slice a b l
  -- `*l.get_unchecked(i)`
  pub get : List Float → ℕ → Float
  pub get_is : (l : List Float) (i : ℕ) → i < length l → get l i ≡ get_or l i nan
  -- `validity.get_bit_unchecked(i)`, of a bitmap whose bytes hold its bits
  pub bit : Bitmap → ℕ → Bool
  pub bit_is : (validity : Bitmap) (i : ℕ) → validity.bits ≤ 8 * length validity.bytes → i < validity.bits
      → bit validity i ≡ valid_at true validity.bytes i
  -- `validity.set(i, false)` and `validity.set_unchecked(i, false)`, of a `MutableBitmap` as the list of its bits
  pub unset : List Bool → ℕ → List Bool
  pub unset_is : (validity : List Bool) (i : ℕ) → i < length validity → unset validity i ≡ set validity i false

-- one such: sums without a limit, subtraction that stops at 0, and what is past the end not there
abbrev pub some_rust : Rust
some_rust =
    record {
      plus = ◌+◌;
      plus_is = λ a b h. refl;
      minus = ◌-◌;
      minus_is = λ a b h. refl;
      signed = pos;
      signed_is = λ a h. refl;
      signed_minus = ◌-ℤ◌;
      signed_minus_is = λ a b h. refl;
      part = λ l a b. slice a b l;
      part_is = λ l a b h k. refl;
      get = λ l i. get_or l i nan;
      get_is = λ l i h. refl;
      bit = λ validity i. valid_at true validity.bytes i;
      bit_is = λ validity i h k. refl;
      unset = λ validity i. set validity i false;
      unset_is = λ validity i h. refl;
    }
