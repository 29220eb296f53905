-- The source's drivers give the states of our definitions, over any state. Chunks: with part of a chunk held, what the loop gives of
-- the values left is the fold over the chunks of both, and a left and a right chunk hold a chunk of pairs. Readings: an accepted map's
-- bits are its places, so what is kept by the bits, and counted by them, are the valid ones; where no bit is 0 they are all.
-- Assumes nothing.
use Prim.Native.Nat.{ℕ, zero, suc, ◌+◌, ◌*◌, ◌<◌, ◌≤◌}
use mathlib.Core.Path.{◌≡◌, refl, sym, ap, ◌∙◌, fun_ext}
use mathlib.Core.Bool.{Bool, true, false, not, cond, ◌&&◌, ◌||◌}
use mathlib.Core.List.{List, [], ◌∷◌, ◌++◌, foldl, append_assoc, append-nil, map, map-append, zip, zip_with, filter_map}
use mathlib.Core.Logic.{◌↔◌}
use mathlib.Core.Option
use mathlib.Core.Option.{Option, none, some, Option-elim, get_or}
use native.Mathlib.Omega.{arith}
use borrow.Author.Tests.{lt-ltb, le-ltb, ltb-false}
use lib.Dec.{T, leb, ltb, leb→le, nleb→lt, lit≤}
use lib.ListN.{length, take, drop, length-append, length-map, drop_of_length-le, length-drop}
use lib.Seq.{take_at, drop_at, take_all, take-length, length-take-le}
use lib.Ieee.{Float}
use Rattle.float.specs.Tables.{table}
use Rattle.float.proofs.Tables.{table_same}
use Rattle.float.proofs.Cases.{Or, here, there, order}
use Rattle.trace.specs.Trace.{Trace, bytes_for, valid_at, both_at, valid_from}
use Rattle.trace.specs.Refusals.{refusal, ◌or_else◌, too_many, wrong_map, trace_refusal, paired_refusal, range_refusal}
use Rattle.trace.proofs.Accepted.{none_of, not_refused_lem, range_fits_lem, pair_fits}
use Rattle.trace.proofs.Maps.{none_missing_lem}
use Rattle.moment.specs.Sums.{first_of, second_of}
use Rattle.moment.specs.Chunks.{chunks, chunks_of, fold_chunks, in_chunks}
use Rattle.moment.proofs.Chunked.{chunks_cons}
use Rattle.moment.proofs.Pairs.{length-zip}
use Rattle.plan.proofs.Plans.{neither}
use Rattle.promises.specs.Rust.{Rust, bitmap_of}
use Rattle.promises.specs.Calls.{readings_of, readings_in, pairs_of}
use Rattle.promises.specs.SourceArrays.{bits_of, array_of, unset_bits, has_nulls, then_some, values_where}
use Rattle.promises.specs.SourceArrays.{options_where, both_some, stored, flushed, chunk_as_float, combine_new, whole_array}
use Rattle.promises.specs.SourceArrays.{stored_binary, flushed_binary, chunk_as_float_binary, combine_new_binary, pair_arrays, options_of}
use Rattle.promises.specs.SourceArrays.{non_null_values, with_unset, sliced, set_bits, range_of, from_range, from_array}
use Rattle.promises.proofs.Spans.{each_place, span, span_table, span_length, span_part}
use Rattle.promises.proofs.Accepted.{map_long}

-- ---- chunks
-- the chunks of a list that is one chunk, and of one that starts with a full chunk
one_chunk : {A : Type 0} (h : List A) → 0 < length h → length h ≤ 128 → chunks_of h ≡ h ∷ []
unfolding chunks chunks_of
one_chunk h p l = chunks_cons h p ∙ rw (take_all 128 h l, drop_of_length-le h l)

full_chunk : {A : Type 0} (h t : List A) → length h ≡ 128 → chunks_of (h ++ t) ≡ h ∷ chunks_of t
full_chunk h t e =
    let p : 0 < length (h ++ t) = simp length-append (omega arith) in
    chunks_cons (h ++ t) p ∙ rw (take_at h t 128 e, drop_at h t 128 e)

module _ {A S : Type 0} (new : List A → S) (combine : S → S → S) where
  abbrev on_chunk : S → List A → S
  on_chunk = combine_new new combine

  -- what the loop gives of the values left
  abbrev looped : List A × S → List A → S
  looped carried xs = flushed on_chunk (foldl (stored on_chunk) carried xs)

  abbrev chunked : S → List A → S
  chunked out xs = fold_chunks new combine out (chunks_of xs)

  -- no value is left: what is held is the last chunk, if it holds anything
  last-chunk : (h : List A) (out : S) → length h ≤ 128 → flushed on_chunk (h, out) ≡ chunked out h
  unfolding chunks chunks_of
  last-chunk [] out l = refl
  last-chunk (x ∷ xs) out l =
      let p : 0 < length (x ∷ xs) = omega arith in rw (one_chunk (x ∷ xs) p l, lt-ltb 0 (length (x ∷ xs)) p)

  held : (xs h : List A) (out : S) → length h ≤ 128 → looped (h, out) xs ≡ chunked out (h ++ xs)
  held [] h out l = last-chunk h out l ∙ ap (chunked out) (sym (append-nil h))
  held (x ∷ xs) h out l =
      by (leb 128 (length h)) (leb→le 128 (length h)) (nleb→lt 128 (length h)) (held xs (x ∷ []) (combine out (new h)) (omega arith))
      (λ k. held xs (h ++ (x ∷ [])) out k)
    where
      by : (t : Bool) → (T t → 128 ≤ length h) → (T (not t) → length h < 128)
          → looped (x ∷ [], combine out (new h)) xs ≡ chunked (combine out (new h)) (x ∷ xs)
          → (length (h ++ (x ∷ [])) ≤ 128 → looped (h ++ (x ∷ []), out) xs ≡ chunked out ((h ++ (x ∷ [])) ++ xs))
          → looped (cond t (x ∷ [], combine out (new h)) (h ++ (x ∷ []), out)) xs ≡ chunked out (h ++ x ∷ xs)
      by true p q a b =
          let e : length h ≡ 128 = (let g : 128 ≤ length h = p tt in omega arith) in
          a ∙ sym (ap (fold_chunks new combine out) (full_chunk h (x ∷ xs) e))
      by false p q a b =
          let g : length h < 128 = q tt in
          let k : length (h ++ (x ∷ [])) ≤ 128 = simp length-append (omega arith) in
          b k ∙ ap (chunked out) (append_assoc h (x ∷ []) xs)

  -- the source's chunks, made states and combined, are ours
  pub source-in-chunks : (empty : S) (xs : List A) → chunk_as_float (combine_new new combine) empty xs ≡ in_chunks new combine empty xs
  unfolding in_chunks
  source-in-chunks empty xs = held xs [] empty (omega arith)

-- of a chunk of pairs: of its left and its right members
abbrev of_pairs : {S : Type 0} → (List Float → List Float → S) → List (Float × Float) → S
of_pairs new ps = new (map first_of ps) (map second_of ps)

module _ {S : Type 0} (new : List Float → List Float → S) (combine : S → S → S) where
  abbrev on_chunks : S → List Float → List Float → S
  on_chunks = combine_new_binary new combine

  abbrev on_pairs : S → List (Float × Float) → S
  on_pairs = combine_new (of_pairs new) combine

  -- what two chunks hold is what a chunk of pairs holds
  abbrev SameHeld : List (Float × Float) → List (Float × Float) → S → Type 0
  SameHeld ps h out =
      flushed_binary on_chunks (foldl (stored_binary on_chunks) (map first_of h, map second_of h, out) ps)
      ≡ flushed on_pairs (foldl (stored on_pairs) (h, out) ps)

  held-alike : (ps h : List (Float × Float)) (out : S) → SameHeld ps h out
  held-alike [] h out = rw (length-map h first_of)
  held-alike (p ∷ ps) h out =
      ap (λ (n : ℕ). after (leb 128 n)) (length-map h first_of)
      ∙ by (leb 128 (length h)) (held-alike ps (p ∷ []) (combine out (of_pairs new h))) (held-alike ps (h ++ (p ∷ [])) out)
    where
      after : Bool → S
      after t =
          let begun : List Float × List Float × S = (p.0 ∷ [], p.1 ∷ [], combine out (of_pairs new h)) in
          let longer : List Float × List Float × S = (map first_of h ++ (p.0 ∷ []), map second_of h ++ (p.1 ∷ []), out) in
          flushed_binary on_chunks (foldl (stored_binary on_chunks) (cond t begun longer) ps)

      by : (t : Bool) → SameHeld ps (p ∷ []) (combine out (of_pairs new h)) → SameHeld ps (h ++ (p ∷ [])) out
          → after t ≡ flushed on_pairs (foldl (stored on_pairs) (cond t (p ∷ [], combine out (of_pairs new h)) (h ++ (p ∷ []), out)) ps)
      by true a b = a
      by false a b = rw (map-append first_of h (p ∷ []), map-append second_of h (p ∷ [])) at b

  -- and so for the source's pairs of chunks
  pub source-in-pairs : (empty : S) (ps : List (Float × Float))
      → chunk_as_float_binary (combine_new_binary new combine) empty ps ≡ in_chunks (of_pairs new) combine empty ps
  source-in-pairs empty ps = held-alike ps [] empty ∙ source-in-chunks (of_pairs new) combine empty ps

-- ---- places
-- no place of the trace is missing: the source's `has_nulls` is false, though a map may be lent
abbrev pub NoneMissing : ℕ → (ℕ → Bool) → Type 0
NoneMissing n valid = (i : ℕ) → i < n → valid i ≡ true

pub no_nulls : {A : Type 0} (valid : ℕ → Bool) (xs : List A) → NoneMissing (length xs) valid → valid_from valid 0 xs ≡ xs
no_nulls valid xs h = none_missing_lem valid 0 xs (λ i k l. h i (omega arith))

-- a map of ones, whose bits past the trace are 0
pub ones_none_missing : NoneMissing 4 (valid_at true (15 ∷ []))
unfolding table valid_at
ones_none_missing = each_place _ _ 4 refl

-- ---- bits
-- no bit is 0 where no place is missing, and the other way round
unset_step : (t : Bool) (bits : List Bool) → unset_bits (t ∷ bits) ≡ 0 → (t ≡ true) × (unset_bits bits ≡ 0)
unfolding unset_bits
unset_step true bits e = (refl, e)
unset_step false bits e = absurd (omega arith)

unset_none : (valid : ℕ → Bool) (n p : ℕ) → unset_bits (span valid n p) ≡ 0 → (i : ℕ) → p ≤ i → i < p + n → valid i ≡ true
unfolding span
unset_none valid zero p e i h k = absurd (omega arith)
unset_none valid (suc n) p e i h k =
    let s = unset_step (valid p) (span valid n (suc p)) e in
    go (order i p) s.0 (λ l. unset_none valid n (suc p) s.1 i l (omega arith))
  where
    go : Or (i ≤ p) (p < i) → valid p ≡ true → (p < i → valid i ≡ true) → valid i ≡ true
    go (here l) v r = let z : i ≡ p = omega arith in rw z v
    go (there l) v r = r l

none_unset : (valid : ℕ → Bool) (n p : ℕ) → ((i : ℕ) → p ≤ i → i < p + n → valid i ≡ true) → unset_bits (span valid n p) ≡ 0
unfolding span unset_bits
none_unset valid zero p h = refl
none_unset valid (suc n) p h =
    rw (h p (omega arith) (omega arith)) (none_unset valid n (suc p) (λ i k l. h i (omega arith) (omega arith)))

-- what is kept by the bits of the places from p on
kept_step : {A : Type 0} (t : Bool) (x : A) (l m : List A) → l ≡ m → Option-elim (then_some (x, t)) l (λ y. y ∷ l) ≡ cond t (x ∷ m) m
unfolding Option-elim
kept_step {A} true x l m e = ap (λ (k : List A). x ∷ k) e
kept_step false x l m e = e

kept_from : {A : Type 0} (valid : ℕ → Bool) (p : ℕ) (xs : List A)
    → filter_map then_some (zip xs (span valid (length xs) p)) ≡ valid_from valid p xs
unfolding filter_map zip zip_with span valid_from
kept_from valid p [] = refl
kept_from valid p (x ∷ xs) = kept_step (valid p) x _ _ (kept_from valid (suc p) xs)

-- and how many
count_step : {A : Type 0} (t : Bool) (x : A) (l : List A) (bits : List Bool) (n : ℕ) → length l + unset_bits bits ≡ n
    → length (cond t (x ∷ l) l) + unset_bits (t ∷ bits) ≡ suc n
unfolding unset_bits
count_step true x l bits n e = omega arith
count_step false x l bits n e = omega arith

count_from_lem : {A : Type 0} (valid : ℕ → Bool) (p : ℕ) (xs : List A)
    → length (valid_from valid p xs) + unset_bits (span valid (length xs) p) ≡ length xs
unfolding span valid_from unset_bits
count_from_lem valid p [] = refl
count_from_lem valid p (x ∷ xs) = count_step (valid p) x _ (span valid (length xs) (suc p)) (length xs) (count_from_lem valid (suc p) xs)

-- each reading as an option, by the bits of the places from p on
abbrev options_from : {A : Type 0} → (ℕ → Bool) → ℕ → List A → List (Option A)
options_from valid p xs = map then_some (zip xs (span valid (length xs) p))

all_some_lem : {A : Type 0} (valid : ℕ → Bool) → ((i : ℕ) → valid i ≡ true) → (p : ℕ) (xs : List A) → map some xs ≡ options_from valid p xs
unfolding zip zip_with span
all_some_lem valid all p [] = refl
all_some_lem valid all p (x ∷ xs) = rw (all p, all_some_lem valid all (suc p) xs)

-- the pairs that are there in both
pair_step : (s t : Bool) (x y : Float) (l m : List (Float × Float)) → l ≡ m
    → Option-elim (both_some (then_some (x, s), then_some (y, t))) l (λ p. p ∷ l) ≡ cond (s && t) ((x, y) ∷ m) m
unfolding Option-elim
pair_step true true x y l m e = ap (λ (k : List (Float × Float)). (x, y) ∷ k) e
pair_step true false x y l m e = e
pair_step false true x y l m e = e
pair_step false false x y l m e = e

pairs_from : (v w : ℕ → Bool) (p : ℕ) (xs ys : List Float)
    → filter_map both_some (zip (options_from v p xs) (options_from w p ys)) ≡ valid_from (λ i. v i && w i) p (zip xs ys)
unfolding filter_map zip zip_with span valid_from
pairs_from v w p [] ys = refl
pairs_from v w p (x ∷ xs) [] = refl
pairs_from v w p (x ∷ xs) (y ∷ ys) = pair_step (v p) (w p) x y _ _ (pairs_from v w (suc p) xs ys)

-- ---- an accepted trace as the source's array
-- an accepted map's bytes hold a bit for each place
pub bits_fit : (n bytes : ℕ) → bytes_for n ≤ bytes → n ≤ 8 * bytes
bits_fit n bytes e = omega arith

bits_are : (rust : Rust) (t : Trace) → bytes_for (length t.readings) ≤ length t.map
    → bits_of rust (bitmap_of t) ≡ span (valid_at true t.map) (length t.readings) 0
bits_are rust t e =
    let n = length t.readings in
    table_same (rust.bit (bitmap_of t)) (valid_at true t.map) n (λ i h. rust.bit_is (bitmap_of t) i (bits_fit n (length t.map) e) h)
    ∙ sym (span_table (valid_at true t.map) n)

-- what the array has for a validity: none where every place is valid, or the bits of its places
data ValidityOf (valid : ℕ → Bool) (n : ℕ) : Option (List Bool) → Type 0 where
  unlent : ((i : ℕ) → valid i ≡ true) → ValidityOf valid n none
  lent : {bits : List Bool} → bits ≡ span valid n 0 → ValidityOf valid n (some bits)

without_map : (map : List ℕ) (i : ℕ) → valid_at false map i ≡ true
unfolding valid_at
without_map map i = refl

validity_of : (rust : Rust) (t : Trace) → trace_refusal t ≡ 0
    → ValidityOf (valid_at t.mapped t.map) (length t.readings) (array_of rust t).validity
validity_of rust t e = go t.mapped (map_long t e)
  where
    go : (m : Bool) → (m ≡ true → bytes_for (length t.readings) ≤ length t.map)
        → ValidityOf (valid_at m t.map) (length t.readings) (cond m (some (bits_of rust (bitmap_of t))) none)
    go true f = lent (bits_are rust t (f refl))
    go false f = unlent (without_map t.map)

module _ (valid : ℕ → Bool) where
  none-null : (n : ℕ) (o : Option (List Bool)) → ValidityOf valid n o
      → (ltb 0 (get_or (Option.map unset_bits o) 0) ≡ false) ↔ NoneMissing n valid
  none-null n none (unlent all) = (λ e i h. all i, λ m. refl)
  none-null n (some bits) (lent q) = (missing, unset)
    where
      missing : ltb 0 (unset_bits bits) ≡ false → NoneMissing n valid
      missing e i h =
          let z : unset_bits bits ≤ 0 = ltb-false 0 (unset_bits bits) e in
          let z' : unset_bits bits ≡ 0 = omega arith in
          unset_none valid n 0 (ap unset_bits (sym q) ∙ z') i (omega arith) (omega arith)

      unset : NoneMissing n valid → ltb 0 (unset_bits bits) ≡ false
      unset m =
          let z : unset_bits bits ≡ 0 = ap unset_bits q ∙ none_unset valid n 0 (λ i k l. m i (omega arith)) in
          le-ltb 0 (unset_bits bits) (omega arith)

  values_of : (xs : List Float) (o : Option (List Bool)) → ValidityOf valid (length xs) o → values_where xs o ≡ valid_from valid 0 xs
  values_of xs none (unlent all) = sym (no_nulls valid xs (λ i h. all i))
  values_of xs (some bits) (lent q) = ap (λ (l : List Bool). filter_map then_some (zip xs l)) q ∙ kept_from valid 0 xs

  options-of : (xs : List Float) (o : Option (List Bool)) → ValidityOf valid (length xs) o → options_where xs o ≡ options_from valid 0 xs
  options-of xs none (unlent all) = all_some_lem valid all 0 xs
  options-of xs (some bits) (lent q) = ap (λ (l : List Bool). map then_some (zip xs l)) q

-- `has_nulls` is false exactly where no place of the trace is missing
pub has_nulls_lem : (rust : Rust) (t : Trace) → trace_refusal t ≡ 0
    → (has_nulls (array_of rust t) ≡ false) ↔ NoneMissing (length t.readings) (valid_at t.mapped t.map)
has_nulls_lem rust t e =
    none-null (valid_at t.mapped t.map) (length t.readings) (array_of rust t).validity (validity_of rust t e)

-- ---- whole arrays
-- over states made and combined alike
chunks_same : {A S : Type 0} (new new' : List A → S) (combine combine' : S → S → S) (empty : S) → ((l : List A) → new l ≡ new' l)
    → combine ≡ combine' → (xs : List A) → in_chunks new combine empty xs ≡ in_chunks new' combine' empty xs
chunks_same {A} {S} new new' combine combine' empty n c xs =
    ap (λ (f : List A → S). in_chunks f combine empty xs) (fun_ext n) ∙ ap (λ (f : S → S → S). in_chunks new' f empty xs) c

-- one array, of any state
pub whole_array_lem : {S : Type 0} (empty : S) {new new' : List Float → S} {combine combine' : S → S → S}
    → ((l : List Float) → new l ≡ new' l) → combine ≡ combine' → (rust : Rust) (t : Trace) → trace_refusal t ≡ 0
    → whole_array new combine empty (array_of rust t) ≡ in_chunks new' combine' empty (readings_of t)
unfolding whole_array
whole_array_lem {S} empty {new} {new'} {combine} {combine'} n c rust t e =
    by (has_nulls (array_of rust t)) (has_nulls_lem rust t e).0
    ∙ chunks_same new new' combine combine' empty n c (readings_of t)
  where
    valid : ℕ → Bool
    valid = valid_at t.mapped t.map

    driven : List Float → S
    driven = chunk_as_float (combine_new new combine) empty

    by : (b : Bool) → (b ≡ false → NoneMissing (length t.readings) valid)
        → cond b (driven (non_null_values (array_of rust t))) (driven t.readings)
        ≡ in_chunks new combine empty (valid_from valid 0 t.readings)
    by true m =
        source-in-chunks new combine empty (non_null_values (array_of rust t))
        ∙ ap (in_chunks new combine empty) (values_of valid t.readings (array_of rust t).validity (validity_of rust t e))
    by false m =
        source-in-chunks new combine empty t.readings
        ∙ ap (in_chunks new combine empty) (sym (no_nulls valid t.readings (m refl)))

-- ---- two arrays
-- a trace that neither number fits is accepted
accepted : (t : Trace) → too_many (length t.readings) ≡ false → wrong_map (length t.readings) t.mapped t.map ≡ false
    → trace_refusal t ≡ 0
unfolding refusal ◌or_else◌
accepted t m w = rw (m, w)

-- of an accepted pair each is accepted
pair_accepted : (x y : Trace) → paired_refusal x y ≡ 0 → (trace_refusal x ≡ 0) × (trace_refusal y ≡ 0)
pair_accepted x y e =
    let a = none_of _ _ e in
    let b = none_of _ _ a.0 in
    let many = neither _ _ (not_refused_lem 1 _ (lit≤ tt) b.0) in
    let maps = neither _ _ (not_refused_lem 3 _ (lit≤ tt) a.1) in
    (accepted x many.0 maps.0, accepted y many.1 maps.1)

pairs_kept_lem : (rust : Rust) (x y : Trace) → trace_refusal x ≡ 0 → trace_refusal y ≡ 0
    → filter_map both_some (zip (options_of (array_of rust x)) (options_of (array_of rust y))) ≡ pairs_of x y
unfolding both_at
pairs_kept_lem rust x y e g =
    let v = valid_at x.mapped x.map in
    let w = valid_at y.mapped y.map in
    rw (
      options-of v x.readings (array_of rust x).validity (validity_of rust x e),
      options-of w y.readings (array_of rust y).validity (validity_of rust y g),
    )
    (pairs_from v w 0 x.readings y.readings)

pairs_all : (x y : Trace) → length x.readings ≡ length y.readings
    → NoneMissing (length x.readings) (valid_at x.mapped x.map) → NoneMissing (length y.readings) (valid_at y.mapped y.map)
    → pairs_of x y ≡ zip x.readings y.readings
unfolding both_at
pairs_all x y l m n =
    let z = length-zip x.readings y.readings l in
    no_nulls (both_at x.mapped x.map y.mapped y.map) (zip x.readings y.readings)
    (λ i h. rw (m i (omega arith), n i (omega arith)))

-- of any state
pub pair_arrays_lem : {S : Type 0} (empty : S) (new : List Float → List Float → S) {new' : List (Float × Float) → S} {combine combine' : S → S → S}
    → ((ps : List (Float × Float)) → of_pairs new ps ≡ new' ps) → combine ≡ combine' → (rust : Rust) (x y : Trace) → paired_refusal x y ≡ 0
    → pair_arrays new combine empty (array_of rust x) (array_of rust y) ≡ in_chunks new' combine' empty (pairs_of x y)
unfolding pair_arrays
pair_arrays_lem {S} empty new {new'} {combine} {combine'} n c rust x y e =
    by (has_nulls (array_of rust x) || has_nulls (array_of rust y)) (neither (has_nulls (array_of rust x)) (has_nulls (array_of rust y)))
    (pair_accepted x y e)
    ∙ chunks_same (of_pairs new) new' combine combine' empty n c (pairs_of x y)
  where
    driven : List (Float × Float) → S
    driven = chunk_as_float_binary (combine_new_binary new combine) empty

    by : (b : Bool) → (b ≡ false → (has_nulls (array_of rust x) ≡ false) × (has_nulls (array_of rust y) ≡ false))
        → (trace_refusal x ≡ 0) × (trace_refusal y ≡ 0)
        → cond b (driven (filter_map both_some (zip (options_of (array_of rust x)) (options_of (array_of rust y)))))
        (driven (zip x.readings y.readings))
        ≡ in_chunks (of_pairs new) combine empty (pairs_of x y)
    by true f a = source-in-pairs new combine empty _ ∙ ap (in_chunks (of_pairs new) combine empty) (pairs_kept_lem rust x y a.0 a.1)
    by false f a =
        let n = f refl in
        let l = pair_fits (length x.readings) x.mapped x.map (length y.readings) y.mapped y.map (paired_refusal x y) refl e in
        source-in-pairs new combine empty _
        ∙ ap (in_chunks (of_pairs new) combine empty)
        (sym (pairs_all x y l ((has_nulls_lem rust x a.0).0 n.0) ((has_nulls_lem rust y a.1).0 n.1)))

-- ---- ranges
-- a range inside the trace
part_is_lem : (rust : Rust) (values : List Float) (start len : ℕ) → start + len ≤ length values
    → range_of rust values start len ≡ take len (drop start values)
part_is_lem rust values start len h =
    let n : len ≤ length (drop start values) = simp length-drop (omega arith) in
    ap (λ (l : List Float). rust.part l 0 len)
    (rust.part_is values start (length values) (omega arith) (omega arith) ∙ ap (drop start) (take-length values))
    ∙ rust.part_is (drop start values) 0 len (omega arith) n

module _ {S : Type 0} (from_iter : List Float → ℕ → S) (rust : Rust) (valid : ℕ → Bool) where
  -- `set_bits` counts the valid ones
  set-bits : (p : ℕ) (xs : List Float) → set_bits rust (span valid (length xs) p) ≡ length (valid_from valid p xs)
  set-bits p xs =
      let c = count_from_lem valid p xs in
      let l = span_length valid (length xs) p in
      let h : unset_bits (span valid (length xs) p) ≤ length (span valid (length xs) p) = omega arith in
      rust.minus_is (length (span valid (length xs) p)) (unset_bits (span valid (length xs) p)) h ∙ omega arith

  -- the values xs of a range that starts at place p, by the bits of its places
  by_bits : (p : ℕ) (xs : List Float)
      → from_range from_iter rust xs (with_unset (some (span valid (length xs) p)))
      ≡ from_iter (valid_from valid p xs) (length (valid_from valid p xs))
  by_bits p xs = go (ltb 0 (unset_bits bits)) (λ e. ltb-false 0 (unset_bits bits) e)
    where
      bits : List Bool
      bits = span valid (length xs) p

      go : (b : Bool) → (b ≡ false → unset_bits bits ≤ 0)
          → from_range from_iter rust xs (cond b (some bits) none) ≡ from_iter (valid_from valid p xs) (length (valid_from valid p xs))
      go true f = rw (kept_from valid p xs, set-bits p xs)
      go false f =
          let z : unset_bits bits ≡ 0 = (let h = f refl in omega arith) in
          ap (λ (l : List Float). from_iter l (length l)) (sym (none_missing_lem valid p xs (unset_none valid (length xs) p z)))

  by-validity : (start len : ℕ) (values : List Float) (o : Option (List Bool)) → ValidityOf valid (length values) o
      → start + len ≤ length values
      → from_range from_iter rust (take len (drop start values)) (with_unset (Option.map (sliced start len) o))
      ≡ from_iter (valid_from valid start (take len (drop start values))) (length (valid_from valid start (take len (drop start values))))
  by-validity start len values none (unlent all) h =
      ap (λ (l : List Float). from_iter l (length l)) (sym (none_missing_lem valid start (take len (drop start values)) (λ i k l. all i)))
  by-validity start len values (some bits) (lent q) h =
      let n : len ≤ length (drop start values) = simp length-drop (omega arith) in
      let m : length (take len (drop start values)) ≡ len = length-take-le len (drop start values) n in
      let b : sliced start len bits ≡ span valid (length (take len (drop start values))) start =
      ap (sliced start len) q ∙ span_part valid (length values) start len h ∙ ap (λ (k : ℕ). span valid k start) (sym m) in
      ap (λ (l : List Bool). from_range from_iter rust (take len (drop start values)) (with_unset (some l))) b
      ∙ by_bits start (take len (drop start values))

-- of any state
pub range_array : {S : Type 0} (from_iter : List Float → ℕ → S) {new : List Float → S}
    → ((l : List Float) → from_iter l (length l) ≡ new l) → (rust : Rust) (t : Trace) (start len : ℕ)
    → range_refusal (length t.readings) t.mapped t.map start len ≡ 0
    → from_array from_iter rust (array_of rust t) start len ≡ new (readings_in t start len)
unfolding from_array
range_array from_iter n rust t start len e =
    let h = range_fits_lem (length t.readings) t.mapped t.map start len _ refl e in
    let v = validity_of rust t (none_of _ _ e).0 in
    let o = with_unset (Option.map (sliced start len) (array_of rust t).validity) in
    ap (λ (l : List Float). from_range from_iter rust l o) (part_is_lem rust t.readings start len h)
    ∙ by-validity from_iter rust (valid_at t.mapped t.map) start len t.readings (array_of rust t).validity v h
    ∙ n (readings_in t start len)
