-- What a move does to a window and its stacks, for any moment: places leave, by a reset, by fewer states on the front stack or by a
-- flip; then places enter on the back stack. Assumes nothing.
use Prim.Native.Nat.{ℕ, zero, suc, ◌+◌, ◌-◌, ◌*◌, ◌≤◌, ◌<◌, max}
use mathlib.Core.Path.{◌≡◌, refl, sym, ap, ◌∙◌, subst}
use mathlib.Core.Bool.{Bool, true, false, cond}
use mathlib.Core.List.{List, [], ◌∷◌, ◌++◌, append_assoc, append-nil, foldl-append}
use native.Mathlib.Nat.{mul-zero, mul-add, add_assoc, mul-le-mul_left, le_trans}
use native.Mathlib.Omega.{arith}
use borrow.Author.Tests.{le-leb, lt-leb, leb-false, lt-ltb, le-ltb, ltb-true, ltb-false, eq-eqb, ne_eqb}
use borrow.Rule.Slice.PartMut.{put_mid}
use lib.Dec.{leb, ltb, eqb}
use lib.ListN.{length, take, drop, length-append, length-drop, length-take, drop_of_length-le, take-append-drop}
use lib.Seq.{take_all, take-add, drop-drop, drop-append-add, take-take, take-append-le, take_at, drop_at}
use Rattle.float.proofs.Cases.{apart, Or, here, there, order}
use Rattle.window.specs.Places.{Places, Series, entries, valid_count, nonfinite_count}
use Rattle.window.specs.Window.{Account, restarted, trimmed, front, back, rising}
use Rattle.window.specs.Code.Memory.{Stored, in_memory}
use Rattle.window.specs.Code.Stacks.{front_stack, empty_at, grown, account, Counted, Trims, Held, Appended}
use Rattle.window.specs.declared.Window.{Window}
use Rattle.window.proofs.Places.{entries-self, entries-split, many-chosen, split-end, split-law, two-counts, stay-front, stay-back, flip-front, count-le, count-up, none-part}
use Rattle.window.proofs.Stacks.{memory-length, memory-append, front_length, front-drop}

-- ---- places leave: the numbers
module _ (t : Places) (w : Window) (s : ℕ) where
  abbrev valid : ℕ → Bool
  valid = t.valid

  abbrev bad : ℕ → Bool
  bad = t.nonfinite

  abbrev at : ℕ → ℕ
  at i = i

  pub trim-reset : w.end ≤ s → Trims t w s (empty_at s) false
  trim-reset h =
      let m : max s s ≡ s = omega arith in
      record {
        to = rw (le-leb w.end s h, split-end valid at);
        numbers = record {
          start_le = omega arith;
          split_le = omega arith;
          front_is = rw (entries-self valid at);
          back_is = rw (m, entries-self valid at);
          nonfinite_is = rw (entries-self bad at);
        };
        flips_is = rw (le-leb w.end s h);
      }

  module _ (c : Counted t w) (h : w.start ≤ s) (g : s < w.end) where
    -- a window that holds only what is finite loses nothing else
    pub trim-none : w.nonfinite ≡ 0 → nonfinite_count t w.start s ≡ 0
    trim-none z = none-part bad at w.start s w.end h (omega arith) (sym c.nonfinite_is ∙ z)

    -- by the numbers n and m of places that leave, valid and not finite
    module _ (n m : ℕ) (n-is : n ≡ valid_count t w.start s) (m-is : m ≡ nonfinite_count t w.start s) where
      pub trim-fits : (n ≤ w.front + w.back) × (m ≤ w.nonfinite) × (w.front + w.back ≤ w.end)
      trim-fits =
          let f = c.front_is in
          let k = c.back_is in
          let e = c.nonfinite_is in
          let u = two-counts valid at w.start w.split w.end c.start_le c.split_le in
          let p = count-up valid at w.start s w.end h (omega arith) in
          let q = count-up bad at w.start s w.end h (omega arith) in
          let o = count-le valid at w.start w.end in
          (omega arith, omega arith, omega arith)

      nonfinite-left : w.nonfinite - m ≡ nonfinite_count t s w.end
      nonfinite-left =
          let e = c.nonfinite_is in
          let k = simp length-append at (ap length (entries-split bad at w.start s w.end h (omega arith))) in
          omega arith

      pub trim-stay : n ≤ w.front →
          Trims t w s (record { start = s; end = w.end; split = w.split; front = w.front - n; back = w.back; nonfinite = w.nonfinite - m }) false
      trim-stay o =
          let l : s ≤ w.end = omega arith in
          let f = c.front_is in
          let o' : valid_count t w.start s ≤ valid_count t w.start w.split = omega arith in
          let o'' : valid_count t w.start s ≤ w.front = omega arith in
          let sp = (split-law valid at (s - w.start) w.start w.end w.split).0 o' in
          record {
            to = rw (lt-leb w.end s g, sp);
            numbers = record {
              start_le = l;
              split_le = c.split_le;
              front_is = rw (n-is, stay-front valid at w.start w.end w.split s h l c.split_le o', length-drop, c.front_is);
              back_is = rw (stay-back valid at w.start w.end w.split s h l c.split_le o') c.back_is;
              nonfinite_is = nonfinite-left;
            };
            flips_is = rw (lt-leb w.end s g, le-ltb w.front (valid_count t w.start s) o'');
          }

      pub trim-flip : w.front < n →
          Trims t w s (record { start = s; end = w.end; split = w.end; front = w.front + w.back - n; back = 0; nonfinite = w.nonfinite - m }) true
      trim-flip o =
          let l : s ≤ w.end = omega arith in
          let f = c.front_is in
          let k = c.back_is in
          let o' : valid_count t w.start w.split < valid_count t w.start s = omega arith in
          let o'' : w.front < valid_count t w.start s = omega arith in
          let sp = (split-law valid at (s - w.start) w.start w.end w.split).1 o' in
          let m : max s w.end ≡ w.end = omega arith in
          record {
            to = rw (lt-leb w.end s g, sp);
            numbers = record {
              start_le = l;
              split_le = omega arith;
              front_is = rw (flip-front valid at w.start w.end w.split s h l c.split_le o', length-drop) (omega arith);
              back_is = rw (m, entries-self valid at);
              nonfinite_is = nonfinite-left;
            };
            flips_is = rw (lt-leb w.end s g, lt-ltb w.front (valid_count t w.start s) o'');
          }

-- the entries of a window's two parts are as many as it counts
module _ {A : Type 0} (t : Series A) (w : Window) (c : Counted t.places w) where
  pub front-many : w.front ≡ length (front t (account w))
  front-many = c.front_is ∙ sym (many-chosen t.places.valid t.entry w.start w.split)

  pub back-many : w.back ≡ length (back t (account w))
  back-many = c.back_is ∙ sym (many-chosen t.places.valid t.entry (max w.start w.split) w.end)

-- ---- places leave: the stacks
module _ {C A : Type 0} (M : Stored C A) where
  -- the states of a front stack under anything, when some of its entries are gone
  fewer : (l : List A) (rest : List C) (k : ℕ) →
      take (M.in_front.width * length (drop k l)) (in_memory M.in_front (front_stack M.moment l) ++ rest) ≡ in_memory M.in_front (front_stack M.moment (drop k l))
  fewer l rest k =
      let e : length (drop k l) ≤ length l = rw length-drop (omega arith) in
      let n : M.in_front.width * length (drop k l) ≤ length (in_memory M.in_front (front_stack M.moment l)) =
      rw (front_length M) (mul-le-mul_left M.in_front.width e) in
      rw take-append-le (front-drop M k l)

  -- the state that is kept with n entries in the back stack
  unfoldable kept_of : M.moment.State → ℕ → M.moment.State
  kept_of agg n = cond (eqb n 0) M.moment.empty agg

  kept-none : (agg : M.moment.State) (n : ℕ) → n ≡ 0 → kept_of agg n ≡ M.moment.empty
  unfolding kept_of
  kept-none agg n e = rw (eq-eqb n 0 e)

  kept-some : (agg : M.moment.State) (n : ℕ) (l : List A) → n ≡ length l → agg ≡ rising M.moment M.moment.empty l → kept_of agg n ≡ rising M.moment M.moment.empty l
  unfolding kept_of
  kept-some agg zero [] e f = refl
  kept-some agg zero (x ∷ l) e f = absurd (omega arith)
  kept-some agg (suc n) l e f = rw (ne_eqb (suc n) 0 (λ z. omega arith)) f

  kept_more : (agg : M.moment.State) (n : ℕ) → (n ≡ 0 → ⊥) → agg ≡ kept_of agg n
  unfolding kept_of
  kept_more agg n h = rw (ne_eqb n 0 h)

  module _ (t : Series A) (base s : ℕ) (w w' : Window) (flips : Bool) (agg : M.moment.State) (work : List C)
      (held : Held M t base w agg work) (gone : Trims t.places w s w' flips) (h : w.start ≤ s) where
    abbrev F : List A
    F = front t (account w)

    abbrev B : List A
    B = back t (account w)

    -- how many entries leave
    abbrev Out : ℕ
    Out = length (entries t.places.valid t.entry w.start s)

    out-is : valid_count t.places w.start s ≡ Out
    out-is = sym (many-chosen t.places.valid t.entry w.start s)

    -- where nothing is left in the back part
    bare : (work' : List C) → back t (account w') ≡ [] →
        take (M.in_front.width * length (front t (account w'))) work' ≡ in_memory M.in_front (front_stack M.moment (front t (account w'))) →
        (agg' : M.moment.State) → agg' ≡ M.moment.empty → Held M t base w' agg' work'
    unfolding in_memory
    bare work' e f agg' a =
        let d = gone.numbers in
        let z : w'.back ≡ 0 = back-many t w' d ∙ ap length e in
        record { numbers = d; agg_is = a ∙ rw e; front_at = rw (front-many t w' d) f; back_at = rw (z, e, mul-zero) }

    -- the front stack at the beginning of the work slice
    front-first : work ≡ in_memory M.in_front (front_stack M.moment F) ++ drop (M.in_front.width * w.front) work
    front-first =
        sym (take-append-drop (M.in_front.width * w.front) work)
        ∙ ap (λ (y : List C). y ++ drop (M.in_front.width * w.front) work) held.front_at

    no-flip : leb w.end s ≡ false → flips ≡ ltb w.front (Out)
    no-flip q = gone.flips_is ∙ rw (q, out-is)

    out-reset : leb w.end s ≡ true → Held M t base w' (kept_of agg w'.back) work
    unfolding in_memory front_stack
    out-reset q =
        let m : max s s ≡ s = omega arith in
        let e : account w' ≡ record { start = s; end = s; split = s } = gone.to ∙ rw (q, split-end t.places.valid t.entry) in
        let f : front t (account w') ≡ [] = ap (front t) e ∙ entries-self t.places.valid t.entry s in
        let b : back t (account w') ≡ [] = ap (back t) e ∙ rw (m, entries-self t.places.valid t.entry) in
        bare work b (rw (f, mul-zero)) (kept_of agg w'.back) (kept-none agg w'.back (back-many t w' gone.numbers ∙ ap length b))

    out-stay : leb w.end s ≡ false → Out ≤ length F → Held M t base w' (kept_of agg w'.back) work
    out-stay q o =
        let c = held.numbers in
        let d = gone.numbers in
        let g = leb-false w.end s q in
        let k : s ≤ w.end = omega arith in
        let e : account w' ≡ record { start = s; end = w.end; split = w.split } =
        gone.to ∙ rw (q, (split-law t.places.valid t.entry (s - w.start) w.start w.end w.split).0 o) in
        let f : front t (account w') ≡ drop (Out) F =
        ap (front t) e ∙ stay-front t.places.valid t.entry w.start w.end w.split s h k c.split_le o in
        let b : back t (account w') ≡ B = ap (back t) e ∙ stay-back t.places.valid t.entry w.start w.end w.split s h k c.split_le o in
        let n : w'.back ≡ w.back = back-many t w' d ∙ ap length b ∙ sym (back-many t w c) in
        record {
          numbers = d;
          agg_is = kept-some agg w'.back (back t (account w')) (back-many t w' d) (rw b held.agg_is);
          front_at = ap (take (M.in_front.width * w'.front)) front-first
              ∙ rw (front-many t w' d, f) (fewer F (drop (M.in_front.width * w.front) work) (Out));
          back_at = rw (n, b) held.back_at;
        }

    unflipped : flips ≡ false → Held M t base w' (kept_of agg w'.back) work
    unflipped z = go (leb w.end s) refl
      where
        go : (q : Bool) → leb w.end s ≡ q → Held M t base w' (kept_of agg w'.back) work
        go true q = out-reset q
        go false q =
            let f = front-many t w held.numbers in
            let o = ltb-false w.front (Out) (sym (no-flip q) ∙ z) in
            out-stay q (omega arith)

    -- ---- what the code leaves, by its three ends
    pub out-emptied : flips ≡ false → w'.back ≡ 0 → (agg' : M.moment.State) → agg' ≡ M.moment.empty → Held M t base w' agg' work
    out-emptied z n agg' a = rw (a ∙ sym (kept-none agg w'.back n)) (unflipped z)

    pub out-kept : flips ≡ false → (w'.back ≡ 0 → ⊥) → Held M t base w' agg work
    out-kept z n = subst (λ (y : M.moment.State). Held M t base w' y work) (sym (kept_more agg w'.back n)) (unflipped z)

    -- a flip puts the split at the end
    flip_to : flips ≡ true → (s ≤ w.end) × (length F < Out) × (account w' ≡ record { start = s; end = w.end; split = w.end })
    flip_to z = go (leb w.end s) refl
      where
        go : (q : Bool) → leb w.end s ≡ q → (s ≤ w.end) × (length F < Out) × (account w' ≡ record { start = s; end = w.end; split = w.end })
        go true q = apart (sym (gone.flips_is ∙ rw q) ∙ z)
        go false q =
            let o = ltb-true w.front (Out) (sym (no-flip q) ∙ z) in
            let g = leb-false w.end s q in
            let i = front-many t w held.numbers in
            let o' : length F < Out = omega arith in
            (omega arith, o', gone.to ∙ rw (q, (split-law t.places.valid t.entry (s - w.start) w.start w.end w.split).1 o'))

    flip_bare : flips ≡ true → back t (account w') ≡ []
    flip_bare z =
        let e = flip_to z in
        let k = e.0 in
        let m : max s w.end ≡ w.end = omega arith in
        ap (back t) e.2 ∙ rw (m, entries-self t.places.valid t.entry)

    -- and leaves nothing behind it
    pub flip-empties : flips ≡ true → w'.back ≡ 0
    flip-empties z = back-many t w' gone.numbers ∙ ap length (flip_bare z)

    module _ (room : M.in_front.width * w.back ≤ base) (fits : base + M.in_back.width * w.back ≤ length work) (z : flips ≡ true)
        (work' : List C) (flipped : work' ≡ in_memory M.in_front (front_stack M.moment B) ++ drop (M.in_front.width * w.back) work) where
      -- what lies from base on is as it was
      out-rest : drop base work' ≡ drop base work
      out-rest =
          let k = back-many t w held.numbers in
          let q : length (in_memory M.in_front (front_stack M.moment B)) ≡ M.in_front.width * w.back = front_length M B ∙ rw (← k) in
          let u : base ≡ length (in_memory M.in_front (front_stack M.moment B)) + (base - M.in_front.width * w.back) = omega arith in
          let v : M.in_front.width * w.back + (base - M.in_front.width * w.back) ≡ base = omega arith in
          ap (drop base) flipped
          ∙ ap (λ (i : ℕ). drop i (in_memory M.in_front (front_stack M.moment B) ++ drop (M.in_front.width * w.back) work)) u
          ∙ rw (drop-append-add, drop-drop, v)

      pub out-flipped : (agg' : M.moment.State) → agg' ≡ M.moment.empty → Held M t base w' agg' work' × (drop base work' ≡ drop base work)
      out-flipped agg' a =
          let e = flip_to z in
          let f : front t (account w') ≡ drop (Out - length F) B =
          ap (front t) e.2 ∙ flip-front t.places.valid t.entry w.start w.end w.split s h e.0 held.numbers.split_le e.1 in (
            bare work' (flip_bare z) (rw (f, flipped) (fewer B (drop (M.in_front.width * w.back) work) (Out - length F))) agg' a,
            out-rest,
          )

-- ---- places enter
-- a part that begins at base, when it is back
put_append : {C : Type 0} (l R : List C) (base n : ℕ) (ys : List C) → base ≤ length l →
    ys ≡ take n (take (length l - base) (drop base l)) ++ R ++ drop (n + length R) (take (length l - base) (drop base l)) →
    put_mid base (length l - base) l ys ≡ take (base + n) l ++ R ++ drop (base + n + length R) l
put_append l R base n ys h e =
    let p : length (drop base l) ≤ length l - base = rw length-drop (omega arith) in
    let a : take (length l - base) (drop base l) ≡ drop base l = take_all (length l - base) (drop base l) p in
    let d : drop (length l - base) (drop base l) ≡ [] = drop_of_length-le (drop base l) p in
    rw (e, a, d, append-nil, take-add base n l, drop-drop (n + length R) base l, ← add_assoc base n (length R)) (simp append_assoc)

module _ {C A : Type 0} (M : Stored C A) (t : Series A) (base e : ℕ) (w : Window) (agg : M.moment.State) (work : List C)
    (held : Held M t base w agg work) (h : w.end ≤ e) where
  abbrev R : List A
  R = entries t.places.valid t.entry w.end e

  abbrev Old : List C
  Old = in_memory M.in_back (back t (account w))

  abbrev New : List C
  New = in_memory M.in_back R

  back-grows : entries t.places.valid t.entry (max w.start w.split) e ≡ back t (account w) ++ R
  back-grows =
      let s = held.numbers.start_le in
      let p = held.numbers.split_le in
      entries-split t.places.valid t.entry (max w.start w.split) w.end e (omega arith) h

  -- as many entries enter as places are valid
  enters : length R ≡ valid_count t.places w.end e
  enters = many-chosen t.places.valid t.entry w.end e

  -- neither stack holds more than the window is wide
  in-counts : (w.back + length R ≤ e - w.start) × (w.front ≤ w.end - w.start) × (w.nonfinite ≤ w.end)
  in-counts =
      let c = held.numbers in
      let s = c.start_le in
      let p = c.split_le in
      let f = front-many t w c in
      let k = back-many t w c in
      let g = simp length-append at (ap length back-grows) in
      let i = two-counts t.places.valid t.entry w.start w.split e (omega arith) (omega arith) in
      let u = two-counts t.places.valid t.entry w.start w.split w.end s p in
      let n = count-le t.places.valid t.entry w.start e in
      let o = count-le t.places.valid t.entry w.start w.end in
      let x = c.nonfinite_is in
      let y = count-le t.places.nonfinite (λ j. j) w.start w.end in
      (omega arith, omega arith, omega arith)

  module _ (room : M.in_front.width * w.front ≤ base) (fits : base + M.in_back.width * w.back + length New ≤ length work) where
    abbrev Grown : List C
    Grown = take (base + M.in_back.width * w.back) work ++ New ++ drop (base + M.in_back.width * w.back + length New) work

    parts : Grown ≡ take base work ++ (Old ++ (New ++ drop (base + M.in_back.width * w.back + length New) work))
    parts = rw (take-add, held.back_at) (simp append_assoc)

    base-is : length (take base work) ≡ base
    base-is = rw length-take (omega arith)

    new-back : drop base Grown ≡ Old ++ (New ++ drop (base + M.in_back.width * w.back + length New) work)
    new-back =
        ap (drop base) parts
        ∙ drop_at (take base work) (Old ++ (New ++ drop (base + M.in_back.width * w.back + length New) work)) base base-is

    -- what lies past the back stack is as it was
    in_rest : (d : ℕ) → base + M.in_back.width * w.back + length New ≤ d → drop d Grown ≡ drop d work
    in_rest d g =
        let p : length (take (base + M.in_back.width * w.back) work ++ New) ≡ base + M.in_back.width * w.back + length New =
        rw (length-append, length-take) (omega arith) in
        let i : d ≡ length (take (base + M.in_back.width * w.back) work ++ New) + (d - (base + M.in_back.width * w.back + length New)) = omega arith in
        let u : base + M.in_back.width * w.back + length New + (d - (base + M.in_back.width * w.back + length New)) ≡ d = omega arith in
        ap (λ (z : ℕ). drop z Grown) i ∙ rw (drop-append-add, drop-drop, u)

    held_in : (n m : ℕ) → n ≡ w.back + length R → m ≡ w.nonfinite + nonfinite_count t.places w.end e →
        Held M t base (grown w e n m) (rising M.moment agg R) Grown
    held_in n m hn hm =
        let c = held.numbers in
        let s = c.start_le in
        let p = c.split_le in
        let k : n ≡ length (back t (account w) ++ R) = rw (length-append, hn) (ap (λ (z : ℕ). z + length R) (back-many t w c)) in
        let q : M.in_front.width * w.front ≤ length (take base work) = rw base-is room in
        let o : length (Old ++ New) ≡ M.in_back.width * n =
        ap length (sym (memory-append M.in_back (back t (account w)) R)) ∙ memory-length M.in_back (back t (account w) ++ R) ∙ rw k in
        record {
          numbers = record {
            start_le = omega arith;
            split_le = omega arith;
            front_is = c.front_is;
            back_is = k ∙ sym (ap length back-grows) ∙ many-chosen t.places.valid t.entry (max w.start w.split) e;
            nonfinite_is = rw (hm, entries-split t.places.nonfinite (λ j. j) w.start w.end e s h, length-append) (ap (λ (z : ℕ). z + nonfinite_count t.places w.end e) c.nonfinite_is);
          };
          agg_is = rw (back-grows, foldl-append) (ap (λ (z : M.moment.State). rising M.moment z R) held.agg_is);
          front_at = ap (take (M.in_front.width * w.front)) parts
              ∙ take-append-le (M.in_front.width * w.front) (take base work) (Old ++ (New ++ drop (base + M.in_back.width * w.back + length New) work)) q
              ∙ take-take (M.in_front.width * w.front) base work room ∙ held.front_at;
          back_at = ap (take (M.in_back.width * n)) new-back
              ∙ rw (← append_assoc, back-grows, memory-append) (take_at (Old ++ New) (drop (base + M.in_back.width * w.back + length New) work) (M.in_back.width * n) o);
        }

  module _ (widest : ℕ) (a : e ≤ w.start + widest) (c : M.in_front.width * widest ≤ base) (d : base + M.in_back.width * widest ≤ length work) where
    -- what enters is within the back stack's room, and no more is not finite than places lie before the end
    pub in-fits : (M.in_back.width * (w.back + valid_count t.places w.end e) ≤ length (take (length work - base) (drop base work))) × (w.nonfinite ≤ w.end)
    in-fits =
        let i = in-counts in
        let o : w.back + length R ≤ widest = omega arith in
        let p = mul-le-mul_left M.in_back.width o in
        (rw (length-take, length-drop, ← enters) (omega arith), i.2)

    -- what the code leaves: the part ys that it was lent, put back, and what it answered
    pub in_appended : (ys : List C) (n m : ℕ) (state : M.moment.State) →
        Appended M t (take (length work - base) (drop base work)) w.back w.nonfinite agg w.end e ys n m state →
        Held M t base (grown w e n m) state (put_mid base (length work - base) work ys)
        × (drop (base + M.in_back.width * widest) (put_mid base (length work - base) work ys) ≡ drop (base + M.in_back.width * widest) work)
    in_appended ys n m state p =
        let i = in-counts in
        let f : w.front ≤ widest = omega arith in
        let r : w.back + length R ≤ widest = omega arith in
        let o : M.in_front.width * w.front ≤ base = le_trans (mul-le-mul_left M.in_front.width f) c in
        let k = mul-le-mul_left M.in_back.width r in
        let x : M.in_back.width * (w.back + length R) ≡ M.in_back.width * w.back + length New = rw (memory-length M.in_back R) (mul-add M.in_back.width w.back (length R)) in
        let q : base + M.in_back.width * w.back + length New ≤ length work = omega arith in
        let u : base + M.in_back.width * w.back + length New ≤ base + M.in_back.width * widest = omega arith in
        let y = rw (sym (ap (λ (i : ℕ). M.in_back.width * (w.back + i)) enters) ∙ x) at p.list_is in
        let l : put_mid base (length work - base) work ys ≡ Grown o q = put_append work New base (M.in_back.width * w.back) ys (omega arith) y in
        rw (l, p.agg_is) (held_in o q n m (p.many_is ∙ ap (λ (i : ℕ). w.back + i) (sym enters)) p.nonfinite_is, in_rest o q (base + M.in_back.width * widest) u)

-- ---- a whole move
pub held_counts : {C A : Type 0} (M : Stored C A) (t : Series A) (base : ℕ) (w : Window) (agg : M.moment.State) (work : List C) → Held M t base w agg work →
    (w.front + w.back ≤ w.end - w.start) × (w.nonfinite ≤ w.end - w.start)
held_counts M t base w agg work held =
    let c = held.numbers in
    let f = c.front_is in
    let k = c.back_is in
    let x = c.nonfinite_is in
    let u = two-counts t.places.valid (λ j. j) w.start w.split w.end c.start_le c.split_le in
    let n = count-le t.places.valid (λ j. j) w.start w.end in
    let z = count-le t.places.nonfinite (λ j. j) w.start w.end in
    (omega arith, omega arith)

-- the ends of a window without the places that leave
pub trimmed_ends : (valid : ℕ → Bool) (w w' : Window) (s : ℕ) → account w' ≡ trimmed valid (restarted (account w) s) s →
    (w'.start ≡ s) × (w'.end ≤ max w.end s)
trimmed_ends valid w w' s e = (ap (λ (a : Account). a.start) e, rw (ap (λ (a : Account). a.end) e) (go (order w.end s)))
  where
    go : Or (w.end ≤ s) (s < w.end) → (restarted (account w) s).end ≤ max w.end s
    go (here l) = rw (le-leb w.end s l) (omega arith)
    go (there l) = rw (lt-leb w.end s l) (omega arith)

-- what lies past both stacks is as it was when each half of the move leaves it so
pub rest_both : {C : Type 0} (l₂ l₁ l₀ : List C) (base wide d : ℕ) → d ≡ base + wide → drop (base + wide) l₂ ≡ drop (base + wide) l₁ → drop base l₁ ≡ drop base l₀ →
    drop d l₂ ≡ drop d l₀
rest_both l₂ l₁ l₀ base wide d e f g = rw e (f ∙ sym (drop-drop wide base l₁) ∙ ap (drop wide) g ∙ drop-drop wide base l₀)
