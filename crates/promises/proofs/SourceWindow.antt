-- The source's window holds what the split account says: its front and back are the account's two parts, so a pop that finds the
-- front empty flips exactly where step 2 moves the split, and both `update` are one move. Assumes nothing.
use Prim.Native.Nat.{ℕ, zero, suc, ◌+◌, ◌-◌, ◌≤◌, ◌<◌, max}
use mathlib.Core.Path.{◌≡◌, refl, sym, ap, ◌∙◌, subst}
use mathlib.Core.Bool.{Bool, true, false, cond, not, ◌&&◌}
use mathlib.Core.List.{List, [], ◌∷◌, ◌++◌, foldl, foldl-append, reverse, reverse_aux, reverse-cons, append-nil}
use native.Mathlib.Nat.{add-zero}
use native.Mathlib.Numerals.{add-one}
use native.Mathlib.Omega.{arith}
use mir.Val.{bool_byte}
use lib.Dec.{leb}
use lib.ListN.{length, get_or}
use lib.Seq.{slice, slice_empty, slice-cons}
use lib.Ieee.{Float, nan}
use lib.Ieee.Scale.{finite}
use borrow.Author.Tests.{le-leb, lt-leb}
use Rattle.float.specs.Operators.{zero64}
use Rattle.float.proofs.Cases.{Or, here, there, order}
use Rattle.window.specs.Places.{entries, chosen_count}
use Rattle.window.specs.Window.{Account, split_after, Moment, rising, falling, moved}
use Rattle.window.specs.Window as paper
use Rattle.window.specs.Readings.{inserted_at}
use Rattle.window.proofs.Places.{entries-self, entries_none, entries-cons, entries-snoc, count-le, count-more}
use Rattle.promises.specs.Rust.{Rust, Bitmap}
use Rattle.promises.specs.SourceWindow.{turns, for_in, popped, flipped, MomentWindow, set_non_finite_count, set_null_count, set_start, set_end, new_impl, reset, pushed, push, flip, pop, restarted, update_no_nulls, pop_at, push_at, update_nulls}
use Rattle.promises.proofs.Accounts.{split_le}

-- the front `Vec` of a list of readings: on its top the state of them all
unfoldable pub tops : (M : Moment Float) → List Float → List M.State
tops M [] = []
tops M (x ∷ l) = M.insert (falling M l) x ∷ tops M l

flipped_is : (M : Moment Float) (b l : List Float) → flipped M.insert b (falling M l) (tops M l) ≡ tops M (reverse_aux b l)
unfolding flipped tops
flipped_is M [] l = refl
flipped_is M (x ∷ b) l = flipped_is M b (x ∷ l)

-- ---- one `update` for both
-- a loop whose body is the same on its places
turns_same : {A : Type 0} (f g : ℕ → A → A) (k i : ℕ) (w : A) → ((j : ℕ) (u : A) → i ≤ j → j < i + k → f j u ≡ g j u) → turns f k i w ≡ turns g k i w
unfolding turns
turns_same f g zero i w h = refl
turns_same f g (suc k) i w h = rw (h i w (omega arith) (omega arith)) (turns_same f g k (suc i) (g i w) (λ j u p q. h j u (omega arith) (omega arith)))

-- a loop over the values of a part is a loop over its places
part_turns : {A : Type 0} (f : A → Float → A) (xs : List Float) (k i : ℕ) (w : A) → i + k ≤ length xs
    → foldl f w (slice i (i + k) xs) ≡ turns (λ j u. f u (get_or xs j nan)) k i w
unfolding turns
part_turns f xs zero i w h = rw (add-zero, slice_empty i xs)
part_turns f xs (suc k) i w h =
    let z : i + suc k ≡ suc i + k = omega arith in
    rw (slice-cons i (i + suc k) xs nan (omega arith) h)
    (ap (λ (n : ℕ). foldl f (f w (get_or xs i nan)) (slice (suc i) n xs)) z ∙ part_turns f xs k (suc i) (f w (get_or xs i nan)) (omega arith))

-- ---- one place more or less of a count
module _ (u : ℕ → Bool) where
  less : (i e : ℕ) → i < e → (t : Bool) → u i ≡ t → chosen_count u i e ≡ bool_byte t + chosen_count u (suc i) e
  less i e h t q = ap length (entries-cons u (λ j. j) i e h) ∙ rw q (go t)
    where
      go : (t : Bool) → length (cond t (i ∷ entries u (λ j. j) (suc i) e) (entries u (λ j. j) (suc i) e)) ≡ bool_byte t + chosen_count u (suc i) e
      go true = omega arith
      go false = omega arith

  more : (i e : ℕ) → i ≤ e → (t : Bool) → u e ≡ t → chosen_count u i (suc e) ≡ chosen_count u i e + bool_byte t
  more i e h t q = ap (λ (z : ℕ). chosen_count u i z) (sym (add-one e)) ∙ count-more u (λ j. j) i e h t (sym q)

module _ (M : Moment Float) (rust : Rust) (v : ℕ → Bool) (xs : List Float) where
  pop_on : ℕ → MomentWindow M → MomentWindow M
  unfolding pop
  pop_on i w = cond (v i) (pop rust w (get_or xs i nan)) (set_null_count w (rust.minus w.null_count 1))

  push_on : ℕ → MomentWindow M → MomentWindow M
  unfolding push
  push_on i w = cond (v i) (push rust w (get_or xs i nan)) (set_null_count w (rust.plus w.null_count 1))

  -- `update` with the places that v calls valid
  pub update_on : MomentWindow M → ℕ → ℕ → MomentWindow M
  unfolding turns pop_on push_on
  update_on w s e =
      let w₁ = restarted w s in
      let w₂ = for_in w₁.start s pop_on w₁ in
      let w₃ = for_in w₂.end e push_on w₂ in
      set_end (set_start w₃ s) e

  -- the bodies of 002's loops, where every place is valid
  pop-all : ((i : ℕ) → v i ≡ true) → (i : ℕ) (w : MomentWindow M) → pop rust w (get_or xs i nan) ≡ pop_on i w
  unfolding pop_on
  pop-all all i w = rw (all i)

  push-all : ((i : ℕ) → v i ≡ true) → (i : ℕ) (w : MomentWindow M) → push rust w (get_or xs i nan) ≡ push_on i w
  unfolding push_on
  push-all all i w = rw (all i)

  -- the bodies of 003's loops, where the map's bits are v's
  abbrev Bits : Bitmap → Type 0
  Bits map = (i : ℕ) → i < length xs → rust.bit map i ≡ v i

  pop-bits : (map : Bitmap) → Bits map → (i : ℕ) (w : MomentWindow M) → i < length xs → pop_at rust map xs i w ≡ pop_on i w
  unfolding pop_at pop_on
  pop-bits map bits i w p = rw (bits i p, rust.get_is xs i p)

  push-bits : (map : Bitmap) → Bits map → (i : ℕ) (w : MomentWindow M) → i < length xs → push_at rust map xs i w ≡ push_on i w
  unfolding push_at push_on
  push-bits map bits i w p = rw (bits i p, rust.get_is xs i p)

  abbrev r : ℕ → Float
  r = inserted_at xs

  -- a valid reading that is not finite; a missing place
  abbrev b : ℕ → Bool
  b i = v i && not (finite (get_or xs i nan))

  abbrev nv : ℕ → Bool
  nv i = not (v i)

  -- the window w, whose own start and end are st and en, holds the places from i up to e, split at p
  pub record Holds (st en i e p : ℕ) (w : MomentWindow M) : Type 0 where
    pub start_is : w.start ≡ st
    pub end_is : w.end ≡ en
    pub front_is : w.front ≡ tops M (entries v r i p)
    pub back_is : reverse w.back ≡ entries v r (max i p) e
    pub agg_is : w.agg_back ≡ rising M M.empty (entries v r (max i p) e)
    pub nonfinite_is : w.non_finite_count ≡ chosen_count b i e
    pub nulls-is : w.null_count ≡ chosen_count nv i e

  -- ---- a place leaves
  module _ (st en i e p : ℕ) (w : MomentWindow M) (held : Holds st en i e p w) (h : i < e) (k : p ≤ e) where
    nonfinite-less : v i ≡ true → rust.minus w.non_finite_count (bool_byte (not (finite (get_or xs i nan)))) ≡ chosen_count b (suc i) e
    nonfinite-less q =
        let f = held.nonfinite_is in
        let g = less b i e h (not (finite (get_or xs i nan))) (rw q) in
        rust.minus_is w.non_finite_count (bool_byte (not (finite (get_or xs i nan)))) (omega arith) ∙ omega arith

    null-less : v i ≡ true → w.null_count ≡ chosen_count nv (suc i) e
    null-less q = let f = held.nulls-is in let g = less nv i e h false (rw q) in omega arith

    -- the front has a state to pop
    pop-keep : v i ≡ true → i < p → Holds st en (suc i) e p (pop rust w (get_or xs i nan))
    unfolding pop tops
    pop-keep q l =
        let c : entries v r i p ≡ r i ∷ entries v r (suc i) p = entries-cons v r i p l ∙ rw q in
        let f : w.front ≡ M.insert (falling M (entries v r (suc i) p)) (r i) ∷ tops M (entries v r (suc i) p) = held.front_is ∙ rw c in
        let m : max (suc i) p ≡ max i p = omega arith in
        rw f record {
          start_is = held.start_is;
          end_is = held.end_is;
          front_is = refl;
          back_is = rw m held.back_is;
          agg_is = rw m held.agg_is;
          nonfinite_is = nonfinite-less q;
          nulls-is = null-less q;
        }

    -- the front is empty: the back goes to the front first, and the split becomes the end
    pop-flip : v i ≡ true → p ≤ i → Holds st en (suc i) e e (pop rust w (get_or xs i nan))
    unfolding pop flip tops
    pop-flip q l =
        let f : w.front ≡ [] = held.front_is ∙ rw (entries_none v r i p l) in
        let o : max i p ≡ i = omega arith in
        let m : max (suc i) e ≡ e = omega arith in
        let c : reverse w.back ≡ r i ∷ entries v r (suc i) e = held.back_is ∙ rw (o, entries-cons v r i e h, q) in
        let g : flipped M.insert w.back M.empty [] ≡ M.insert (falling M (entries v r (suc i) e)) (r i) ∷ tops M (entries v r (suc i) e) =
        flipped_is M w.back [] ∙ ap (tops M) c in
        rw f record {
          start_is = held.start_is;
          end_is = held.end_is;
          front_is = ap popped g;
          back_is = rw (m, entries-self v r);
          agg_is = rw (m, entries-self v r);
          nonfinite_is = nonfinite-less q;
          nulls-is = null-less q;
        }

    skip : v i ≡ false → Holds st en (suc i) e p (set_null_count w (rust.minus w.null_count 1))
    skip q = go (order p i)
      where
        miss : (z : ℕ) → entries v r i z ≡ entries v r (suc i) z
        miss z = go' (order z i)
          where
            go' : Or (z ≤ i) (i < z) → entries v r i z ≡ entries v r (suc i) z
            go' (here l) = entries_none v r i z l ∙ sym (entries_none v r (suc i) z (omega arith))
            go' (there l) = entries-cons v r i z l ∙ rw q

        parts : entries v r (max i p) e ≡ entries v r (max (suc i) p) e → Holds st en (suc i) e p (set_null_count w (rust.minus w.null_count 1))
        parts m =
            let f = held.nonfinite_is in
            let g = less b i e h false (rw q) in
            let n = held.nulls-is in
            let o = less nv i e h true (rw q) in
            record {
              start_is = held.start_is;
              end_is = held.end_is;
              front_is = held.front_is ∙ rw (miss p);
              back_is = held.back_is ∙ m;
              agg_is = held.agg_is ∙ rw m;
              nonfinite_is = omega arith;
              nulls-is = rust.minus_is w.null_count 1 (omega arith) ∙ omega arith;
            }

        go : Or (p ≤ i) (i < p) → Holds st en (suc i) e p (set_null_count w (rust.minus w.null_count 1))
        go (here l) =
            let x : max i p ≡ i = omega arith in
            let y : max (suc i) p ≡ suc i = omega arith in
            parts (rw (x, y) (miss e))
        go (there l) = let x : max i p ≡ max (suc i) p = omega arith in parts (rw x)

    pop-on : Holds st en (suc i) e (cond (v i && leb p i) e p) (pop_on i w)
    unfolding pop_on
    pop-on = go (v i) refl (order p i)
      where
        go : (t : Bool) → v i ≡ t → Or (p ≤ i) (i < p)
            → Holds st en (suc i) e (cond (v i && leb p i) e p) (cond (v i) (pop rust w (get_or xs i nan)) (set_null_count w (rust.minus w.null_count 1)))
        go true q (here l) = rw (q, le-leb p i l) (pop-flip q l)
        go true q (there l) = rw (q, lt-leb p i l) (pop-keep q l)
        go false q o = rw q (skip q)

  pops : (st en k i e p : ℕ) (w : MomentWindow M) → Holds st en i e p w → i + k ≤ e → p ≤ e → Holds st en (i + k) e (split_after v k i e p) (turns pop_on k i w)
  unfolding split_after turns
  pops st en zero i e p w held h g = rw add-zero held
  pops st en (suc k) i e p w held h g =
      let z : i + suc k ≡ suc i + k = omega arith in
      rw z
      (pops st en k (suc i) e (cond (v i && leb p i) e p) (pop_on i w) (pop-on st en i e p w held (omega arith) g) (omega arith)
      (split_le v 1 i e p g))

  -- ---- a place enters
  module _ (st en i e p : ℕ) (w : MomentWindow M) (held : Holds st en i e p w) (h : i ≤ e) (k : p ≤ e) (few : e ≤ 16777216) where
    -- the counts that grow are of no more places than a trace has
    one_more : (u : ℕ → Bool) (n : ℕ) → n ≡ chosen_count u i e → rust.plus n 1 ≡ n + 1
    one_more u n f = let g = count-le u (λ j. j) i e in rust.plus_is n 1 (omega arith)

    snoc : (t : Bool) → v e ≡ t → entries v r (max i p) (suc e) ≡ entries v r (max i p) e ++ cond t (r e ∷ []) []
    snoc t q = ap (λ (z : ℕ). entries v r (max i p) z) (sym (add-one e)) ∙ entries-snoc v r (max i p) e (omega arith) ∙ rw q

    push-in : (x : Float) (n : ℕ) → v e ≡ true → x ≡ r e → n ≡ w.non_finite_count + bool_byte (not (finite (get_or xs e nan)))
        → Holds st en i (suc e) p (set_non_finite_count (pushed w x) n)
    push-in x n q y z =
        let s = snoc true q in
        let f = held.nonfinite_is in
        let g = more b i e h (not (finite (get_or xs e nan))) (rw q) in
        let o = held.nulls-is in
        let c = more nv i e h false (rw q) in
        record {
          start_is = held.start_is;
          end_is = held.end_is;
          front_is = held.front_is;
          back_is = reverse-cons x w.back ∙ rw (held.back_is, s, y);
          agg_is = rw (s, foldl-append, held.agg_is, y);
          nonfinite_is = omega arith;
          nulls-is = omega arith;
        }

    push-one : v e ≡ true → Holds st en i (suc e) p (push rust w (get_or xs e nan))
    unfolding push inserted_at
    push-one q = go (finite (get_or xs e nan)) refl
      where
        go : (t : Bool) → finite (get_or xs e nan) ≡ t
            → Holds st en i (suc e) p (cond (finite (get_or xs e nan)) (pushed w (get_or xs e nan)) (set_non_finite_count (pushed w zero64) (rust.plus w.non_finite_count 1)))
        go true f = rw f (push-in (get_or xs e nan) w.non_finite_count q (rw f) (rw f (sym (add-zero _))))
        go false f = rw f (push-in zero64 (rust.plus w.non_finite_count 1) q (rw f) (one_more b w.non_finite_count held.nonfinite_is ∙ rw f))

    push-null : v e ≡ false → Holds st en i (suc e) p (set_null_count w (rust.plus w.null_count 1))
    push-null q =
        let s = snoc false q ∙ append-nil (entries v r (max i p) e) in
        let f = held.nonfinite_is in
        let g = more b i e h false (rw q) in
        let o = held.nulls-is in
        let c = more nv i e h true (rw q) in
        record {
          start_is = held.start_is;
          end_is = held.end_is;
          front_is = held.front_is;
          back_is = held.back_is ∙ sym s;
          agg_is = rw s held.agg_is;
          nonfinite_is = omega arith;
          nulls-is = one_more nv w.null_count held.nulls-is ∙ omega arith;
        }

    push-on : Holds st en i (suc e) p (push_on e w)
    unfolding push_on
    push-on = go (v e) refl
      where
        go : (t : Bool) → v e ≡ t → Holds st en i (suc e) p (cond (v e) (push rust w (get_or xs e nan)) (set_null_count w (rust.plus w.null_count 1)))
        go true q = rw q (push-one q)
        go false q = rw q (push-null q)

  pushes : (st en k i e p : ℕ) (w : MomentWindow M) → Holds st en i e p w → i ≤ e → p ≤ e → e + k ≤ 16777216 → Holds st en i (e + k) p (turns push_on k e w)
  unfolding turns
  pushes st en zero i e p w held h g few = rw add-zero held
  pushes st en (suc k) i e p w held h g few =
      let z : e + suc k ≡ suc e + k = omega arith in
      rw z (pushes st en k i (suc e) p (push_on e w) (push-on st en i e p w held h g (omega arith)) (omega arith) (omega arith) (omega arith))

  -- ---- a window between two rows
  abbrev At : Account → MomentWindow M → Type 0
  At a w = Holds a.start a.end a.start a.end a.split w

  pub record Whole (a : Account) (w : MomentWindow M) : Type 0 where
    pub start_le : a.start ≤ a.end
    pub split_le : a.split ≤ a.end
    pub at : Holds a.start a.end a.start a.end a.split w

  none : (s : ℕ) (w : MomentWindow M) → Holds s s s s s (set_end (set_start (reset w) s) s)
  unfolding tops
  none s w =
      let m : max s s ≡ s = omega arith in
      record {
        start_is = refl;
        end_is = refl;
        front_is = rw (entries-self v r);
        back_is = rw (m, entries-self v r);
        agg_is = rw (m, entries-self v r);
        nonfinite_is = rw (entries-self b (λ j. j));
        nulls-is = rw (entries-self nv (λ j. j));
      }

  -- `new_impl` is the fresh account
  pub new-whole : Whole paper.fresh new_impl
  new-whole = record { start_le = omega arith; split_le = omega arith; at = none 0 new_impl }

  -- steps 1 and 2 of a move, and its end
  module _ (a : Account) (w : MomentWindow M) (whole : Whole a w) (s e : ℕ) (hs : a.start ≤ s) (he : a.end ≤ e) (hr : s ≤ e) (few : e ≤ 16777216) where
    abbrev F : Account
    F = paper.restarted a s

    record Restart : Type 0 where
      low : F.start ≤ s
      mid : s ≤ F.end
      high : F.end ≤ e
      split_le : F.split ≤ F.end
      at : At F (restarted w s)

    restart : Restart
    restart = go (order a.end s)
      where
        go : Or (a.end ≤ s) (s < a.end) → Restart
        go (here l) =
            let q = le-leb a.end s l in
            let f : F ≡ record { start = s; end = s; split = s } = rw q in
            let g : restarted w s ≡ set_end (set_start (reset w) s) s = rw (whole.at.end_is, q) in
            record {
              low = rw f (omega arith);
              mid = rw f (omega arith);
              high = rw f (omega arith);
              split_le = rw f (omega arith);
              at = rw (f, g) (none s w);
            }
        go (there l) =
            let q = lt-leb a.end s l in
            let f : F ≡ a = rw q in
            let g : restarted w s ≡ w = rw (whole.at.end_is, q) in
            let k = whole.split_le in
            record {
              low = rw f (omega arith);
              mid = rw f (omega arith);
              high = rw f (omega arith);
              split_le = rw f (omega arith);
              at = rw (f, g) whole.at;
            }

    abbrev W₁ : MomentWindow M
    W₁ = restarted w s

    abbrev W₂ : MomentWindow M
    W₂ = for_in W₁.start s pop_on W₁

    abbrev W₃ : MomentWindow M
    W₃ = for_in W₂.end e push_on W₂

    abbrev P : ℕ
    P = split_after v (s - F.start) F.start F.end F.split

    out_at : Holds F.start F.end s F.end P W₂
    out_at =
        let t = restart in
        let l = t.low in
        let m = t.mid in
        let z : F.start + (s - F.start) ≡ s = omega arith in
        let g = pops F.start F.end (s - F.start) F.start F.end F.split W₁ t.at (omega arith) t.split_le in
        subst (λ (x : ℕ). Holds F.start F.end s F.end P (for_in x s pop_on W₁)) (sym t.at.start_is)
        (subst (λ (y : ℕ). Holds F.start F.end y F.end P (for_in F.start s pop_on W₁)) z g)

    in-at : Holds F.start F.end s e P W₃
    in-at =
        let t = restart in
        let m = t.mid in
        let h = t.high in
        let z : F.end + (e - F.end) ≡ e = omega arith in
        let p = split_le v (s - F.start) F.start F.end F.split t.split_le in
        let g = pushes F.start F.end (e - F.end) s F.end P W₂ out_at m p (omega arith) in
        subst (λ (x : ℕ). Holds F.start F.end s e P (for_in x e push_on W₂)) (sym out_at.end_is)
        (subst (λ (y : ℕ). Holds F.start F.end s y P (for_in F.end e push_on W₂)) z g)

    -- an `update` is a move of the account
    pub moved-whole : Whole (moved v a s e) (update_on w s e)
    unfolding update_on
    moved-whole =
        let t = restart in
        let h = t.high in
        let p = split_le v (s - F.start) F.start F.end F.split t.split_le in
        let i = in-at in
        record {
          start_le = hr;
          split_le = omega arith;
          at = record {
            start_is = refl;
            end_is = refl;
            front_is = i.front_is;
            back_is = i.back_is;
            agg_is = i.agg_is;
            nonfinite_is = i.nonfinite_is;
            nulls-is = i.nulls-is;
          };
        }

    -- 002's `update`, where every place is valid: what is lent of the slice lies in it
    pub no-nulls-same : ((i : ℕ) → v i ≡ true) → e ≤ length xs → update_no_nulls rust xs w s e ≡ update_on w s e
    unfolding update_no_nulls update_on
    no-nulls-same all k =
        let t = restart in
        let l = t.low in
        let h = t.high in
        ap (λ (u : MomentWindow M). set_end (set_start (foldl (push rust) u (rust.part xs u.end e)) s) e)
        (over (pop rust) pop_on (pop-all all) W₁ W₁.start s (subst (λ (x : ℕ). x ≤ s) (sym t.at.start_is) l) (omega arith))
        ∙ ap (λ (u : MomentWindow M). set_end (set_start u s) e)
        (over (push rust) push_on (push-all all) W₂ W₂.end e (subst (λ (x : ℕ). x ≤ e) (sym out_at.end_is) h) k)
      where
        over : (f : MomentWindow M → Float → MomentWindow M) (g : ℕ → MomentWindow M → MomentWindow M)
            → ((i : ℕ) (u : MomentWindow M) → f u (get_or xs i nan) ≡ g i u) → (u : MomentWindow M) (i z : ℕ) → i ≤ z → z ≤ length xs
            → foldl f u (rust.part xs i z) ≡ for_in i z g u
        over f g same u i z p q =
            let y : i + (z - i) ≡ z = omega arith in
            ap (foldl f u) (rust.part_is xs i z p q)
            ∙ ap (λ (n : ℕ). foldl f u (slice i n xs)) (sym y)
            ∙ part_turns f xs (z - i) i u (omega arith)
            ∙ turns_same (λ j x. f x (get_or xs j nan)) g (z - i) i u (λ j x o q. same j x)

  -- 003's `update`: no bit and no reading past the end is read
  pub nulls-same : (map : Bitmap) → Bits map → (w : MomentWindow M) (s e : ℕ) → s ≤ length xs → e ≤ length xs
      → update_nulls rust map xs w s e ≡ update_on w s e
  unfolding update_nulls update_on
  nulls-same map bits w s e h k =
      ap (λ (u : MomentWindow M). set_end (set_start (for_in u.end e (push_at rust map xs) u) s) e) (over (pop_at rust map xs) pop_on (pop-bits map bits) (restarted w s) (restarted w s).start s h)
      ∙ ap (λ (u : MomentWindow M). set_end (set_start u s) e)
      (over (push_at rust map xs) push_on (push-bits map bits) (for_in (restarted w s).start s pop_on (restarted w s)) (for_in (restarted w s).start s pop_on (restarted w s)).end e k)
    where
      over : (f g : ℕ → MomentWindow M → MomentWindow M) → ((i : ℕ) (u : MomentWindow M) → i < length xs → f i u ≡ g i u) → (u : MomentWindow M) (i z : ℕ)
          → z ≤ length xs → for_in i z f u ≡ for_in i z g u
      over f g same u i z q = go (order i z)
        where
          go : Or (i ≤ z) (z < i) → for_in i z f u ≡ for_in i z g u
          go (here l) = turns_same f g (z - i) i u (λ j x o n. same j x (omega arith))
          go (there l) = let y : z - i ≡ 0 = omega arith in rw y (turns_same f g 0 i u (λ j x o n. same j x (omega arith)))
