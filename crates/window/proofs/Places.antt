-- Laws of the places of a range and of the split account: a range splits, and a move makes the split the end exactly where more
-- valid places leave than the front part has. Assumes nothing.
use Prim.Native.Nat.{ℕ, zero, suc, ◌+◌, ◌-◌, ◌≤◌, ◌<◌, max}
use mathlib.Core.Path.{◌≡◌, refl, sym, ap, ◌∙◌}
use mathlib.Core.List.{List, [], ◌∷◌, ◌++◌}
use mathlib.Core.Bool.{Bool, true, false, cond}
use native.Mathlib.Nat.{add-zero, zero-add, suc-add}
use native.Mathlib.Omega.{arith}
use mir.Val.{bool_byte}
use lib.Dec.{leb}
use lib.ListN.{length, drop, length-append, drop_of_length-le}
use lib.Seq.{drop_at}
use borrow.Author.Tests.{leb-true, leb-false}
use Rattle.float.proofs.Cases.{Or, here, there, order}
use Rattle.window.specs.Places.{entries_from, entries, chosen_count}
use Rattle.window.specs.Window.{split_after}

keep_append : {A : Type 0} (b : Bool) (x : A) (p q : List A) → cond b (x ∷ (p ++ q)) (p ++ q) ≡ cond b (x ∷ p) p ++ q
keep_append true x p q = refl
keep_append false x p q = refl

cond_same : (b : Bool) (x : ℕ) → cond b x x ≡ x
cond_same true x = refl
cond_same false x = refl

module _ {A : Type 0} (v : ℕ → Bool) (r : ℕ → A) where
  pub from-add : (k m a : ℕ) → entries_from v r (k + m) a ≡ entries_from v r k a ++ entries_from v r m (a + k)
  unfolding entries_from
  from-add zero m a = rw (zero-add, add-zero)
  from-add (suc k) m a =
      let e : a + suc k ≡ suc a + k = omega arith in
      rw (suc-add, from-add k m (suc a), e) (keep_append (v a) (r a) (entries_from v r k (suc a)) (entries_from v r m (suc a + k)))

  pub entries_none : (a b : ℕ) → b ≤ a → entries v r a b ≡ []
  unfolding entries_from
  entries_none a b h = let e : b - a ≡ 0 = omega arith in rw e

  pub entries-self : (a : ℕ) → entries v r a a ≡ []
  entries-self a = entries_none a a (omega arith)

  pub entries-split : (a m b : ℕ) → a ≤ m → m ≤ b → entries v r a b ≡ entries v r a m ++ entries v r m b
  entries-split a m b h k =
      let e : b - a ≡ (m - a) + (b - m) = omega arith in
      let f : a + (m - a) ≡ m = omega arith in
      rw e (from-add (m - a) (b - m) a ∙ rw f)

  pub entries-cons : (a b : ℕ) → a < b → entries v r a b ≡ cond (v a) (r a ∷ entries v r (suc a) b) (entries v r (suc a) b)
  unfolding entries_from
  entries-cons a b h = let e : b - a ≡ suc (b - suc a) = omega arith in rw e

  pub entries-snoc : (a b : ℕ) → a ≤ b → entries v r a (b + 1) ≡ entries v r a b ++ cond (v b) (r b ∷ []) []
  unfolding entries_from
  entries-snoc a b h =
      let e : (b + 1) - b ≡ 1 = omega arith in
      entries-split a b (b + 1) h (omega arith) ∙ rw e

  keep-le : (t : Bool) (x : A) (l : List A) (k : ℕ) → length l ≤ k → length (cond t (x ∷ l) l) ≤ suc k
  keep-le true x l k h = omega arith
  keep-le false x l k h = omega arith

  from_le : (k i : ℕ) → length (entries_from v r k i) ≤ k
  unfolding entries_from
  from_le zero i = omega arith
  from_le (suc k) i = keep-le (v i) (r i) (entries_from v r k (suc i)) k (from_le k (suc i))

  from-many : (k i : ℕ) → length (entries_from v r k i) ≡ length (entries_from v (λ j. j) k i)
  unfolding entries_from
  from-many zero i = refl
  from-many (suc k) i = go (v i) (from-many k (suc i))
    where
      go : (b : Bool) → length (entries_from v r k (suc i)) ≡ length (entries_from v (λ j. j) k (suc i))
          → length (cond b (r i ∷ entries_from v r k (suc i)) (entries_from v r k (suc i)))
          ≡ length (cond b (i ∷ entries_from v (λ j. j) k (suc i)) (entries_from v (λ j. j) k (suc i)))
      go true e = ap suc e
      go false e = e

  -- a range has as many entries as chosen places, whatever is inserted there
  pub many-chosen : (a b : ℕ) → length (entries v r a b) ≡ chosen_count v a b
  many-chosen a b = from-many (b - a) a

  pub count-le : (a b : ℕ) → length (entries v r a b) ≤ b - a
  count-le a b = from_le (b - a) a

  pub count-up : (a m b : ℕ) → a ≤ m → m ≤ b → length (entries v r a m) ≤ length (entries v r a b)
  count-up a m b h k = let e = simp length-append at (ap length (entries-split a m b h k)) in omega arith

  -- a part of a range with no such place has none
  pub none-part : (a m b : ℕ) → a ≤ m → m ≤ b → length (entries v r a b) ≡ 0 → length (entries v r a m) ≡ 0
  none-part a m b h k e = let u = count-up a m b h k in omega arith

  from_all : ((i : ℕ) → v i ≡ true) → (k i : ℕ) → length (entries_from v r k i) ≡ k
  unfolding entries_from
  from_all t zero i = refl
  from_all t (suc k) i = rw (t i) (ap suc (from_all t k (suc i)))

  -- where every place is valid, the count is the width
  pub count-all : ((i : ℕ) → v i ≡ true) → (a b : ℕ) → length (entries v r a b) ≡ b - a
  count-all t a b = from_all t (b - a) a

  -- one place more
  pub count-more : (a b : ℕ) → a ≤ b → (t : Bool) → t ≡ v b → length (entries v r a (b + 1)) ≡ length (entries v r a b) + bool_byte t
  count-more a b h t e =
      ap length (entries-snoc a b h) ∙ length-append (entries v r a b) (cond (v b) (r b ∷ []) []) ∙ rw (← e) (go t)
    where
      go : (t : Bool) → length (entries v r a b) + length (cond t (r b ∷ []) []) ≡ length (entries v r a b) + bool_byte t
      go true = refl
      go false = refl

  from-hit : (k i : ℕ) → v i ≡ true → entries_from v r (suc k) i ≡ r i ∷ entries_from v r k (suc i)
  unfolding entries_from
  from-hit k i h = rw h

  from-miss : (k i : ℕ) → v i ≡ false → entries_from v r (suc k) i ≡ entries_from v r k (suc i)
  unfolding entries_from
  from-miss k i h = rw h

  entries-hit : (i p : ℕ) → i < p → v i ≡ true → entries v r i p ≡ r i ∷ entries v r (suc i) p
  entries-hit i p l h = entries-cons i p l ∙ rw h

  entries-miss : (i p : ℕ) → v i ≡ false → entries v r i p ≡ entries v r (suc i) p
  entries-miss i p h = go (order p i)
    where
      go : Or (p ≤ i) (i < p) → entries v r i p ≡ entries v r (suc i) p
      go (here l) = entries_none i p l ∙ sym (entries_none (suc i) p (omega arith))
      go (there l) = entries-cons i p l ∙ rw h

  pub split-end : (k i e : ℕ) → split_after v k i e e ≡ e
  unfolding split_after
  split-end zero i e = refl
  split-end (suc k) i e = rw cond_same (split-end k (suc i) e)

  abbrev Split : ℕ → ℕ → ℕ → ℕ → Type 0
  Split k i e p = (length (entries_from v r k i) ≤ length (entries v r i p) → split_after v k i e p ≡ p) × (length (entries v r i p) < length (entries_from v r k i) → split_after v k i e p ≡ e)

  split_step : (k i e p : ℕ) → Split k (suc i) e p → (b q : Bool) → v i ≡ b → leb p i ≡ q → Split (suc k) i e p
  unfolding split_after
  split_step k i e p ih true true hb hq =
      let n = entries_none i p (leb-true p i hq) in
      let l = ap length n in
      let m = ap length (from-hit k i hb) in
      (λ h. absurd (omega arith), λ h. rw (hb, hq) (split-end k (suc i) e))
  split_step k i e p ih true false hb hq =
      let l = ap length (entries-hit i p (leb-false p i hq) hb) in
      let m = ap length (from-hit k i hb) in
      (λ h. rw (hb, hq) (ih.0 (omega arith)), λ h. rw (hb, hq) (ih.1 (omega arith)))
  split_step k i e p ih false q hb hq =
      let l = ap length (entries-miss i p hb) in
      let m = ap length (from-miss k i hb) in
      (λ h. rw hb (ih.0 (omega arith)), λ h. rw hb (ih.1 (omega arith)))

  -- where the valid places that leave are no more than the front's, the split stays; where they are more, it becomes the end
  pub split-law : (k i e p : ℕ) → Split k i e p
  unfolding split_after entries_from
  split-law zero i e p = (λ h. refl, λ h. absurd (omega arith))
  split-law (suc k) i e p = split_step k i e p (split-law k (suc i) e p) (v i) (leb p i) refl refl

  -- the two parts up to s are the range up to s
  pub two-parts : (st sp s : ℕ) → st ≤ s → sp ≤ s → entries v r st sp ++ entries v r (max st sp) s ≡ entries v r st s
  two-parts st sp s h k = go (order sp st)
    where
      go : Or (sp ≤ st) (st < sp) → entries v r st sp ++ entries v r (max st sp) s ≡ entries v r st s
      go (here l) = let e : max st sp ≡ st = omega arith in rw (entries_none st sp l, e)
      go (there l) = let e : max st sp ≡ sp = omega arith in rw e (sym (entries-split st sp s (omega arith) k))

  pub two-counts : (st sp s : ℕ) → st ≤ s → sp ≤ s → length (entries v r st sp) + length (entries v r (max st sp) s) ≡ length (entries v r st s)
  two-counts st sp s h k = sym (length-append (entries v r st sp) (entries v r (max st sp) s)) ∙ ap length (two-parts st sp s h k)

  nothing : (l : List A) → length l ≡ 0 → l ≡ []
  nothing [] e = refl
  nothing (x ∷ l) e = absurd (omega arith)

  module _ (st en sp s : ℕ) (h : st ≤ s) (k : s ≤ en) (g : sp ≤ en) where
    pub stay-front : length (entries v r st s) ≤ length (entries v r st sp) → entries v r s sp ≡ drop (length (entries v r st s)) (entries v r st sp)
    stay-front t = go (order s sp)
      where
        go : Or (s ≤ sp) (sp < s) → entries v r s sp ≡ drop (length (entries v r st s)) (entries v r st sp)
        go (here l) = rw (entries-split st s sp h l, drop_at (entries v r st s) (entries v r s sp) (length (entries v r st s)) refl)
        go (there l) =
            let c = two-counts st sp s h (omega arith) in
            let o : length (entries v r st sp) ≤ length (entries v r st s) = omega arith in
            entries_none s sp (omega arith) ∙ sym (drop_of_length-le (entries v r st sp) o)

    pub stay-back : length (entries v r st s) ≤ length (entries v r st sp) → entries v r (max s sp) en ≡ entries v r (max st sp) en
    stay-back t = go (order s sp)
      where
        go : Or (s ≤ sp) (sp < s) → entries v r (max s sp) en ≡ entries v r (max st sp) en
        go (here l) = let e : max s sp ≡ max st sp = omega arith in rw e
        go (there l) =
            let c = two-counts st sp s h (omega arith) in
            let e : max s sp ≡ s = omega arith in
            rw (e, entries-split (max st sp) s en (omega arith) k, nothing (entries v r (max st sp) s) (omega arith))

    over : length (entries v r st sp) < length (entries v r st s) → sp < s
    over t = go (order s sp)
      where
        go : Or (s ≤ sp) (sp < s) → sp < s
        go (there l) = l
        go (here l) =
            let e = simp length-append at (ap length (entries-split st s sp h l)) in
            absurd (omega arith)

    pub flip-front : length (entries v r st sp) < length (entries v r st s) →
        entries v r s en ≡ drop (length (entries v r st s) - length (entries v r st sp)) (entries v r (max st sp) en)
    flip-front t =
        let l = over t in
        let c = two-counts st sp s h (omega arith) in
        rw (entries-split (max st sp) s en (omega arith) k)
        (sym (drop_at (entries v r (max st sp) s) (entries v r s en) (length (entries v r st s) - length (entries v r st sp)) (omega arith)))
