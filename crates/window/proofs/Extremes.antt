-- The number that states keep is one of the readings that none is beyond: an insert and a combine keep that, in whatever order readings
-- came. Two such readings are equal numbers, so that with an unsigned zero they have the same bits, and the split does not show. Assumes
-- nothing.
use Prim.Native.Nat.{ℕ, zero, suc, ◌+◌, ◌-◌, ◌≤◌, ◌<◌}
use mathlib.Core.Path.{◌≡◌, refl, sym, ap, ◌∙◌, subst}
use mathlib.Core.Bool.{Bool, true, false, cond, ◌&&◌}
use mathlib.Core.Logic.{◌⊎◌, inl, inr, ⊎_elim}
use mathlib.Core.List.{List, [], ◌∷◌, ◌++◌, foldl, append_assoc, append-nil}
use mathlib.Core.List.Memᴰ
use mathlib.Core.List.{Memᴰ}
use native.Mathlib.Omega.{arith}
use borrow.Author.Tests.{ltb-false}
use lib.Ieee.{Float}
use lib.Ieee.Scale.{finite}
use Rattle.float.proofs.Cases.{apart, Or, here, there, order}
use Rattle.float.proofs.Ordering.{Orders}
use Rattle.moment.specs.declared.Figure.TheVariants.{Missing, Present}
use Rattle.trace.specs.Trace.{Trace, trace_of, valid_at}
use Rattle.window.specs.Places.{Series, entries_from, entries}
use Rattle.window.specs.Window.{Account, Moment, front, back, rising, falling, moved}
use Rattle.window.specs.Readings.{reading_of}
use Rattle.window.specs.Rows.{moves}
use Rattle.window.specs.Extremes.{finite_at, finite_readings, further, unsigned_zero, extreme, short_row, extreme_of}
use Rattle.window.specs.Code.Memory.{Stored}
use Rattle.window.specs.Code.Stacks.{account, Held, state_by, Stepped}
use Rattle.window.specs.Code.Widening.{raw_series, widened, shown}
use Rattle.window.specs.declared.Window.{Window}
use Rattle.window.proofs.Places.{two-parts}
use Rattle.window.proofs.Rows.{top-is, moves_long}

-- ---- the entries of a range, one by one
pub record PlaceOf {A : Type 0} (v : ℕ → Bool) (r : ℕ → A) (a b : ℕ) (x : A) : Type 0 where
  pub place : ℕ
  pub from : a ≤ place
  pub below : place < b
  pub chosen : v place ≡ true
  pub is : x ≡ r place

module _ {A : Type 0} (v : ℕ → Bool) (r : ℕ → A) where
  from_place : (k a : ℕ) (x : A) → Memᴰ x (entries_from v r k a) → PlaceOf v r a (a + k) x
  unfolding entries_from
  from_place zero a x m = absurd (Memᴰ.not-nil m)
  from_place (suc k) a x m = go (v a) refl m (from_place k (suc a) x)
    where
      later : PlaceOf v r (suc a) (suc a + k) x → PlaceOf v r a (a + suc k) x
      later p =
          let f = p.from in
          let b = p.below in
          record { place = p.place; from = omega arith; below = omega arith; chosen = p.chosen; is = p.is }

      go : (t : Bool) → v a ≡ t → Memᴰ x (cond t (r a ∷ entries_from v r k (suc a)) (entries_from v r k (suc a)))
          → (Memᴰ x (entries_from v r k (suc a)) → PlaceOf v r (suc a) (suc a + k) x) → PlaceOf v r a (a + suc k) x
      go true e l f =
          ⊎_elim (λ h. record { place = a; from = omega arith; below = omega arith; chosen = e; is = h }) (λ n. later (f n))
          (Memᴰ.cases_cons l)
      go false e l f = later (f l)

  pub entry_place : (a b : ℕ) (x : A) → Memᴰ x (entries v r a b) → PlaceOf v r a b x
  entry_place a b x m =
      let p = from_place _ a x m in
      let f = p.from in
      let l = p.below in
      record { place = p.place; from = f; below = omega arith; chosen = p.chosen; is = p.is }

  from-entry : (k a i : ℕ) → a ≤ i → i < a + k → v i ≡ true → Memᴰ (r i) (entries_from v r k a)
  unfolding entries_from
  from-entry zero a i f l e = absurd (omega arith)
  from-entry (suc k) a i f l e = go (order (suc a) i) (from-entry k (suc a) i)
    where
      this : (t : Bool) → v a ≡ t → a ≡ i → Memᴰ (r i) (cond t (r a ∷ entries_from v r k (suc a)) (entries_from v r k (suc a)))
      this true e' h = Memᴰ.head (ap r (sym h))
      this false e' h = apart (sym e' ∙ ap v h ∙ e)

      later : (t : Bool) → Memᴰ (r i) (entries_from v r k (suc a))
          → Memᴰ (r i) (cond t (r a ∷ entries_from v r k (suc a)) (entries_from v r k (suc a)))
      later true m = Memᴰ.tail m
      later false m = m

      go : Or (suc a ≤ i) (i < suc a) → (suc a ≤ i → i < suc a + k → v i ≡ true → Memᴰ (r i) (entries_from v r k (suc a)))
          → Memᴰ (r i) (cond (v a) (r a ∷ entries_from v r k (suc a)) (entries_from v r k (suc a)))
      go (here h) g = later (v a) (g h (omega arith) e)
      go (there h) g = let z : a ≡ i = omega arith in this (v a) refl z

  pub place-entry : (a b i : ℕ) → a ≤ i → i < b → v i ≡ true → Memᴰ (r i) (entries v r a b)
  place-entry a b i f l e = from-entry _ a i f (omega arith) e

-- ---- a number beyond which no reading is
module _ (beyond : Float → Float → Bool) (limit : Float) (O : Orders beyond limit) where
  -- y is beyond none of a list's finite members and is one of them, or the limit where there is none
  pub record Extreme (l : List Float) (y : Float) : Type 0 where
    pub none_beyond : (x : Float) → Memᴰ x l → finite x ≡ true → beyond x y ≡ false
    pub is_one : (y ≡ limit) ⊎ ((finite y ≡ true) × Memᴰ y l)

  extreme-none : Extreme [] limit
  extreme-none = record { none_beyond = λ x m f. absurd (Memᴰ.not-nil m); is_one = inl refl }

  -- a finite reading lies beyond the limit, so one that nothing is beyond is not the limit
  pub not-limit : {A : Type 0} (x y : Float) → finite x ≡ true → beyond x y ≡ false → y ≡ limit → A
  not-limit x y f b e = apart (sym b ∙ ap (beyond x) e ∙ O.within x f)

  -- the limit is beyond none
  limit-last : (l : List Float) (y : Float) → Extreme l y → beyond limit y ≡ false
  limit-last l y v = ⊎_elim (λ e. ap (beyond limit) e ∙ O.limit_self) (λ o. O.last y o.0) v.is_one

  -- of two lists together the further of their numbers
  join : (l m n : List Float) → ((x : Float) → Memᴰ x n → Memᴰ x l ⊎ Memᴰ x m)
      → ((x : Float) → Memᴰ x l → Memᴰ x n) → ((x : Float) → Memᴰ x m → Memᴰ x n)
      → (y z : Float) → Extreme l y → Extreme m z → Extreme n (further beyond y z)
  join l m n split left right y z v w = go (beyond z y) refl
    where
      second : beyond z y ≡ true → finite z ≡ true → (x : Float) → Memᴰ x l → finite x ≡ true → beyond x z ≡ false
      second b f x i g =
          ⊎_elim (λ e. not-limit x y g (v.none_beyond x i g) e)
          (λ o. O.along z y x f o.0 g (O.one_way z y f o.0 b) (v.none_beyond x i g)) v.is_one

      first : beyond z y ≡ false → finite z ≡ true → (x : Float) → Memᴰ x m → finite x ≡ true → beyond x y ≡ false
      first b f x i g =
          ⊎_elim (λ e. not-limit z y f b e) (λ o. O.along y z x o.0 f g b (w.none_beyond x i g)) v.is_one

      go : (b : Bool) → beyond z y ≡ b → Extreme n (cond b z y)
      go true b =
          ⊎_elim (λ e. apart (sym (limit-last l y v) ∙ ap (λ u. beyond u y) (sym e) ∙ b))
          (λ o.
          record {
            none_beyond = λ x i g. ⊎_elim (λ j. second b o.0 x j g) (λ j. w.none_beyond x j g) (split x i);
            is_one = inr (o.0, right z o.1);
          })
          w.is_one
      go false b =
          record {
            none_beyond = λ x i g.
                ⊎_elim (λ j. v.none_beyond x j g)
                (λ j. ⊎_elim (λ e. not-limit x z g (w.none_beyond x j g) e) (λ o. first b o.0 x j g) w.is_one) (split x i);
            is_one = ⊎_elim inl (λ o. inr (o.0, left y o.1)) v.is_one;
          }

  -- one reading
  alone : (x : Float) (f : Bool) → finite x ≡ f → Extreme (x ∷ []) (cond f x limit)
  alone x true f =
      record {
        none_beyond = λ u m g. ap (λ w. beyond w x) (Memᴰ.eq_of_singleton m) ∙ O.itself x f;
        is_one = inr (f, Memᴰ.head refl);
      }
  alone x false f =
      record { none_beyond = λ u m g. apart (sym f ∙ ap finite (sym (Memᴰ.eq_of_singleton m)) ∙ g); is_one = inl refl }

  wider : (l : List Float) (y x : Float) → Extreme l y → (f : Bool) → finite x ≡ f
      → further beyond y (cond f x limit) ≡ cond f (further beyond y x) y
  wider l y x v true f = refl
  wider l y x v false f = rw (limit-last l y v)

  -- a reading more, whose place in the list does not matter
  one_more : (l n : List Float) (x : Float) → ((u : Float) → Memᴰ u n → Memᴰ u l ⊎ Memᴰ u (x ∷ []))
      → ((u : Float) → Memᴰ u l → Memᴰ u n) → ((u : Float) → Memᴰ u (x ∷ []) → Memᴰ u n)
      → (y : Float) → Extreme l y → Extreme n (widened beyond y x)
  one_more l n x split left right y v =
      subst (Extreme n) (wider l y x v (finite x) refl) (join l (x ∷ []) n split left right y _ v (alone x (finite x) refl))

  pub one-behind : (l : List Float) (x y : Float) → Extreme l y → Extreme (l ++ (x ∷ [])) (widened beyond y x)
  one-behind l x y v =
      one_more l (l ++ (x ∷ [])) x (λ u m. Memᴰ.append_cases l m) (λ u m. Memᴰ.append_left (x ∷ []) m)
      (λ u m. Memᴰ.append_right l m) y v

  one-before : (l : List Float) (x y : Float) → Extreme l y → Extreme (x ∷ l) (widened beyond y x)
  one-before l x y v =
      one_more l (x ∷ l) x (λ u m. ⊎_elim (λ e. inr (Memᴰ.head e)) inl (Memᴰ.cases_cons m)) (λ u m. Memᴰ.tail m)
      (λ u m. Memᴰ.head (Memᴰ.eq_of_singleton m)) y v

  -- ---- a moment whose states keep such a number
  pub record Keeps (M : Moment Float) : Type 0 where
    pub of : M.State → Float
    pub empties : of M.empty ≡ limit
    pub inserts : (s : M.State) (x : Float) → of (M.insert s x) ≡ widened beyond (of s) x
    pub combines : (s o : M.State) → of (M.combine s o) ≡ further beyond (of s) (of o)

  module _ (M : Moment Float) (K : Keeps M) where
    rising-from : (l xs : List Float) (s : M.State) → Extreme l (K.of s) → Extreme (l ++ xs) (K.of (rising M s xs))
    rising-from l [] s v = rw append-nil v
    rising-from l (x ∷ xs) s v =
        subst (λ (n : List Float). Extreme n (K.of (rising M (M.insert s x) xs))) (append_assoc l (x ∷ []) xs)
        (rising-from (l ++ (x ∷ [])) xs (M.insert s x) (rw (K.inserts s x) (one-behind l x (K.of s) v)))

    falling-all : (xs : List Float) → Extreme xs (K.of (falling M xs))
    falling-all [] = rw K.empties extreme-none
    falling-all (x ∷ xs) = rw (K.inserts (falling M xs) x) (one-before xs x (K.of (falling M xs)) (falling-all xs))

    -- the state of a window of two parts
    pub parts-extreme : (F B : List Float) → Extreme (F ++ B) (K.of (M.combine (rising M M.empty B) (falling M F)))
    parts-extreme F B =
        rw (K.combines (rising M M.empty B) (falling M F))
        (join B F (F ++ B) (λ x m. ⊎_elim inr inl (Memᴰ.append_cases F m)) (λ x m. Memᴰ.append_right F m)
        (λ x m. Memᴰ.append_left B m) _ _
        (rising-from [] B M.empty (rw K.empties extreme-none)) (falling-all F))

  -- ---- and the definition's
  -- the fold of finite readings
  folded : (l m : List Float) (y : Float) → Extreme l y → ((x : Float) → Memᴰ x m → finite x ≡ true)
      → Extreme (l ++ m) (foldl (further beyond) y m)
  folded l [] y v f = rw append-nil v
  folded l (x ∷ m) y v f =
      let g = f x (Memᴰ.head refl) in
      let w : Extreme (l ++ (x ∷ [])) (further beyond y x) =
      subst (λ (b : Bool). Extreme (l ++ (x ∷ [])) (cond b (further beyond y x) y)) g (one-behind l x y v) in
      subst (λ (n : List Float). Extreme n (foldl (further beyond) (further beyond y x) m)) (append_assoc l (x ∷ []) m)
      (folded (l ++ (x ∷ [])) m (further beyond y x) w (λ u i. f u (Memᴰ.tail i)))

  pub fold-extreme : (x : Float) (l : List Float) → ((u : Float) → Memᴰ u (x ∷ l) → finite u ≡ true)
      → Extreme (x ∷ l) (foldl (further beyond) x l)
  fold-extreme x l f =
      let g = f x (Memᴰ.head refl) in
      folded (x ∷ []) l x (subst (λ (b : Bool). Extreme (x ∷ []) (cond b x limit)) g (alone x (finite x) refl)) (λ u m. f u
      (Memᴰ.tail m))

  -- two of them have the same bits, with an unsigned zero
  same_bits : (l m : List Float) (y z : Float) → ((x : Float) → Memᴰ x l → finite x ≡ true → Memᴰ x m)
      → ((x : Float) → Memᴰ x m → finite x ≡ true → Memᴰ x l) → finite y ≡ true → finite z ≡ true → Memᴰ y l → Memᴰ z m
      → Extreme l y → Extreme m z → unsigned_zero y ≡ unsigned_zero z
  same_bits l m y z to back f g i j v w = O.same y z f g (w.none_beyond y (to y i f) f) (v.none_beyond z (back z j g) g)

  -- what a row shows of the number is the extreme of the finite ones
  pub shown-is : (l m : List Float) (y : Float) → ((x : Float) → Memᴰ x l → finite x ≡ true → Memᴰ x m)
      → ((x : Float) → Memᴰ x m → Memᴰ x l) → ((x : Float) → Memᴰ x m → finite x ≡ true) → Extreme l y
      → shown y ≡ extreme beyond m
  unfolding shown extreme
  shown-is l [] y to back f v =
      ⊎_elim (λ e. let h : finite y ≡ false = ap finite e ∙ O.limit_out in rw h) (λ o. absurd (Memᴰ.not-nil (to y o.1
      o.0))) v.is_one
  shown-is l (x ∷ m) y to back f v =
      let i = Memᴰ.head refl in
      let z = foldl (further beyond) x m in
      let w = fold-extreme x m f in
      ⊎_elim (λ e. not-limit x y (f x i) (v.none_beyond x (back x i) (f x i)) e)
      (λ o.
      rw o.0
      (ap Present
      (⊎_elim (λ e. not-limit x z (f x i) (w.none_beyond x i (f x i)) e)
      (λ p. same_bits l (x ∷ m) y z to (λ u j g. back u j) o.0 p.0 o.1 p.1 v w) w.is_one)))
      v.is_one

-- ---- a row's, by the window after its step
pub both : (a b : Bool) → a ≡ true → b ≡ true → (a && b) ≡ true
both a b e f = rw (e, f)

pub first_of : (a b : Bool) → (a && b) ≡ true → a ≡ true
first_of true b e = refl
first_of false b e = apart e

pub second-of : (a b : Bool) → (a && b) ≡ true → b ≡ true
second-of true b e = e
second-of false b e = apart e

-- a row that is not short without a map moves the window
not_short_moves : (mapped : Bool) (min_periods k s e : ℕ) → short_row mapped min_periods s e ≡ false → moves mapped min_periods k s e ≡ true
not_short_moves true min_periods k s e h = refl
not_short_moves false min_periods k s e h = sym (moves_long false min_periods k s e (ltb-false (e - s) min_periods h))

module _ {C : Type 0} (beyond : Float → Float → Bool) (limit : Float) (O : Orders beyond limit) (M : Stored C Float)
    (K : Keeps beyond limit O M.moment) (has : Bool) (map : List ℕ) (values : List Float) where
  abbrev raw : Series Float
  raw = raw_series has map values

  abbrev t : Trace
  t = trace_of values has map

  -- of a window from s up to e, whatever its split is
  held-extreme : (base : ℕ) (w : Window) (agg : M.moment.State) (work : List C) → Held M raw base w agg work → (s e : ℕ) → w.start ≡ s
      → w.end ≡ e → shown (K.of (state_by M w agg work)) ≡ extreme beyond (finite_readings t s e)
  held-extreme base w agg work held s e x y =
      let c = held.numbers in
      let F = front raw (account w) in
      let B = back raw (account w) in
      let l = entries (valid_at has map) (reading_of values) s e in
      let parts : F ++ B ≡ l =
      two-parts (valid_at has map) (reading_of values) w.start w.split w.end c.start_le c.split_le ∙ rw (x, y) in
      let state : state_by M w agg work ≡ M.moment.combine (rising M.moment M.moment.empty B) (falling M.moment F) =
      ap (λ z. state_by M w z work) held.agg_is
      ∙ ap (M.moment.combine (rising M.moment M.moment.empty B)) (top-is M (λ z. Missing) raw base w agg work held) in
      let v = subst (λ (z : List Float). Extreme beyond limit O z (K.of (state_by M w agg work))) parts
      (rw state (parts-extreme beyond limit O M.moment K F B)) in
      shown-is beyond limit O l (finite_readings t s e) (K.of (state_by M w agg work))
      (λ u m f.
      let p = entry_place (valid_at has map) (reading_of values) s e u m in
      Memᴰ.cast p.is
      (place-entry (finite_at t) (reading_of values) s e p.place p.from p.below
      (both _ _ p.chosen (ap finite (sym p.is) ∙ f))))
      (λ u m.
      let p = entry_place (finite_at t) (reading_of values) s e u m in
      Memᴰ.cast p.is (place-entry (valid_at has map) (reading_of values) s e p.place p.from p.below (first_of _ _ p.chosen)))
      (λ u m.
      let p = entry_place (finite_at t) (reading_of values) s e u m in
      ap finite p.is ∙ second-of (valid_at has map p.place) _ p.chosen)
      v

  -- a row shows the extreme of its own window, and none where it is short without a map
  pub step-extreme : (widest min_periods k s e : ℕ) (w : Window) (work : List C) {w' : Window} {agg' : M.moment.State} {work' : List C}
      → Stepped M raw widest min_periods k s e w work w' agg' work'
      → cond (short_row has min_periods s e) Missing (shown (K.of (state_by M w' agg' work'))) ≡ extreme_of beyond t min_periods s e
  unfolding extreme_of
  step-extreme widest min_periods k s e w work {w'} {agg'} {work'} q = go (short_row has min_periods s e) refl
    where
      go : (b : Bool) → short_row has min_periods s e ≡ b
          → cond b Missing (shown (K.of (state_by M w' agg' work'))) ≡ cond b Missing (extreme beyond (finite_readings t s e))
      go true h = refl
      go false h =
          let m = not_short_moves has min_periods k s e h in
          let a : account w' ≡ moved (valid_at has map) (account w) s e = q.to ∙ rw m in
          held-extreme _ w' agg' work' q.held s e (ap (λ (z : Account). z.start) a) (ap (λ (z : Account). z.end) a)
