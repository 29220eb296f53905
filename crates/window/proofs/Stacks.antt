-- Values one behind another in a list of doubles: where each lies, and what is left when one is written behind them; the front
-- stack, whose top is dropped with the entries that leave; and the turns of the two loops that build the stacks. Assumes nothing.
use Prim.Native.Nat.{ℕ, zero, suc, ◌+◌, ◌-◌, ◌*◌, ◌/◌, ◌≤◌, ◌<◌}
use mathlib.Core.Path.{◌≡◌, refl, sym, ap, ◌∙◌, subst}
use mathlib.Core.Bool.{Bool, true, false}
use mathlib.Core.List.{List, [], ◌∷◌, ◌++◌, append_assoc, append-nil, foldl-append}
use native.Mathlib.Nat.{mul-zero, mul-add, mul-suc, mul-le-mul_left, add-zero}
use native.Mathlib.Numerals.{add-one}
use Rattle.std.proofs.Math.Nat.{mul-div_cancel_left}
use native.Mathlib.Omega.{arith}
use mir.Val.{bool_byte}
use lib.ListN.{length, take, drop, length-append, length-drop, length-take, drop_of_length-le, take-append-drop}
use lib.Seq.{take-length, take-append-le, take-append_seam, drop_at, drop-append-add, drop-drop, sets, sets-eq}
use lib.Ieee.{Float}
use Rattle.window.specs.Places.{Series, entries, valid_count}
use Rattle.window.specs.Window.{falling}
use Rattle.window.specs.Code.Memory.{Layout, Stored, in_memory, reading}
use Rattle.window.specs.Code.Stacks.{front_stack, Appended}
use Rattle.window.proofs.Places.{entries-self, entries-snoc, many-chosen, count-le, count-more, count-up}

-- doubles written over what follows a list
write_at_lem : {C : Type 0} (l rest vs : List C) (at : ℕ) → length l ≡ at → length vs ≤ length rest → sets (l ++ rest) at vs ≡ l ++ vs ++ drop (length vs) rest
write_at_lem l rest vs at e h =
    let o : length l + length vs ≤ length (l ++ rest) = rw length-append (omega arith) in
    rw (← e) (sets-eq vs (l ++ rest) (length l) o ∙ rw (take-append_seam l rest, drop-append-add l rest (length vs)))

module _ {C A : Type 0} (L : Layout C A) where
  pub memory-length : (l : List A) → length (in_memory L l) ≡ L.width * length l
  unfolding in_memory
  memory-length [] = sym (mul-zero L.width)
  memory-length (x ∷ l) = length-append (L.store x) (in_memory L l) ∙ rw (L.stored x, memory-length l, mul-suc) (omega arith)

  pub memory-append : (l m : List A) → in_memory L (l ++ m) ≡ in_memory L l ++ in_memory L m
  unfolding in_memory
  memory-append [] m = refl
  memory-append (x ∷ l) m = rw (memory-append l m) (sym (append_assoc (L.store x) (in_memory L l) (in_memory L m)))

  memory-snoc : (l : List A) (x : A) → in_memory L (l ++ (x ∷ [])) ≡ in_memory L l ++ L.store x
  unfolding in_memory
  memory-snoc l x = memory-append l (x ∷ []) ∙ rw append-nil

  -- the value behind those of l
  memory-read : (l : List A) (x : A) (m : List A) (rest : List C) (at : ℕ) → at ≡ L.width * length l →
      L.load (drop at (in_memory L (l ++ x ∷ m) ++ rest)) ≡ x
  unfolding in_memory
  memory-read l x m rest at e =
      let p : length (in_memory L l) ≡ at = memory-length l ∙ sym e in
      rw (memory-append l (x ∷ m), append_assoc, append_assoc, drop_at (in_memory L l) (L.store x ++ (in_memory L m ++ rest)) at p)
      (L.loaded x (in_memory L m ++ rest))

  -- as many values lie in a part as it has room for
  pub as-many : (base n : ℕ) (work : List C) (B : List A) → 0 < L.width → base + L.width * n ≤ length work
      → take (L.width * n) (drop base work) ≡ in_memory L B → n ≡ length B
  as-many base n work B some room standing =
      let p : length (take (L.width * n) (drop base work)) ≡ L.width * n = rw (length-take, length-drop) (omega arith) in
      let e : L.width * n ≡ L.width * length B = sym p ∙ ap length standing ∙ memory-length B in
      sym (mul-div_cancel_left n some) ∙ ap (λ k. k / L.width) e ∙ mul-div_cancel_left (length B) some

  -- a value written behind those of l
  memory-push : (l : List A) (x : A) (rest : List C) (at : ℕ) → at ≡ L.width * length l → L.width ≤ length rest →
      sets (in_memory L l ++ rest) at (L.store x) ≡ in_memory L (l ++ (x ∷ [])) ++ drop L.width rest
  memory-push l x rest at e h =
      let m = L.stored x in
      write_at_lem (in_memory L l) rest (L.store x) at (memory-length l ∙ sym e) (omega arith)
      ∙ rw (memory-snoc l x, L.stored x)

module _ {C A : Type 0} (M : Stored C A) where
  abbrev W : ℕ
  W = M.in_front.width

  abbrev E : ℕ
  E = M.in_back.width

  abbrev Front : List A → List C
  Front l = in_memory M.in_front (front_stack M.moment l)

  pub stack-length : (l : List A) → length (front_stack M.moment l) ≡ length l
  unfolding front_stack
  stack-length [] = refl
  stack-length (x ∷ l) = length-append (front_stack M.moment l) (M.moment.insert (falling M.moment l) x ∷ []) ∙ rw (stack-length l) (omega arith)

  pub front_length : (l : List A) → length (Front l) ≡ W * length l
  front_length l = memory-length M.in_front (front_stack M.moment l) ∙ rw (stack-length l)

  -- entries that leave the front leave their states on its top
  pub front-drop : (k : ℕ) (l : List A) → take (W * length (drop k l)) (Front l) ≡ Front (drop k l)
  unfolding front_stack in_memory
  front-drop zero l = rw (← front_length) (take-length (Front l))
  front-drop (suc k) [] = rw mul-zero
  front-drop (suc k) (x ∷ l) =
      let e : length (drop k l) ≤ length l = rw length-drop (omega arith) in
      let n : W * length (drop k l) ≤ length (Front l) = rw front_length (mul-le-mul_left W e) in
      rw (memory-append M.in_front (front_stack M.moment l) (M.moment.insert (falling M.moment l) x ∷ []), take-append-le) (front-drop k l)

  -- a state written on the top
  front-push : (l : List A) (x : A) (rest : List C) (at : ℕ) → at ≡ W * length l → W ≤ length rest →
      sets (Front l ++ rest) at (M.in_front.store (M.moment.insert (falling M.moment l) x)) ≡ Front (x ∷ l) ++ drop W rest
  unfolding front_stack
  front-push l x rest at e h =
      memory-push M.in_front (front_stack M.moment l) (M.moment.insert (falling M.moment l) x) rest at (e ∙ rw (stack-length l)) h

-- entry j of a list
cons_at_lem : {A : Type 0} (l : List A) (j : ℕ) → j < length l → (x : A) × (l ≡ take j l ++ (x ∷ drop (suc j) l)) × (drop j l ≡ x ∷ drop (suc j) l)
cons_at_lem [] j h = absurd (omega arith)
cons_at_lem (x ∷ l) zero h = (x, refl, refl)
cons_at_lem (x ∷ l) (suc j) h = let i = cons_at_lem l j (omega arith) in (i.0, ap (λ m. x ∷ m) i.1, i.2)

-- ---- a flip: the turns of its loop

-- where the last k of the list B are turned over, which stands n entries long in the back stack: l₀ is the work slice at first, l now
pub record Flip {C A : Type 0} (M : Stored C A) (l₀ : List C) (n : ℕ) (B : List A) (l : List C) (agg : M.moment.State) (k : ℕ) : Type 0 where
  pub agg_is : agg ≡ falling M.moment (drop (n - k) B)
  pub list_is : l ≡ in_memory M.in_front (front_stack M.moment (drop (n - k) B)) ++ drop (M.in_front.width * k) l₀

module _ {C A : Type 0} (M : Stored C A) (l₀ : List C) (base n : ℕ) (B : List A) (fits : base + E M * n ≤ length l₀)
    (standing : take (E M * n) (drop base l₀) ≡ in_memory M.in_back B) where
  -- what is read at place j of the back stack, which the front stack has not reached
  read_is : (l F : List C) (at j : ℕ) (x : A) → B ≡ take j B ++ (x ∷ drop (suc j) B) → j < length B → length F ≡ at → at ≤ base →
      l ≡ F ++ drop at l₀ → M.in_back.load (drop (base + E M * j) l) ≡ x
  read_is l F at j x e h f g k =
      let p : base + E M * j ≡ length F + (base + E M * j - at) = omega arith in
      let q : at + (base + E M * j - at) ≡ base + E M * j = omega arith in
      let r : drop (base + E M * j) l ≡ drop (E M * j) (drop base l₀) =
      ap (drop (base + E M * j)) k ∙ ap (λ (i : ℕ). drop i (F ++ drop at l₀)) p
      ∙ rw (drop-append-add F (drop at l₀) (base + E M * j - at), drop-drop (base + E M * j - at) at l₀, q, drop-drop (E M * j) base l₀) in
      let s : drop base l₀ ≡ in_memory M.in_back (take j B ++ (x ∷ drop (suc j) B)) ++ drop (E M * n) (drop base l₀) =
      sym (take-append-drop (E M * n) (drop base l₀)) ∙ ap (λ (m : List C). m ++ drop (E M * n) (drop base l₀)) (standing ∙ ap (in_memory M.in_back) e) in
      let t : length (take j B) ≡ j = rw length-take (omega arith) in
      ap M.in_back.load (r ∙ ap (drop (E M * j)) s)
      ∙ memory-read M.in_back (take j B) x (drop (suc j) B) (drop (E M * n) (drop base l₀)) (E M * j) (rw t)

module _ {C A : Type 0} {M : Stored C A} {l₀ : List C} {n : ℕ} {B : List A} (many : n ≡ length B) where
  pub flip-start : {agg : M.moment.State} → agg ≡ M.moment.empty → Flip M l₀ n B l₀ agg 0
  unfolding in_memory front_stack
  flip-start e =
      let o : length B ≤ n - 0 = omega arith in
      let z : drop (n - 0) B ≡ [] = drop_of_length-le B o in
      record { agg_is = rw z e; list_is = rw (z, mul-zero) }

  pub flip-done : {l : List C} {agg : M.moment.State} {k : ℕ} → Flip M l₀ n B l agg k → k ≡ n → l ≡ Front M B ++ drop (W M * n) l₀
  flip-done {l} {k = k} f e =
      let z : n - k ≡ 0 = omega arith in
      rw (← e) (subst (λ (i : ℕ). l ≡ Front M (drop i B) ++ drop (W M * k) l₀) z f.list_is)

  module _ {base : ℕ} (room : W M * n ≤ base) (fits : base + E M * n ≤ length l₀) (standing : take (E M * n) (drop base l₀) ≡ in_memory M.in_back B) where
    -- one entry more is turned over
    pub flip-turn : {l : List C} {agg : M.moment.State} {k : ℕ} → Flip M l₀ n B l agg k → k < n →
        (x : A) → x ≡ M.in_back.load (drop (base + E M * (n - 1 - k)) l) → (u : M.moment.State) → u ≡ M.moment.insert agg x →
        Flip M l₀ n B (sets l (W M * k) (M.in_front.store u)) u (k + 1)
    flip-turn {l} {agg} {k} f h x e u g =
        let j = n - 1 - k in
        let v = cons_at_lem B j (omega arith) in
        let a : n - k ≡ suc j = omega arith in
        let b : n - (k + 1) ≡ j = omega arith in
        let F = drop (suc j) B in
        let lf : length F ≡ k = rw length-drop (omega arith) in
        let fl : length (Front M F) ≡ W M * k = front_length M F ∙ rw lf in
        let m : W M * k + W M ≤ W M * n = let y = simp mul-suc at (mul-le-mul_left (W M) (let z : suc k ≤ n = omega arith in z)) in omega arith in
        let p : l ≡ Front M F ++ drop (W M * k) l₀ = rw (← a) f.list_is in
        let r = e ∙ read_is M l₀ base n B fits standing l (Front M F) (W M * k) j v.0 v.1 (omega arith) fl (omega arith) p in
        let i : u ≡ M.moment.insert (falling M.moment F) v.0 = g ∙ rw (r, f.agg_is, a) in
        let w : W M ≤ length (drop (W M * k) l₀) = rw length-drop (omega arith) in
        let next : W M * (k + 1) ≡ W M * k + W M = rw (add-one, mul-suc) (omega arith) in
        record {
          agg_is = rw (b, v.2) i;
          list_is = rw (p, i, front-push M F v.0 (drop (W M * k) l₀) (W M * k) (rw lf) w, drop-drop (W M) (W M * k) l₀, b, v.2, next);
        }

-- ---- entries appended: the turns of the loop, where the places before i are done
abbrev Entries : {A : Type 0} → Series A → ℕ → ℕ → List A
Entries t a i = entries t.places.valid t.entry a i

module _ {C A : Type 0} {M : Stored C A} {t : Series A} {l₀ : List C} {n nonfinite₀ : ℕ} {s₀ : M.moment.State} {a : ℕ} where
  pub append-start : Appended M t l₀ n nonfinite₀ s₀ a a l₀ n nonfinite₀ s₀
  unfolding in_memory
  append-start =
      record {
        list_is = rw (entries-self t.places.valid t.entry, entries-self t.places.valid (λ j. j), add-zero, append-nil) (sym (take-append-drop (E M * n) l₀));
        many_is = rw (entries-self t.places.valid (λ j. j)) (sym (add-zero n));
        nonfinite_is = rw (entries-self t.places.nonfinite (λ j. j)) (sym (add-zero nonfinite₀));
        agg_is = rw (entries-self t.places.valid t.entry);
      }

  module _ {l : List C} {many nonfinite : ℕ} {s : M.moment.State} {i : ℕ} (p : Appended M t l₀ n nonfinite₀ s₀ a i l many nonfinite s) (low : a ≤ i) where
    -- no more are appended, and no more are not finite, than places are done
    pub append_le : (many ≤ n + (i - a)) × (nonfinite ≤ nonfinite₀ + (i - a))
    append_le =
        let k = count-le t.places.valid (λ j. j) a i in
        let f = count-le t.places.nonfinite (λ j. j) a i in
        let o = p.many_is in
        let q = p.nonfinite_is in
        (omega arith, omega arith)

    module _ {e : ℕ} (more : i < e) (room : E M * (n + valid_count t.places a e) ≤ length l₀) (v : t.places.valid i ≡ true) where
      -- a valid place has room behind the entries
      pub append-room : E M * many + E M ≤ length l₀
      append-room =
          let u = count-up t.places.valid (λ j. j) a (i + 1) e (omega arith) (omega arith) in
          let m = count-more t.places.valid (λ j. j) a i low true (sym v) in
          let q : n + valid_count t.places a i + 1 ≤ n + valid_count t.places a e = omega arith in
          let r = simp (add-one, mul-suc) at (mul-le-mul_left (E M) q) in
          rw p.many_is (omega arith)

      -- a valid place
      pub append-hit : (x : A) → x ≡ t.entry i → (u : M.moment.State) → u ≡ M.moment.insert s x → (z : Bool) → z ≡ t.places.nonfinite i →
          Appended M t l₀ n nonfinite₀ s₀ a (i + 1) (sets l (E M * many) (M.in_back.store x)) (many + 1) (nonfinite + bool_byte z) u
      append-hit x f u g z y =
          let at = E M * many in
          let m = count-more t.places.valid (λ j. j) a i low true (sym v) in
          let b = count-more t.places.nonfinite (λ j. j) a i low z y in
          let q = p.nonfinite_is in
          let r = p.many_is in
          let o : E M * many + E M ≤ length l₀ = append-room in
          let d : Entries t a (i + 1) ≡ Entries t a i ++ (x ∷ []) = entries-snoc t.places.valid t.entry a i low ∙ rw (v, f) in
          let head = take (E M * n) l₀ ++ in_memory M.in_back (Entries t a i) in
          let rest = drop (E M * (n + valid_count t.places a i)) l₀ in
          let at-is : at ≡ E M * (n + valid_count t.places a i) = ap (λ (j : ℕ). E M * j) r in
          let long : length head ≡ at =
          length-append (take (E M * n) l₀) (in_memory M.in_back (Entries t a i))
          ∙ rw (length-take, memory-length M.in_back (Entries t a i), many-chosen t.places.valid t.entry a i, at-is) (let h = simp (at-is, mul-add) at o in simp mul-add (omega arith)) in
          let fits : length (M.in_back.store x) ≤ length rest = rw (M.in_back.stored x, length-drop) (omega arith) in
          let past : E M * (n + valid_count t.places a i) + E M ≡ E M * (n + valid_count t.places a (i + 1)) = rw m (simp mul-add (omega arith)) in
          record {
            list_is = rw (p.list_is, write_at_lem head rest (M.in_back.store x) at long fits, M.in_back.stored x, drop-drop, past, d, memory-snoc M.in_back (Entries t a i) x)
                (simp append_assoc);
            many_is = omega arith;
            nonfinite_is = omega arith;
            agg_is = rw d (g ∙ ap (λ (y : M.moment.State). M.moment.insert y x) p.agg_is ∙ sym (foldl-append M.moment.insert s₀ (Entries t a i) (x ∷ [])));
          }

    -- a place that is not valid
    pub append-miss : t.places.valid i ≡ false → t.places.nonfinite i ≡ false → Appended M t l₀ n nonfinite₀ s₀ a (i + 1) l many nonfinite s
    append-miss v z =
        let d : Entries t a (i + 1) ≡ Entries t a i = entries-snoc t.places.valid t.entry a i low ∙ rw (v, append-nil) in
        let m = count-more t.places.valid (λ j. j) a i low false (sym v) in
        let f = count-more t.places.nonfinite (λ j. j) a i low false (sym z) in
        let o = p.many_is in
        let q = p.nonfinite_is in
        let c : valid_count t.places a (i + 1) ≡ valid_count t.places a i = omega arith in
        record { list_is = rw (d, c) p.list_is; many_is = omega arith; nonfinite_is = omega arith; agg_is = rw d p.agg_is }

-- readings in memory are themselves
pub flat : (l : List Float) → in_memory reading l ≡ l
unfolding in_memory
flat [] = refl
flat (x ∷ l) = rw (flat l)
