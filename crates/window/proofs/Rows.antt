-- The rows of a plan, for any moment: with the window of the account after k rows, the next row's step and figure are the
-- account's. Assumes nothing.
use Prim.Native.Nat.{ℕ, suc, ◌+◌, ◌-◌, ◌*◌, ◌≤◌, ◌<◌}
use mathlib.Core.Path.{◌≡◌, refl, sym, ap, ◌∙◌, subst}
use mathlib.Core.Bool.{Bool, true, false, cond, ◌||◌}
use mathlib.Core.List.{List, [], ◌∷◌, ◌++◌, append_assoc}
use native.Mathlib.Nat.{mul-zero, mul-le-mul_left, le_trans}
use native.Mathlib.Numerals.{add-one}
use native.Mathlib.Omega.{arith}
use borrow.Author.Tests.{ne_eqb, le-leb, lt-leb}
use lib.Dec.{eqb}
use lib.ListN.{length, drop, take-append-drop}
use lib.Seq.{drop_at}
use Rattle.float.proofs.Cases.{apart}
use Rattle.moment.specs.declared.Figure.{Figure}
use Rattle.plan.specs.Plan.{Plan, rows, row_start, row_end}
use Rattle.plan.specs.Code.Accepted.{Planned}
use Rattle.window.specs.Places.{Series, valid_count}
use Rattle.window.specs.Window.{Account, front, moved, falling, or_nan, figure_of}
use Rattle.window.specs.Rows.{moves, stepped, account_at, counted, answer_of, answer_at}
use Rattle.window.specs.Code.Memory.{Stored, in_memory}
use Rattle.window.specs.Code.Stacks.{front_stack, empty_at, account, Held, top_of, answer_by, Ready, Standing}
use Rattle.window.specs.declared.Window.{Window}
use Rattle.window.proofs.Places.{two-counts, entries-self}
use Rattle.window.proofs.Stacks.{memory-append, front_length}
use Rattle.window.proofs.Moves.{front-many, held_counts}

module _ {C A : Type 0} (M : Stored C A) where
  -- the state on the front stack's top
  top-of : (l : List A) (rest : List C) → top_of M (in_memory M.in_front (front_stack M.moment l) ++ rest) (length l) ≡ falling M.moment l
  unfolding top_of front_stack in_memory
  top-of [] rest = refl
  top-of (x ∷ l) rest =
      let n : suc (length l) - 1 ≡ length l = omega arith in
      let s = M.moment.insert (falling M.moment l) x in
      rw (
        ne_eqb (suc (length l)) 0 (λ z. omega arith),
        n,
        memory-append M.in_front (front_stack M.moment l) (s ∷ []),
        append_assoc,
        append_assoc,
        drop_at (in_memory M.in_front (front_stack M.moment l)) (M.in_front.store s ++ ([] ++ rest)) (M.in_front.width * length l) (front_length M l),
      )
      (M.in_front.loaded s rest)

  module _ (final : M.moment.State → Figure) (t : Series A) (base : ℕ) (w : Window) (agg : M.moment.State) (work : List C) (held : Held M t base w agg work) where
    pub top-is : top_of M work w.front ≡ falling M.moment (front t (account w))
    top-is =
        let p : work ≡ in_memory M.in_front (front_stack M.moment (front t (account w))) ++ drop (M.in_front.width * w.front) work =
        sym (take-append-drop (M.in_front.width * w.front) work)
        ∙ ap (λ (y : List C). y ++ drop (M.in_front.width * w.front) work) held.front_at in
        ap (λ (y : List C). top_of M y w.front) p
        ∙ rw (front-many t w held.numbers) (top-of (front t (account w)) (drop (M.in_front.width * length (front t (account w))) work))

    pub figure-is : or_nan w.nonfinite (final (M.moment.combine agg (top_of M work w.front))) ≡ figure_of M.moment final t (account w)
    unfolding figure_of
    figure-is = rw (top-is, held.numbers.nonfinite_is, held.agg_is)

    -- the answer, by the window's numbers
    module _ (min_periods s e : ℕ) (h : t.places.mapped ≡ true → (w.start ≡ s) × (w.end ≡ e)) where
      counted_is : cond t.places.mapped (w.front + w.back) (e - s) ≡ counted t.places s e
      counted_is = go t.places.mapped h
        where
          go : (b : Bool) → (b ≡ true → (w.start ≡ s) × (w.end ≡ e)) → cond b (w.front + w.back) (e - s) ≡ cond b (valid_count t.places s e) (e - s)
          go false g = refl
          go true g =
              let c = held.numbers in
              rw (← (g refl).0, ← (g refl).1, c.front_is, c.back_is) (two-counts t.places.valid (λ j. j) w.start w.split w.end c.start_le c.split_le)

      pub answer-is : answer_by M final t.places.mapped min_periods s e w agg work ≡ answer_of M.moment final t min_periods s e (account w)
      unfolding answer_of
      answer-is = rw (counted_is, figure-is)

-- ---- the rows of a plan: the turns of the loop
module _ {C A : Type 0} (M : Stored C A) (t : Series A) (min_periods n widest : ℕ) (p : Plan) where
  abbrev Stands : Window → M.moment.State → List C → ℕ → Type 0
  Stands w agg work k = Standing M t min_periods n widest p w agg work k

  pub stand-start : (agg : M.moment.State) → agg ≡ M.moment.empty → (work : List C) → Stands (empty_at 0) agg work 0
  unfolding account_at in_memory front_stack
  stand-start agg e work =
      let z = entries-self t.places.valid t.entry 0 in
      let x = entries-self t.places.valid (λ j. j) 0 in
      let y = entries-self t.places.nonfinite (λ j. j) 0 in
      record {
        upto = omega arith;
        held = record {
          numbers = record { start_le = omega arith; split_le = omega arith; front_is = rw x; back_is = rw x; nonfinite_is = rw y };
          agg_is = rw z e;
          front_at = rw (mul-zero, z);
          back_at = rw (mul-zero, z);
        };
        at = refl;
        wide = omega arith;
        inside = omega arith;
        ahead = λ j g h. (omega arith, omega arith);
      }

  -- what is known of the window after row k's step
  pub record Beyond (w : Window) (k : ℕ) : Type 0 where
    pub wide : w.end ≤ w.start + widest
    pub inside : w.end ≤ n
    pub ahead : (j : ℕ) → k + 1 ≤ j → j < rows p → (w.start ≤ row_start p j) × (w.end ≤ row_end p j)
    pub mapped : t.places.mapped ≡ true → (w.start ≡ row_start p k) × (w.end ≡ row_end p k)

  module _ (plan : Planned n widest p) {work : List C} {w : Window} {agg : M.moment.State} {k : ℕ}
      (row : Stands w agg work k) (more : k < rows p) (s e : ℕ) (s-is : s ≡ row_start p k) (e-is : e ≡ row_end p k) where
    pub row-ready : Ready w s e n widest
    row-ready =
        rw (s-is, e-is)
        (let q = plan.row k more in
        let a = row.ahead k (omega arith) more in
        let i = row.wide in
        record { starts = a.0; row = q.0; ends = a.1; within = q.1; old = i; new = q.2 })

    -- the account after the row's step
    abbrev Moved : Window → ℕ → ℕ → Type 0
    Moved w' x y = account w' ≡ stepped t.places.valid t.places.mapped min_periods k x y (account w)

    as-listed : (w' : Window) → Moved w' s e → Moved w' (row_start p k) (row_end p k)
    as-listed w' f = subst (λ (y : ℕ). Moved w' (row_start p k) y) e-is (subst (λ (x : ℕ). Moved w' x e) s-is f)

    row-stepped : (w' : Window) → Moved w' s e → Beyond w' k
    row-stepped w' f = go (moves t.places.mapped min_periods k (row_start p k) (row_end p k)) refl
      where
        here-now : account w' ≡ moved t.places.valid (account w) (row_start p k) (row_end p k) → Beyond w' k
        here-now g =
            let x : w'.start ≡ row_start p k = ap (λ (a : Account). a.start) g in
            let y : w'.end ≡ row_end p k = ap (λ (a : Account). a.end) g in
            let q = plan.row k more in
            record {
              wide = omega arith;
              inside = omega arith;
              ahead = λ j i h. (rw x (plan.rising k j (omega arith) h).0, rw y (plan.rising k j (omega arith) h).1);
              mapped = λ _. (x, y);
            }

        as_before : account w' ≡ account w → (t.places.mapped ≡ true → ⊥) → Beyond w' k
        as_before g q =
            let x : w'.start ≡ w.start = ap (λ (a : Account). a.start) g in
            let y : w'.end ≡ w.end = ap (λ (a : Account). a.end) g in
            let i = row.wide in
            let o = row.inside in
            record {
              wide = omega arith;
              inside = omega arith;
              ahead = λ j i h. (rw x (row.ahead j (omega arith) h).0, rw y (row.ahead j (omega arith) h).1);
              mapped = λ z. absurd (q z);
            }

        no-map : (b u : Bool) → (b || u) ≡ false → b ≡ true → ⊥
        no-map true u f q = apart (sym f)
        no-map false u f q = apart q

        go : (u : Bool) → moves t.places.mapped min_periods k (row_start p k) (row_end p k) ≡ u → Beyond w' k
        go true u = here-now (as-listed w' f ∙ rw u)
        go false u = as_before (as-listed w' f ∙ rw u) (no-map t.places.mapped _ u)

    -- the window after the step lies in the work slice
    pub row_fits : (w' : Window) (agg' : M.moment.State) (work' : List C) → Moved w' s e → Held M t (M.in_front.width * widest) w' agg' work' →
        M.in_front.width * widest ≤ length work' → (M.in_front.width * w'.front ≤ length work') × (w'.front + w'.back ≤ w'.end) × (s ≤ e)
    row_fits w' agg' work' y held room =
        let c = held_counts M t (M.in_front.width * widest) w' agg' work' held in
        let i = (row-stepped w' y).wide in
        let o : w'.front ≤ widest = omega arith in
        let r = row-ready.row in
        (le_trans (mul-le-mul_left M.in_front.width o) room, omega arith, r)

    pub row_inside : (w' : Window) → Moved w' s e → w'.end ≤ n
    row_inside w' y = (row-stepped w' y).inside

    -- the row's figure is its answer
    pub row-answer : (final : M.moment.State → Figure) {w' : Window} {agg' : M.moment.State} {work' : List C} {f : Figure} →
        Moved w' s e → Held M t (M.in_front.width * widest) w' agg' work' → f ≡ answer_by M final t.places.mapped min_periods s e w' agg' work' → f ≡ answer_at M.moment final t min_periods p k
    unfolding account_at answer_at
    row-answer final {w'} {agg'} {work'} {f} y held g =
        let u = row-stepped w' y in
        let a : account w' ≡ account_at t.places.valid t.places.mapped min_periods p (suc k) = as-listed w' y ∙ ap (λ (x : Account). stepped t.places.valid t.places.mapped min_periods k (row_start p k) (row_end p k) x) row.at in
        let m : t.places.mapped ≡ true → (w'.start ≡ s) × (w'.end ≡ e) = λ z. ((u.mapped z).0 ∙ sym s-is, (u.mapped z).1 ∙ sym e-is) in
        g ∙ answer-is M final t (M.in_front.width * widest) w' agg' work' held min_periods s e m
        ∙ rw (s-is, e-is) (ap (answer_of M.moment final t min_periods (row_start p k) (row_end p k)) a)

    pub stand-next : {w' : Window} {agg' : M.moment.State} {work' : List C} → Moved w' s e → Held M t (M.in_front.width * widest) w' agg' work' → Stands w' agg' work' (k + 1)
    unfolding account_at
    stand-next {w'} {agg'} {work'} y held =
        let u = row-stepped w' y in
        let a : account w' ≡ account_at t.places.valid t.places.mapped min_periods p (suc k) = as-listed w' y ∙ ap (λ (x : Account). stepped t.places.valid t.places.mapped min_periods k (row_start p k) (row_end p k) x) row.at in
        record {
          upto = omega arith;
          held = held;
          at = rw add-one a;
          wide = u.wide;
          inside = u.inside;
          ahead = u.ahead;
        }

-- whether a row moves the window, by the tests in the code's order
pub moves_long : (mapped : Bool) (min_periods k s e : ℕ) → min_periods ≤ e - s → true ≡ moves mapped min_periods k s e
moves_long mapped min_periods k s e h = rw (le-leb min_periods (e - s) h) (go mapped (eqb k 0))
  where
    go : (b u : Bool) → true ≡ (b || (u || true))
    go true u = refl
    go false true = refl
    go false false = refl

pub moves_first : (mapped : Bool) (min_periods k s e : ℕ) → e - s < min_periods → mapped ≡ false → eqb k 0 ≡ moves mapped min_periods k s e
moves_first mapped min_periods k s e h z = rw (z, lt-leb min_periods (e - s) h) (go (eqb k 0))
  where
    go : (u : Bool) → u ≡ (u || false)
    go true = refl
    go false = refl
