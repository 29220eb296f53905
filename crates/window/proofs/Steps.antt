-- The parts of a move and of a row as the code works them, each over any moment: where one may begin, the next may, and what each leaves.
-- An engine cites one law for each of its facts. Assumes nothing.
use Prim.Native.Nat.{ℕ, ◌+◌, ◌-◌, ◌*◌, ◌^◌, ◌≤◌, ◌<◌}
use mathlib.Core.Path.{◌≡◌, refl, ap, ◌∙◌, subst}
use mathlib.Core.Bool.{Bool, true, false}
use mathlib.Core.List.{List}
use native.Mathlib.Nat.{add-mul, mul-le-mul_left}
use native.Mathlib.Omega.{arith}
use borrow.Rule.Slice.PartMut.{put_mid}
use lib.ListN.{length, take, drop}
use Rattle.moment.specs.declared.Figure.{Figure}
use Rattle.plan.specs.Plan.{Plan, rows, row_start, row_end}
use Rattle.window.specs.Places.{Series}
use Rattle.window.specs.Window.{extended, back}
use Rattle.window.specs.Rows.{moves, answer_at}
use Rattle.window.specs.Code.Memory.{Stored}
use Rattle.window.specs.Code.Stacks.{grown, account, Trims, Held, Appended, answer_by, Movable, Flipped, Trimmable, Extendable, Appendable, Trimmed, Extended, Updated, Stepped, Workable, Worked, base_of, place_width}
use Rattle.window.specs.declared.Window.{Window}
use Rattle.window.proofs.Moves.{flip-empties, out-emptied, out-kept, out-flipped, in-fits, in_appended, held_counts, trimmed_ends, rest_both}
use Rattle.window.proofs.Rows.{stand-next, row-ready, row_fits, row_inside, row-answer}

module _ {C A : Type 0} (M : Stored C A) (t : Series A) where
  -- ---- the places that leave
  module _ {base s n : ℕ} {w : Window} {agg : M.moment.State} {work : List C} (p : Trimmable M t base s n w agg work)
      {w' : Window} {flips : Bool} (trims : Trims t.places w s w' flips) where
    pub trim-flips : flips ≡ true → {work' : List C} → Flipped M base w.back work work' → {agg' : M.moment.State} → agg' ≡ M.moment.empty →
        Trimmed M t base s w work w' agg' work'
    trim-flips z {work'} f {agg'} e =
        let d = out-flipped M t base s w w' flips agg work p.held trims p.starts p.flippable.front_room p.flippable.back_room z work'
        (f (back t (account w)) p.held.back_at) agg' e in
        record { held = d.0; to = trims.to; rest = d.1 }

    pub trim-flip-empties : flips ≡ true → w'.back ≡ 0
    trim-flip-empties z = flip-empties M t base s w w' flips agg work p.held trims p.starts z

    pub trim-empties : flips ≡ false → w'.back ≡ 0 → {agg' : M.moment.State} → agg' ≡ M.moment.empty → Trimmed M t base s w work w' agg' work
    trim-empties z h {agg'} e =
        record { held = out-emptied M t base s w w' flips agg work p.held trims p.starts z h agg' e; to = trims.to; rest = refl }

    pub trim-keeps : flips ≡ false → (w'.back ≡ 0 → ⊥) → Trimmed M t base s w work w' agg work
    trim-keeps z h =
        record { held = out-kept M t base s w w' flips agg work p.held trims p.starts z h; to = trims.to; rest = refl }

  -- ---- the places that enter
  module _ {base widest e n : ℕ} {w : Window} {agg : M.moment.State} {work : List C} (p : Extendable M t base widest e n w agg work) where
    pub extend-appendable : Appendable M t w.end e n w.back w.nonfinite (take (length work - base) (drop base work))
    extend-appendable =
        let f = in-fits M t base e w agg work p.held p.ends widest p.wide p.front_room p.back_room in
        let k = held_counts M t base w agg work p.held in
        let i = p.end_in in
        let o = p.few in
        record { rises = p.ends; inside = i; room = f.0; nonfinite_le = f.1; many_le = omega arith; few = omega arith }

    pub extend-appended : {ys : List C} {many bad : ℕ} {state : M.moment.State}
        → Appended M t (take (length work - base) (drop base work)) w.back w.nonfinite agg w.end e ys many bad state
        → {w' : Window} → w' ≡ grown w e many bad → Extended M t base widest e w work w' state (put_mid base (length work - base) work ys)
    extend-appended {ys} {many} {bad} {state} a {w'} g =
        let d = in_appended M t base e w agg work p.held p.ends widest p.wide p.front_room p.back_room ys many bad state a in
        rw g (record { held = d.0; to = refl; rest = d.1 })

  -- ---- a whole move
  module _ {s e n widest : ℕ} {w : Window} {agg : M.moment.State} {work : List C} (p : Movable M t s e n widest w agg work) where
    both : place_width M * widest ≡ base_of M widest + M.in_back.width * widest
    both = add-mul M.in_front.width M.in_back.width widest

    pub update-trimmable : Trimmable M t (base_of M widest) s n w agg work
    update-trimmable =
        let k = held_counts M t (base_of M widest) w agg work p.held in
        let r = p.ready in
        let i = r.starts in
        let j = r.old in
        let b = r.ends in
        let m = r.within in
        let x = r.row in
        let q : place_width M * widest ≤ length work = p.room in
        let q' : base_of M widest + M.in_back.width * widest ≤ length work = rw (← both) q in
        let o : w.back ≤ widest = omega arith in
        let f = mul-le-mul_left M.in_front.width o in
        let g = mul-le-mul_left M.in_back.width o in
        let z = p.few in
        record {
          held = p.held;
          starts = i;
          start_in = omega arith;
          end_in = omega arith;
          flippable = record { front_room = f; back_room = omega arith; few = omega arith };
        }

    module _ {w' : Window} {agg' : M.moment.State} {work' : List C} (q : Trimmed M t (base_of M widest) s w work w' agg' work') (same : length work' ≡ length work) where
      pub update-extendable : Extendable M t (base_of M widest) widest e n w' agg' work'
      update-extendable =
          let l = trimmed_ends t.places.valid w w' s q.to in
          let a = l.0 in
          let b = l.1 in
          let r = p.ready in
          let x = r.row in
          let y = r.ends in
          let i = r.new in
          let u : base_of M widest + M.in_back.width * widest ≤ length work = rw (← both) p.room in
          record {
            held = q.held;
            ends = omega arith;
            end_in = r.within;
            wide = omega arith;
            front_room = omega arith;
            back_room = omega arith;
            few = p.few;
          }

      pub updated : {w'' : Window} {agg'' : M.moment.State} {work'' : List C} → Extended M t (base_of M widest) widest e w' work' w'' agg'' work''
          → Updated M t widest s e w work w'' agg'' work''
      updated {work'' = work''} i =
          record {
            held = i.held;
            to = i.to ∙ ap (λ a. extended a e) q.to;
            rest = rest_both work'' work' work (base_of M widest) (M.in_back.width * widest) (place_width M * widest) both i.rest q.rest;
          }

  -- ---- a row's part in the window
  pub step-moves : (widest min_periods k s e : ℕ) (w : Window) {w' : Window} {agg' : M.moment.State} {work work' : List C}
      → moves t.places.mapped min_periods k s e ≡ true → Updated M t widest s e w work w' agg' work' → Stepped M t widest min_periods k s e w work w' agg' work'
  step-moves widest min_periods k s e w b u = record { held = u.held; to = rw b u.to; rest = u.rest }

  pub step_stays : (widest min_periods k s e : ℕ) (w : Window) {agg : M.moment.State} {work : List C}
      → moves t.places.mapped min_periods k s e ≡ false → Held M t (base_of M widest) w agg work → Stepped M t widest min_periods k s e w work w agg work
  step_stays widest min_periods k s e w b h = record { held = h; to = rw b; rest = refl }

-- ---- the rows from `first` up to `until`, where the rows before row k are done
pub record Working {C A : Type 0} (M : Stored C A) (t : Series A) (min_periods n widest : ℕ) (p : Plan) (first until : ℕ) (work₀ : List C)
    (w : Window) (agg : M.moment.State) (work : List C) (k : ℕ) : Type 0 where
  pub low : first ≤ k
  pub high : k ≤ until
  pub same : length work ≡ length work₀
  pub worked : Worked M t min_periods n widest p k work₀ w agg work

module _ {C A : Type 0} (M : Stored C A) (t : Series A) {min_periods n widest : ℕ} {p : Plan} {outputs first until : ℕ} {w₀ : Window} {agg₀ : M.moment.State} {work₀ : List C}
    (can : Workable M t min_periods n widest p outputs first until w₀ agg₀ work₀) where
  abbrev At : Window → M.moment.State → List C → ℕ → Type 0
  At w agg work k = Working M t min_periods n widest p first until work₀ w agg work k

  pub work-starts : At w₀ agg₀ work₀ first
  work-starts = record { low = omega arith; high = can.rises; same = refl; worked = record { standing = can.standing; rest = refl } }

  pub work-done : {w : Window} {agg : M.moment.State} {work : List C} {k : ℕ} → At w agg work k → until ≤ k → Worked M t min_periods n widest p until work₀ w agg work
  work-done {w} {agg} {work} {k} v h =
      let u = v.high in
      let e : k ≡ until = omega arith in
      subst (λ (i : ℕ). Worked M t min_periods n widest p i work₀ w agg work) e v.worked

  module _ {w : Window} {agg : M.moment.State} {work : List C} {k : ℕ} (v : At w agg work k) (more : k < until) where
    pub work-listed : k < rows p
    work-listed = let l = can.listed in omega arith

    module _ {s e : ℕ} (s-is : s ≡ row_start p k) (e-is : e ≡ row_end p k) where
      pub work-movable : Movable M t s e n widest w agg work
      work-movable =
          record {
            held = v.worked.standing.held;
            ready = row-ready M t min_periods n widest p can.plan v.worked.standing work-listed s e s-is e-is;
            room = rw v.same can.room;
            few = can.few;
          }

      module _ {w' : Window} {agg' : M.moment.State} {work' : List C} (q : Stepped M t widest min_periods k s e w work w' agg' work') (same : length work' ≡ length work) where
        -- the front stack lies in the work slice, and the window's counts and bounds are in order
        pub work_fits : (M.in_front.width * w'.front ≤ length work') × (w'.front + w'.back ≤ 2 ^ 53) × (s ≤ e)
        work_fits =
            let l = v.same in
            let u : base_of M widest + M.in_back.width * widest ≤ length work₀ = rw (← add-mul M.in_front.width M.in_back.width widest) can.room in
            let f = row_fits M t min_periods n widest p can.plan v.worked.standing work-listed s e s-is e-is w' agg' work' q.to q.held (omega arith) in
            let i = row_inside M t min_periods n widest p can.plan v.worked.standing work-listed s e s-is e-is w' q.to in
            let a = f.1 in
            let z = can.few in
            (f.0, omega arith, f.2)

        pub work-next : At w' agg' work' (k + 1)
        work-next =
            let l = v.low in
            record {
              low = omega arith;
              high = omega arith;
              same = same ∙ v.same;
              worked = record {
                standing = stand-next M t min_periods n widest p can.plan v.worked.standing work-listed s e s-is e-is q.to q.held;
                rest = q.rest ∙ v.worked.rest;
              };
            }

        pub work-answer : (final : M.moment.State → Figure) {f : Figure} → f ≡ answer_by M final t.places.mapped min_periods s e w' agg' work'
            → f ≡ answer_at M.moment final t min_periods p k
        work-answer final g = row-answer M t min_periods n widest p can.plan v.worked.standing work-listed s e s-is e-is final q.to q.held g
