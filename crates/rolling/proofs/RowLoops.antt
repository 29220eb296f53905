-- The loops over rows, for any moment and any kind of entry: a row's bounds, its step and its answer go from row to row, and from the first row to
-- the last they leave what a call leaves. Assumes nothing.
use Rattle.std.proofs.Common.{◌≡◌, ℕ, ◌+◌, ◌*◌, ◌^◌, ◌<◌, ◌≤◌, min, List, [], ◌∷◌, length, sym, refl, ◌∙◌, ap, subst, le_refl, arith}
use lib.Ieee.{Float}
use Rattle.moment.specs.declared.Figure.{Figure}
use Rattle.plan.specs.Plan.{Plan, rows}
use Rattle.plan.specs.Bounds.{next_offsets}
use Rattle.plan.specs.Refusals.{needed}
use Rattle.plan.specs.Code.Reaching.{reaching, StepsTo}
use Rattle.plan.specs.declared.bounds.Offsets.{Offsets}
use Rattle.plan.proofs.FixedWindows.{reaching_rows, start-at, end-at, Reaches, reaches-first, reaches-next}
use Rattle.window.specs.Places.{Series}
use Rattle.window.specs.Outputs.{Column, column, kept, answered, shortest_of, answer_lengths}
use Rattle.window.specs.Code.Memory.{Stored}
use Rattle.window.specs.Code.Stacks.{empty_at, answer_by, Movable, Stepped, Workable, place_width}
use Rattle.window.specs.Code.Filling.{RowThere, RowSet, ColumnsFill, row_of, RowsSet, AllSameLong, AllThere}
use Rattle.window.specs.declared.Window.{Window}
use Rattle.window.proofs.Rows.{stand-start}
use Rattle.window.proofs.Steps.{Working, work-starts, work-done, work-listed, work-movable, work_fits, work-next, work-answer}
use Rattle.window.proofs.Outputs.{columns_none, columns_next, columns_there, columns_all, long_same, long_next, ◌then◌}
use Rattle.rolling.specs.Code.Rows.{both_have, plan_by, RowIn, RowBounds, Ahead, Driven, row_answer, CanWork, HasWorked}
use Rattle.rolling.specs.Code.Rows.{Works, WorksColumns, LeavesFigure}
use Rattle.rolling.specs.declared.row.Rows.{Rows}

-- ---- the window that a row loop holds: of fixed windows as far as they reach, of a plan as it is listed
module _ (left right n : ℕ) where
  fixed-ahead : (k : ℕ) {at : Offsets} → Reaches left right n k at.start at.end → Ahead (reaching left right n) k at
  fixed-ahead k v i =
      let h : k < n = rw (← reaching_rows left right n) i in
      record {
        start_is = v.start_is ∙ sym (start-at left right n k h);
        end_is = v.end_is ∙ sym (end-at left right n k h);
      }

  pub opens-fixed : (at : Offsets) → at.start ≡ 0 → at.end ≡ min n right → Ahead (reaching left right n) 0 at
  opens-fixed at a b = fixed-ahead 0 {at = at} (reaches-first left right n a b)

  pub next-fixed : n < 2 ^ 64 → {k : ℕ} {at next : Offsets} → k < rows (reaching left right n) → RowBounds (reaching left right n) k at
      → StepsTo (next_offsets k (at.start, at.end) left n) next.start next.end → Ahead (reaching left right n) (k + 1) next
  next-fixed o {k} {at} {next} i b q =
      let h : k < n = rw (← reaching_rows left right n) i in
      let v : Reaches left right n k at.start at.end =
      record {
        start_is = b.start_is ∙ start-at left right n k h;
        end_is = b.end_is ∙ end-at left right n k h;
      } in
      fixed-ahead (k + 1) {at = next} (reaches-next left right n k h o v q)

-- ---- the turns of a block, which writes the answers of several row functions
module _ {A : Type 0} (M : Stored Float A) (t : Series A) (n : ℕ) (r : Rows) (fs : List (ℕ → Figure))
    (first until : ℕ) (work₀ : List Float) (cs₀ : List Column) where
  abbrev p : Plan
  p = plan_by r n

  -- where the rows from `first` up to row k are worked and their answers written, and row k's window is held
  pub record ColumnTurn (w : Window) (agg : M.moment.State) (at : Offsets) (work : List Float) (cs : List Column) (k : ℕ) : Type 0 where
    pub ahead : Ahead p k at
    pub working : Working M t r.min_periods n r.widest p first until work₀ w agg work k
    pub same : AllSameLong cs₀ cs
    pub written : ColumnsFill fs first k cs₀ cs

  module _ {w₀ : Window} {agg₀ : M.moment.State} {at₀ : Offsets}
      (can : CanWork M t n r (shortest_of (answer_lengths cs₀)) first until at₀ w₀ agg₀ work₀) where
    pub columns-start : length cs₀ ≡ length fs → ColumnTurn w₀ agg₀ at₀ work₀ cs₀ first
    columns-start e =
        record {
          ahead = can.ahead;
          working = work-starts M t
              can.workable;
          same = long_same cs₀;
          written = columns_none fs first cs₀ e;
        }

    module _ {w : Window} {agg : M.moment.State} {at : Offsets} {work : List Float} {cs : List Column} {k : ℕ}
        (v : ColumnTurn w agg at work cs k) where
      pub columns-end : until ≤ k → Ahead p until at
      columns-end h =
          let high = v.working.high in
          let e : k ≡ until = omega arith in
          subst (λ (j : ℕ). Ahead p j at) e v.ahead

      pub columns-done : until ≤ k → WorksColumns M t n r fs first until work₀ cs₀ w agg work cs
      columns-done h =
          let u = v.working.high in
          let e : k ≡ until = omega arith in
          record {
            worked = work-done M t can.workable v.working h;
            written = subst (λ (j : ℕ). ColumnsFill fs first j cs₀ cs) e v.written;
          }

      module _ (more : k < until) where
        pub columns-row : RowIn r n k at
        columns-row =
            let l = work-listed M t can.workable v.working more in
            record { same = can.workable.plan.same; listed = l; bounds = v.ahead l }

        pub columns-have : AllThere k cs
        columns-have =
            let l = columns-row.listed in
            let h = can.workable.outputs_fit in
            columns_there k cs₀ cs v.same (omega arith)

        pub columns-movable : Movable M t at.start at.end n r.widest w agg work
        columns-movable = work-movable M t can.workable v.working more columns-row.bounds.start_is columns-row.bounds.end_is

        module _ {w' : Window} {agg' : M.moment.State} {work' : List Float}
            (q : Stepped M t r.widest r.min_periods k at.start at.end w work w' agg' work')
            (same : length work' ≡ length work) where
          pub columns-fits : (M.in_front.width * w'.front ≤ length work') × (w'.front + w'.back ≤ 2 ^ 53) × (at.start ≤ at.end)
          columns-fits = work_fits M t can.workable v.working more columns-row.bounds.start_is
              columns-row.bounds.end_is q same

          -- the figure of a `finalize`
          pub columns-answer : (final : M.moment.State → Figure) {f : Figure}
              → f ≡ answer_by M final t.places.mapped r.min_periods at.start at.end w' agg' work'
              → f ≡ row_answer M final t n r k
          columns-answer final g =
              work-answer M t can.workable v.working more columns-row.bounds.start_is columns-row.bounds.end_is q same final g

          pub columns-turn : {xs : List Figure} {cs' : List Column} {at' : Offsets} → xs ≡ row_of fs k → RowsSet k xs cs cs'
              → Ahead p (k + 1) at'
              → ColumnTurn w' agg' at' work' cs' (k + 1)
          columns-turn {xs} {cs'} e o h =
              record {
                ahead = h;
                working = work-next M t can.workable v.working more columns-row.bounds.start_is
                    columns-row.bounds.end_is q same;
                same = long_next k xs cs₀ cs cs' v.same o;
                written = columns_next fs first k xs cs₀ cs cs' v.written e o;
              }

-- ---- of one figure
module _ {A : Type 0} (M : Stored Float A) (final : M.moment.State → Figure) (t : Series A) (n : ℕ) (r : Rows)
    (first until : ℕ) (work₀ figures₀ : List Float) (present₀ : List ℕ) where
  abbrev fs : List (ℕ → Figure)
  fs = (λ k. row_answer M final t n r k) ∷ []

  abbrev cs₀ : List Column
  cs₀ = column figures₀ present₀ ∷ []

  abbrev pub Turn : Window → M.moment.State → Offsets → List Float → List Float → List ℕ → ℕ → Type 0
  Turn w agg at work figures present k = ColumnTurn M t n r fs first until work₀ cs₀ w agg at work
      (column figures present ∷ []) k

  module _ {w₀ : Window} {agg₀ : M.moment.State} {at₀ : Offsets}
      (can : CanWork M t n r (min (length figures₀) (length present₀)) first until at₀ w₀ agg₀ work₀) where
    pub turn-starts : Turn w₀ agg₀ at₀ work₀ figures₀ present₀ first
    turn-starts = columns-start M t n r fs first until work₀ cs₀ can refl

    module _ {w : Window} {agg : M.moment.State} {at : Offsets} {work figures : List Float} {present : List ℕ} {k : ℕ}
        (v : Turn w agg at work figures present k) where
      pub turn-end : until ≤ k → Ahead (plan_by r n) until at
      turn-end h = columns-end M t n r fs first until work₀ cs₀ can v h

      pub turn-done : until ≤ k → Works M final t n r first until work₀ figures₀ present₀ w agg work figures present
      turn-done h = columns-done M t n r fs first until work₀ cs₀ can v h

      module _ (more : k < until) where
        pub turn-row : RowIn r n k at
        turn-row = columns-row M t n r fs first until work₀ cs₀ can v more

        pub turn-there : RowThere k (length figures) (length present)
        turn-there = (columns-have M t n r fs first until work₀ cs₀ can v more).0

        pub turn-movable : Movable M t at.start at.end n r.widest w agg work
        turn-movable = columns-movable M t n r fs first until work₀ cs₀ can v more

        module _ {w' : Window} {agg' : M.moment.State} {work' : List Float}
            (q : Stepped M t r.widest r.min_periods k at.start at.end w work w' agg' work')
            (same : length work' ≡ length work) where
          pub turn-fits : (M.in_front.width * w'.front ≤ length work') × (w'.front + w'.back ≤ 2 ^ 53) × (at.start ≤ at.end)
          turn-fits = columns-fits M t n r fs first until work₀ cs₀ can v more q same

          pub turn-next : {f : Figure} {figures' : List Float} {present' : List ℕ} {at' : Offsets}
              → f ≡ answer_by M final t.places.mapped r.min_periods at.start at.end w' agg' work'
              → RowSet k f figures figures' present present' → Ahead (plan_by r n) (k + 1) at'
              → Turn w' agg' at' work' figures' present' (k + 1)
          turn-next {f} g o h =
              let a = columns-answer M t n r fs first until work₀ cs₀ can v more q same final g in
              columns-turn M t n r fs first until work₀ cs₀ can v more q same {xs = f ∷ []} (a then refl) (o, tt) h

-- two lists of readings of one length have as many places as one of them
pub within_both : {A : Type 0} (M : Stored Float A) (t : Series A) (xs ys : List Float) → length xs ≡ length ys
    → {s e widest : ℕ} {w : Window} {agg : M.moment.State} {work : List Float}
    → Movable M t s e (length xs) widest w agg work → Movable M t s e (both_have xs ys) widest w agg work
within_both M t xs ys same {s} {e} {widest} {w} {agg} {work} m =
    let h : length xs ≡ both_have xs ys = omega arith in
    subst (λ (n : ℕ). Movable M t s e n widest w agg work) h m

-- ---- all rows
module _ {A : Type 0} (M : Stored Float A) (t : Series A) (n : ℕ) (r : Rows) {outputs : ℕ} {work₀ : List Float}
    (d : Driven r n outputs (place_width M) (length work₀)) where
  rows-workable : {w : Window} {agg : M.moment.State} → w ≡ empty_at 0 → agg ≡ M.moment.empty → {until : ℕ}
      → until ≡ rows (plan_by r n) →
      Workable M t r.min_periods n r.widest (plan_by r n) outputs 0 until w agg work₀
  rows-workable {w} {agg} g e {until} u =
      let z = d.few in
      let s = stand-start M t r.min_periods n r.widest (plan_by r n) agg e work₀ in
      rw (g, u) (record { plan = d.plan; standing = s; rises = omega arith; listed = le_refl _; outputs_fit = d.outputs_fit; room = d.work_fits; few = omega arith })

  pub rows-can : {w : Window} {agg : M.moment.State} → w ≡ empty_at 0 → agg ≡ M.moment.empty → {until : ℕ}
      → until ≡ rows (plan_by r n) →
      {at : Offsets} → Ahead (plan_by r n) 0 at → CanWork M t n r outputs 0 until at w agg work₀
  rows-can g e u h = record { workable = rows-workable g e u; ahead = h }

  pub rows-kept : {w : Window} {agg : M.moment.State} {work : List Float} {until : ℕ} → HasWorked M t n r until work₀ w agg work
      → kept 0 (needed (place_width M) (plan_by r n)) work₀ work
  unfolding kept
  rows-kept v = rw (← d.wide_is) v.rest

  -- the lists of every row function
  pub rows-columns : (fs : List (ℕ → Figure)) {until : ℕ} → until ≡ rows (plan_by r n) → {cs₀ cs : List Column} {w : Window}
      {agg : M.moment.State} {work : List Float} → WorksColumns M t n r fs 0 until work₀ cs₀ w agg work cs
      → outputs ≤ shortest_of (answer_lengths cs₀) → cs ≡ answered 0 (rows (plan_by r n)) fs cs₀
  rows-columns fs {until} u {cs₀} {cs} v h =
      let o = d.outputs_fit in
      columns_all fs (rows (plan_by r n)) cs₀ cs (omega arith) (subst (λ (j : ℕ). ColumnsFill fs 0 j cs₀ cs) u v.written)

-- where the rows of a call may be worked, of a count of places that is the series's own
pub opened : {A : Type 0} (M : Stored Float A) (t : Series A) (n : ℕ) {n' outputs : ℕ} {r : Rows} {work₀ : List Float} → n ≡ n'
    → Driven r n' outputs (place_width M) (length work₀) → {w : Window} {agg : M.moment.State} → w ≡ empty_at 0 → agg ≡ M.moment.empty
    → {at : Offsets} → Ahead (plan_by r n) 0 at → CanWork M t n r outputs 0 (rows (plan_by r n)) at w agg work₀
opened M t n {r = r} e d g f h = rows-can M t n r (rw e d) g f refl h

-- where the rows of a block may be worked, of a count of places that is the series's own
pub told : {A : Type 0} (M : Stored Float A) (t : Series A) {n n' outputs first until : ℕ} {r : Rows} {at : Offsets} {w : Window}
    {agg : M.moment.State} {work : List Float} → n ≡ n' → CanWork M t n' r outputs first until at w agg work
    → CanWork M t n r outputs first until at w agg work
told M t e can = rw e can

-- the block of all rows, from a fresh window on
pub opened_block : {A : Type 0} (M : Stored Float A) (t : Series A) {n n' outputs until : ℕ} {r : Rows} {work₀ : List Float} → n ≡ n'
    → Driven r n' outputs (place_width M) (length work₀) → {w : Window} {agg : M.moment.State} → w ≡ empty_at 0 → agg ≡ M.moment.empty
    → until ≡ rows (plan_by r n) → {at : Offsets} → Ahead (plan_by r n) 0 at → CanWork M t n' r outputs 0 until at w agg work₀
opened_block M t {n} {r = r} e d g f u h = rw (← e) (rows-can M t n r (rw e d) g f u h)

-- the rows of several row functions, all worked
pub columns_left : {A : Type 0} (M : Stored Float A) (fs : List (ℕ → Figure)) (t : Series A) (n : ℕ) {n' outputs : ℕ} {r : Rows}
    {work₀ : List Float} → n ≡ n' → Driven r n' outputs (place_width M) (length work₀) → {w : Window} {agg : M.moment.State}
    {work : List Float} {cs₀ cs : List Column} → WorksColumns M t n r fs 0 (rows (plan_by r n)) work₀ cs₀ w agg work cs
    → outputs ≤ shortest_of (answer_lengths cs₀)
    → (cs ≡ answered 0 (rows (plan_by r n)) fs cs₀) × kept 0 (needed (place_width M) (plan_by r n)) work₀ work
columns_left M fs t n {outputs = outputs} {r} {work₀} e d v h =
    let d' : Driven r n outputs (place_width M) (length work₀) = rw e d in
    (rows-columns M t n r d' fs refl v h, rows-kept M t n r d' v.worked)

-- the same of the block of all rows
pub lists_left : {A : Type 0} (M : Stored Float A) (fs : List (ℕ → Figure)) (t : Series A) {n n' until outputs : ℕ} {r : Rows}
    {work₀ : List Float} → n ≡ n' → Driven r n' outputs (place_width M) (length work₀) → until ≡ rows (plan_by r n) → {w : Window}
    {agg : M.moment.State} {work : List Float} {cs₀ cs : List Column} → WorksColumns M t n' r fs 0 until work₀ cs₀ w agg work cs
    → outputs ≤ shortest_of (answer_lengths cs₀)
    → (cs ≡ answered 0 (rows (plan_by r n')) fs cs₀) × kept 0 (needed (place_width M) (plan_by r n')) work₀ work
lists_left M fs t {n' = n'} {r = r} e d u v h =
    (rows-columns M t n' r d fs (u ∙ ap (λ (m : ℕ). rows (plan_by r m)) e) v h, rows-kept M t n' r d v.worked)

-- the rows of one figure, all worked, are what a call leaves of it
pub figure_left : {A : Type 0} (M : Stored Float A) (final : M.moment.State → Figure) (t : Series A) (n : ℕ) {n' : ℕ} {r : Rows}
    {work₀ figures₀ : List Float} {present₀ : List ℕ} → n ≡ n'
    → Driven r n' (min (length figures₀) (length present₀)) (place_width M) (length work₀) → {w : Window} {agg : M.moment.State}
    {work figures : List Float} {present : List ℕ}
    → Works M final t n r 0 (rows (plan_by r n)) work₀ figures₀ present₀ w agg work figures present
    → LeavesFigure M final t n' r work₀ work (column figures₀ present₀) (column figures present)
figure_left M final t n {r = r} {work₀} {figures₀} {present₀} e d v =
    let d' : Driven r n (min (length figures₀) (length present₀)) (place_width M) (length work₀) = rw e d in
    rw (← e)
    (record {
      answers_are = rows-columns M t n r d' ((λ k. row_answer M final t n r k) ∷ []) refl v (le_refl _);
      work_kept = rows-kept M t n r d' v.worked;
    })

-- the same of the block of all rows
pub block_left : {A : Type 0} (M : Stored Float A) (final : M.moment.State → Figure) (t : Series A) {n n' until : ℕ} {r : Rows}
    {work₀ figures₀ : List Float} {present₀ : List ℕ} → n ≡ n'
    → Driven r n' (min (length figures₀) (length present₀)) (place_width M) (length work₀) → until ≡ rows (plan_by r n)
    → {w : Window} {agg : M.moment.State} {work figures : List Float} {present : List ℕ}
    → Works M final t n' r 0 until work₀ figures₀ present₀ w agg work figures present
    → LeavesFigure M final t n' r work₀ work (column figures₀ present₀) (column figures present)
block_left M final t {n' = n'} {r = r} {work₀} {figures₀} {present₀} e d u {w} {agg} {work} {figures} {present} v =
    figure_left M final t n' refl d
    (subst (λ (j : ℕ). Works M final t n' r 0 j work₀ figures₀ present₀ w agg work figures present) (u ∙ ap (λ (m : ℕ). rows (plan_by r m)) e) v)
