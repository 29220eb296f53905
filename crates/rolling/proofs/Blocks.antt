-- The rows of a plan of skewness, a block at a time: the window goes from row to row, bytes are written, and the rows' slots come to
-- the doubles of their answers. Assumes nothing.
use Rattle.std.proofs.Common.{◌≡◌, ℕ, ◌+◌, ◌-◌, ◌*◌, ◌^◌, ◌<◌, ◌≤◌, Bool, true, false, eqb, min, List, [], ◌∷◌, ◌++◌, length, take, drop, set, sym, refl, ap, ◌∙◌, subst, arith, length-append, length-drop, length-set, length-take, eqb-true}
use borrow.Author.Tests.{eqb-false}
use lib.Ieee.{Float}
use Rattle.float.specs.Tables.{table}
use Rattle.float.proofs.Tables.{table-length}
use Rattle.trace.specs.Trace.{Trace}
use Rattle.moment.specs.Figure.{double_of, byte_of}
use Rattle.moment.specs.declared.Figure.{Figure}
use Rattle.moment.specs.declared.skew_state.SkewState.{SkewState}
use Rattle.moment.specs.Skew.{skew_finalize}
use Rattle.plan.specs.Plan.{Plan, rows}
use Rattle.plan.specs.declared.bounds.Offsets.{Offsets}
use Rattle.window.specs.Places.{Series}
use Rattle.window.specs.Given.{Readings, series_of}
use Rattle.window.specs.Code.Stacks.{empty_at, answer_by, Movable, Stepped}
use Rattle.window.specs.Code.Filling.{Fills}
use Rattle.window.specs.declared.Window.{Window}
use Rattle.window.specs.Outputs.{column}
use Rattle.window.proofs.Outputs.{fills-none, fills-next, fills-both, fills-part, columns_none}
use Rattle.window.proofs.Steps.{Working, work-starts, work-listed, work-movable, work_fits, work-next, work-answer}
use Rattle.rolling.specs.Code.Layouts.{skew_stored}
use Rattle.rolling.specs.Code.Rows.{plan_by, RowIn, Ahead, Driven, Works, LeavesFigure}
use Rattle.rolling.specs.Code.Slots.{double_at, SlotHolds, CanFill, skew_answer, BlockFilled}
use Rattle.rolling.specs.declared.row.Rows.{Rows}
use Rattle.rolling.specs.declared.skew.Slots.{Slots}
use Rattle.rolling.proofs.RowLoops.{opened, figure_left}

module _ (bias : Bool) (x : Trace) (r : Rows) where
  abbrev t : Series Float
  t = series_of Readings x

  abbrev n : ℕ
  n = length x.readings

  abbrev p : Plan
  p = plan_by r n

  abbrev Answer : ℕ → Figure
  Answer k = skew_answer bias x r k

  -- ---- the turns of a block
  module _ (first until : ℕ) (work₀ : List Float) (present₀ : List ℕ) where
    -- where the rows from `first` up to row k are worked, their bytes written and their slots held, and row k's window is held
    pub record BlockTurn (w : Window) (agg : SkewState) (at : Offsets) (work : List Float) (present : List ℕ) (s : Slots) (k : ℕ) :
        Type 0 where
      pub ahead : Ahead p k at
      pub working : Working skew_stored t r.min_periods n r.widest p first until work₀ w agg work k
      pub present-same : length present ≡ length present₀
      pub bytes : Fills (λ j. byte_of (Answer j)) first k present₀ present
      pub doubles : (j : ℕ) → first ≤ j → j < k → double_at bias s (j - first) ≡ double_of (Answer j)

    module _ {w₀ : Window} {agg₀ : SkewState} {at₀ : Offsets} {outputs : ℕ} (can : CanFill x r outputs first until at₀ w₀ agg₀ work₀) where
      pub block-starts : {s₀ : Slots} → BlockTurn w₀ agg₀ at₀ work₀ present₀ s₀ first
      block-starts =
          record {
            ahead = can.can.ahead;
            working = work-starts skew_stored t can.can.workable;
            present-same = refl;
            bytes = fills-none (λ j. byte_of (Answer j)) first present₀;
            doubles = λ j g h. absurd (omega arith);
          }

      module _ {w : Window} {agg : SkewState} {at : Offsets} {work : List Float} {present : List ℕ} {s : Slots} {k : ℕ}
          (v : BlockTurn w agg at work present s k) where
        pub block_done : until ≤ k → BlockFilled bias x r first until work₀ present₀ at w agg work present s
        block_done h =
            let u = v.working.high in
            let e : k ≡ until = omega arith in
            subst (λ (i : ℕ). BlockFilled bias x r first i work₀ present₀ at w agg work present s) e
            (record { ahead = v.ahead; worked = v.working.worked; bytes = v.bytes; doubles = v.doubles })

        module _ (more : k < until) where
          pub block_row : RowIn r n k at
          block_row =
              let l = work-listed skew_stored t can.can.workable v.working more in
              record { same = can.can.workable.plan.same; listed = l; bounds = v.ahead l }

          pub block-movable : Movable skew_stored t at.start at.end n r.widest w agg work
          block-movable = work-movable skew_stored t can.can.workable v.working more block_row.bounds.start_is
              block_row.bounds.end_is

          module _ {w' : Window} {agg' : SkewState} {work' : List Float}
              (q : Stepped skew_stored t r.widest r.min_periods k at.start at.end w work w' agg' work')
              (same : length work' ≡ length work) where
            pub block-fits : (4 * w'.front ≤ length work') × (w'.front + w'.back ≤ 2 ^ 53) × (at.start ≤ at.end)
            block-fits = work_fits skew_stored t can.can.workable v.working more block_row.bounds.start_is
                block_row.bounds.end_is q same

            pub block-next : {byte : ℕ} {at' : Offsets} {s' : Slots}
                → SlotHolds bias (answer_by skew_stored (λ z. skew_finalize z bias) t.places.mapped r.min_periods at.start at.end w'
                agg' work') (k - first) byte s s'
                → Ahead p (k + 1) at' → BlockTurn w' agg' at' work' (set present k byte) s' (k + 1)
            block-next {byte} {s' = s'} o h' =
                let b = block_row.bounds in
                let a = work-answer skew_stored t can.can.workable v.working more b.start_is b.end_is q same
                (λ z. skew_finalize z bias) refl in
                record {
                  ahead = h';
                  working = work-next skew_stored t can.can.workable v.working more b.start_is b.end_is q same;
                  present-same = length-set present k byte ∙ v.present-same;
                  bytes = fills-next (λ j. byte_of (Answer j)) first k present₀ present (set present k byte) byte v.bytes
                      (o.byte_is ∙ ap byte_of a) refl;
                  doubles = λ j i h. slot j i h (eqb j k) refl a;
                }
              where
                slot : (j : ℕ) → first ≤ j → j < k + 1 → (b : Bool) → eqb j k ≡ b
                    → answer_by skew_stored (λ z. skew_finalize z bias) t.places.mapped r.min_periods at.start at.end w' agg' work' ≡ Answer k
                    → double_at bias s' (j - first) ≡ double_of (Answer j)
                slot j i h true y a = rw (eqb-true j k y) (o.double_is ∙ ap double_of a)
                slot j i h false y a =
                    let other = eqb-false j k y in
                    let l = v.working.low in
                    o.others_same (j - first) (λ z. other (omega arith)) ∙ v.doubles j i (omega arith)

  -- ---- block after block
  module _ (work₀ figures₀ : List Float) (present₀ : List ℕ) where
    -- where the rows before `first` are worked and their answers written, and the window of row `first` is held
    pub record Blocks (w : Window) (agg : SkewState) (at : Offsets) (work figures : List Float) (present : List ℕ) (first : ℕ) : Type 0 where
      pub ahead : Ahead p first at
      pub work-same : length work ≡ length work₀
      pub figures_same : length figures ≡ length figures₀
      pub present-same : length present ≡ length present₀
      pub works : Works skew_stored (λ z. skew_finalize z bias) t n r 0 first work₀ figures₀ present₀ w agg work figures present

    module _ (d : Driven r n (min (length figures₀) (length present₀)) 5 (length work₀)) where
      pub blocks_start : {w : Window} {agg : SkewState} → w ≡ empty_at 0 → agg ≡ skew_stored.moment.empty → {at : Offsets}
          → Ahead p 0 at → Blocks w agg at work₀ figures₀ present₀ 0
      blocks_start g e h =
          record {
            ahead = h;
            work-same = refl;
            figures_same = refl;
            present-same = refl;
            works = record {
              worked = record { standing = (opened skew_stored t n refl d g e h).workable.standing; rest = refl };
              written = columns_none ((λ j. Answer j) ∷ []) 0 (column figures₀ present₀ ∷ []) refl;
            };
          }

      module _ {w : Window} {agg : SkewState} {at : Offsets} {work figures : List Float} {present : List ℕ} {first : ℕ}
          (v : Blocks w agg at work figures present first) where
        pub blocks-done : rows p ≤ first
            → LeavesFigure skew_stored (λ z. skew_finalize z bias) t n r work₀ work (column figures₀ present₀) (column figures present)
        blocks-done h =
            let u = v.works.worked.standing.upto in
            let e : first ≡ rows p = omega arith in
            figure_left skew_stored (λ z. skew_finalize z bias) t n refl d
            (subst (λ (k : ℕ). Works skew_stored (λ z. skew_finalize z bias) t n r 0 k work₀ figures₀ present₀ w agg work figures present) e
            v.works)

        module _ (until : ℕ) (ends : until ≡ min (rows p) (first + 32)) (more : first < rows p) where
          pub blocks-can : CanFill x r (length present) first until at w agg work
          blocks-can =
              let o = d.outputs_fit in
              let z = d.few in
              let s = v.work-same in
              let l = v.present-same in
              let y = d.work_fits in
              record {
                can = record {
                  workable = record {
                    plan = d.plan;
                    standing = v.works.worked.standing;
                    rises = omega arith;
                    listed = omega arith;
                    outputs_fit = omega arith;
                    room = rw s y;
                    few = omega arith;
                  };
                  ahead = v.ahead;
                };
                short = omega arith;
              }

          -- the part of the figures that a block writes
          pub block-part : length (take (until - first) (drop first figures)) ≡ until - first
          block-part = let o = d.outputs_fit in let l = v.figures_same in rw (length-take, length-drop) (omega arith)

          pub blocks-next : {at' : Offsets} {w' : Window} {agg' : SkewState} {work' figures' out : List Float} {present' : List ℕ}
              {s : Slots} → BlockFilled bias x r first until work present at' w' agg' work' present' s
              → length work' ≡ length work → length present' ≡ length present
              → out ≡ table (double_at bias s) (length (take (until - first) (drop first figures)))
              → figures' ≡ take first figures ++ (out ++ drop (until - first) (drop first figures))
              → Blocks w' agg' at' work' figures' present' until
          blocks-next {figures' = figures'} {out = out} {present' = present'} {s = s} f x y g e =
              let o = d.outputs_fit in
              let q = v.figures_same in
              record {
                ahead = f.ahead;
                work-same = x ∙ v.work-same;
                figures_same = ap length e
                    ∙ rw (length-append, length-append, g, block-part, table-length, length-take, length-drop, length-drop) (omega arith);
                present-same = y ∙ v.present-same;
                works = record {
                  worked = record { standing = f.worked.standing; rest = f.worked.rest ∙ v.works.worked.rest };
                  written = (
                    record {
                      doubles_are = fills-part (λ j. double_of (Answer j)) (double_at bias s) 0 first until figures₀ figures figures' out
                          (omega arith) v.works.written.0.doubles_are
                          (λ i k.
                          let m : first + i - first ≡ i = omega arith in
                          ap (double_at bias s) (sym m) ∙ f.doubles (first + i) (omega arith) (omega arith))
                          (g ∙ ap (table (double_at bias s)) block-part) e;
                      bytes_are = fills-both (λ j. byte_of (Answer j)) 0 first until present₀ present present' (omega arith)
                          v.works.written.0.bytes_are f.bytes;
                    },
                    tt,
                  );
                };
              }
