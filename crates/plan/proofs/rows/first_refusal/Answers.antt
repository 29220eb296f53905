-- Row after row, with the row before in a local. Assumes nothing.
use Rattle.std.proofs.Common.{ℕ, refl, rules}
use Rattle.std.proofs.lemmas.List.{length_push}
use Rattle.std.proofs.lemmas.Slice.Zip.{zip_turn}
use Rattle.trace.proofs.Checks.{number_above}
use Rattle.plan.proofs.Plans.{walk-none, walk-rises, walk-stops, walk-row}
use Rattle.plan.proofs.Checks.{rows_stop}
use Rattle.plan.proofs.rows.first_refusal.Goals as goal

pub loop-start-init : goal.loop-start-init
loop-start-init c = walk-none _ _

pub returns-in_err-check_row : goal.returns-in_err-check_row
returns-in_err-check_row c =
    let t = zip_turn {A = ℕ} {B = ℕ} c.args.plan.starts.now c.args.plan.ends.now _ c.into_iter-start-iterator.result c.loop-start.start-iterator c.next.new.self c.next.result (search rules) (search rules) c.loop-start.yielded_by _ c.in-Some.is c.next.ensures.steps in
    rows_stop _ _ _ _ c.from_residual.ensures.1
    (walk-stops _ _ _ _ _ _ _ _ _ c.loop-start.invariant (t.2 0) (t.3 0) c.in_err-check_row.ensures t.0 (number_above _))

pub overflow_sub-row : goal.overflow_sub-row
overflow_sub-row c =
    let t = zip_turn {A = ℕ} {B = ℕ} c.args.plan.starts.now c.args.plan.ends.now _ c.into_iter-start-iterator.result c.loop-start.start-iterator c.next.new.self c.next.result (search rules) (search rules) c.loop-start.yielded_by _ c.in-Some.is c.next.ensures.steps in
    walk-rises _ _ _ _ _ _ _ _ _ c.loop-start.invariant (t.2 0) (t.3 0) c.in_ok-check_row.ensures refl

pub loop-start-preserved : goal.loop-start-preserved
loop-start-preserved c =
    let t = zip_turn {A = ℕ} {B = ℕ} c.args.plan.starts.now c.args.plan.ends.now _ c.into_iter-start-iterator.result c.loop-start.start-iterator c.next.new.self c.next.result (search rules) (search rules) c.loop-start.yielded_by _ c.in-Some.is c.next.ensures.steps in
    rw length_push
    (walk-row _ _ _ _ _ _ _ _ _ c.loop-start.invariant (t.2 0) (t.3 0) c.in_ok-check_row.ensures _ refl c.max-widest.ensures)
