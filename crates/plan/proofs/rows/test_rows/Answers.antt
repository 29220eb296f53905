-- Rows rise while no bound falls; a width that has wrapped is wider than the series. Assumes nothing.
use Rattle.std.proofs.Common.{◌≡◌, ℕ, length, rules, arith}
use Rattle.std.proofs.lemmas.List.{length_push}
use Rattle.std.proofs.lemmas.Slice.Zip.{zip_turn, zip_end}
use Rattle.plan.proofs.Plans.{pass-none, pass-row, pass-all}
use Rattle.plan.proofs.rows.test_rows.Goals as goal

pub loop-start-init : goal.loop-start-init
loop-start-init c = pass-none _ _

pub loop-start-preserved : goal.loop-start-preserved
loop-start-preserved c =
    let t = zip_turn {A = ℕ} {B = ℕ} c.args.plan.starts.now c.args.plan.ends.now _ c.into_iter-start-iterator.result c.loop-start.start-iterator c.next.new.self c.next.result (search rules) (search rules) c.loop-start.yielded_by _ c.in-Some.is c.next.ensures.steps in
    rw length_push
    (pass-row _ _ _ _ _ _ _ _ _ _ _ c.loop-start.invariant (t.2 0) (t.3 0) c.width.ensures c.max-widest.ensures)

pub returns-else-falls-past : goal.returns-else-falls-past
returns-else-falls-past c =
    let t = zip_end {A = ℕ} {B = ℕ} c.args.plan.starts.now c.args.plan.ends.now _ c.into_iter-start-iterator.result c.loop-start.start-iterator c.next.new.self c.next.result (search rules) (search rules) c.loop-start.yielded_by c.in-None.is c.next.ensures.steps in
    let e : length c.loop-start.yielded ≡ length c.args.plan.starts.now = omega (arith, c.requires.same) in
    pass-all _ _ _ _ _ _ c.requires.same c.requires.few (rw e at c.loop-start.invariant) c.if-falls-past.false
