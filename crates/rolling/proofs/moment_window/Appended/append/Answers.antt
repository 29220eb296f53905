-- One place more: an entry appended, or a place passed over. Assumes nothing.
use Rattle.std.proofs.Common.{sym, true, false, arith}
use Rattle.window.proofs.Stacks.{append-start, append_le, append-room, append-hit, append-miss}
use Rattle.rolling.proofs.moment_window.Appended.append.Goals as goal
use Rattle.rolling.proofs.moment_window.Appended.append.Goals.{then-is_valid+then-holds_nonfinite, then-is_valid+else-holds_nonfinite, else-is_valid}

pub loop-i-init : goal.loop-i-init
loop-i-init g c = (c.requires.counted, append-start)

pub push-appended-requires : goal.push-appended-requires
push-appended-requires g c =
    let l = c.loop-i in
    let can = c.requires.appendable in
    let h = append_le l.invariant.1 l.auto.i in
    record {
      room_in = rw l.auto.back (append-room l.invariant.1 l.auto.i c.loop-i-test.true can.room (sym c.if-is_valid.ensures));
      few = omega (arith, can);
      few_nonfinite = omega (arith, can);
      bit = omega arith;
      counted = l.invariant.0;
    }

pub push-appended-requires-else-holds_nonfinite : goal.push-appended-requires-else-holds_nonfinite
push-appended-requires-else-holds_nonfinite g c =
    let l = c.loop-i in
    let can = c.requires.appendable in
    let h = append_le l.invariant.1 l.auto.i in
    record {
      room_in = rw l.auto.back (append-room l.invariant.1 l.auto.i c.loop-i-test.true can.room (sym c.if-is_valid.ensures));
      few = omega (arith, can);
      few_nonfinite = omega (arith, can);
      bit = omega arith;
      counted = l.invariant.0;
    }

pub loop-i-preserved : goal.loop-i-preserved
loop-i-preserved g c =
    let l = c.loop-i in
    let p = l.invariant.1 in
    let can = c.requires.appendable in
    let h = append_le p l.auto.i in
    elim c.if-is_valid.branch [
      | then-is_valid+then-holds_nonfinite w ↦
          let q = w.push-appended.ensures in
          let hit = append-hit p l.auto.i c.loop-i-test.true can.room (sym w.if-is_valid.ensures) _ w.entry.ensures _ q.state_is true
          w.if-holds_nonfinite.ensures in
          rw (w.back-is, w.appended-is) (
            rw (q.state_is, q.more) (g.met.S.WindowState.grows _ _ _ (omega (arith, can)) l.invariant.0),
            rw (q.back_is, q.more, q.nonfinite_is) hit,
          )
      | then-is_valid+else-holds_nonfinite w ↦
          let q = w.push-appended-else-holds_nonfinite.ensures in
          let hit = append-hit p l.auto.i c.loop-i-test.true can.room (sym w.if-is_valid.ensures) _ w.value.ensures _ q.state_is false
          w.if-holds_nonfinite.ensures in
          rw (w.back-is, w.appended-is) (
            rw (q.state_is, q.more) (g.met.S.WindowState.grows _ _ _ (omega (arith, can)) l.invariant.0),
            rw (q.back_is, q.more, q.nonfinite_is) hit,
          )
      | else-is_valid w ↦
          let v = sym w.if-is_valid.ensures in
          rw (w.back-is, w.appended-is) (l.invariant.0, append-miss p l.auto.i v (g.met.T.Places.missing _ _ v))
    ]
