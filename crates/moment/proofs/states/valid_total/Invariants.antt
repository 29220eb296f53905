-- A count and a sum over the valid places. Assumes nothing.
use Rattle.std.proofs.Common.{◌≤◌}
use Rattle.moment.proofs.Folds.{Folded, one_more}
use Rattle.moment.proofs.states.valid_total.Given as goal

abbrev pub invariant-loop-i : goal.invariant-loop-i
invariant-loop-i g l =
    let p = g.P.Places in
    record {
      few : l.count ≤ l.i;
      counted : Folded one_more 0 (p.valid l.places) (p.entries l.places) l.count l.i;
      summed : Folded g.P.Entry.Entry.plus g.P.Entry.Entry.none (p.valid l.places) (p.entries l.places) l.sum l.i;
    }
