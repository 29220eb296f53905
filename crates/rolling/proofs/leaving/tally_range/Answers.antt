-- One place more, twice. Assumes nothing.
use Rattle.std.proofs.Common.{sym, arith}
use Rattle.window.proofs.Places.{entries-self, count-le, count-more}
use Rattle.rolling.proofs.Rolling.{bit_le}
use Rattle.rolling.proofs.leaving.tally_range.Goals as goal

pub loop-i-init : goal.loop-i-init
loop-i-init g c = record { valid-is = rw entries-self; nonfinite_is = rw entries-self }

pub overflow_add-tally : goal.overflow_add-tally
overflow_add-tally g c =
    let a = c.args in
    let i = c.loop-i.invariant.valid-is in
    omega (arith, i, bit_le c.is_valid.result, count-le (g.P.Places.places a.places).valid (λ j. j) a.a c.loop-i.i)

pub overflow_add-tally-in-loop-i : goal.overflow_add-tally-in-loop-i
overflow_add-tally-in-loop-i g c =
    let a = c.args in
    let i = c.loop-i.invariant.nonfinite_is in
    omega (arith, i, bit_le c.is_nonfinite.result, count-le (g.P.Places.places a.places).nonfinite (λ j. j) a.a c.loop-i.i)

pub loop-i-preserved : goal.loop-i-preserved
loop-i-preserved g c =
    let l = c.loop-i in
    let i = l.invariant in
    record {
      valid-is = rw i.valid-is (sym (count-more _ _ _ _ l.auto.i _ c.is_valid.ensures));
      nonfinite_is = rw i.nonfinite_is (sym (count-more _ _ _ _ l.auto.i _ c.is_nonfinite.ensures));
    }
