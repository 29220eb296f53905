-- One place more. Assumes nothing.
use Rattle.std.proofs.Common.{sym, arith}
use Rattle.window.proofs.Places.{entries-self, count-le, count-more}
use Rattle.rolling.proofs.Rolling.{bit_le}
use Rattle.rolling.proofs.leaving.count_valid.Goals as goal

pub loop-i-init : goal.loop-i-init
loop-i-init g c = rw entries-self

pub overflow_add-valid : goal.overflow_add-valid
overflow_add-valid g c =
    let a = c.args in
    omega (arith, bit_le c.is_valid.result, count-le (g.P.Places.places a.places).valid (λ j. j) a.a c.loop-i.i)

pub loop-i-preserved : goal.loop-i-preserved
loop-i-preserved g c =
    let l = c.loop-i in rw l.invariant (sym (count-more _ _ _ _ l.auto.i _ c.is_valid.ensures))
