-- By the check and the map; a range that is accepted lies inside the trace. Assumes nothing.
use Rattle.std.proofs.Common.{refl, arith}
use Rattle.trace.proofs.Accepted.{range_fits_lem}
use Rattle.moment.proofs.Answers.{answer_refused, answer_state, range_plain, range_mapped}
use Rattle.moment.proofs.states.from_array.Goals as goal

pub returns-in_err-check_range : goal.returns-in_err-check_range
returns-in_err-check_range g c = answer_refused _ _ _ _ c.from_residual.ensures.1 c.in_err-check_range.ensures

pub overflow_add-values : goal.overflow_add-values
overflow_add-values g c = omega (arith, range_fits_lem _ _ _ _ _ _ c.in_ok-check_range.ensures refl)

pub offset_bounds-x-start : goal.offset_bounds-x-start
offset_bounds-x-start g c = omega (arith, range_fits_lem _ _ _ _ _ _ c.in_ok-check_range.ensures refl)

pub slice_bounds-values-end : goal.slice_bounds-values-end
slice_bounds-values-end g c = omega (arith, range_fits_lem _ _ _ _ _ _ c.in_ok-check_range.ensures refl)

pub returns-in_default : goal.returns-in_default
returns-in_default g c = let a = c.args in
    answer_state _ _ _ c.in_ok-check_range.ensures
    (rw (range_plain a.x.values.now a.x.map a.start a.length c.in_default.is) at c.new.ensures)

pub returns : goal.returns
returns g c = let a = c.args in
    answer_state _ _ _ c.in_ok-check_range.ensures
    (rw (range_mapped a.x.values.now a.x.map a.start a.length c.in-Some.map c.in-Some.is) at c.from_iter.ensures)
