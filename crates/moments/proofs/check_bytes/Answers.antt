-- By each check. Assumes nothing.
use Rattle.std.proofs.Common.{refl, ◌∙◌, ltb-false}
use Rattle.window.specs.Given.{Readings}
use Rattle.moments.specs.HostCall.{ByteTrace, reading_count}
use Rattle.moments.proofs.HostCalls.{stops_odd, stops_plan, passes, decoded_many, trace_given}
use Rattle.moments.proofs.check_bytes.Goals as goal

pub returns-in_err-when : goal.returns-in_err-when
returns-in_err-when c has map a = stops_odd Readings _ _ _ _ _ _ _ _ _ c.from_residual.ensures.1 c.in_err-when.ensures

pub returns-in_err-check_plan : goal.returns-in_err-check_plan
returns-in_err-check_plan c has map a =
    let t : ByteTrace = record { bytes = c.args.trace.bytes.now; mapped = has; map = map } in
    stops_plan Readings t _ _ _ _ _ _ c.in_ok-when.ensures (c.check_array-given.ensures ∙ trace_given t _ a) (decoded_many t)
    c.in_err-check_plan.ensures _ c.from_residual-in_err-check_plan.ensures.1

pub returns : goal.returns
returns c has map a =
    let t : ByteTrace = record { bytes = c.args.trace.bytes.now; mapped = has; map = map } in
    passes Readings t _ _ _ _ _ _ c.in_ok-when.ensures (c.check_array-given.ensures ∙ trace_given t _ a) (decoded_many t)
    c.in_ok-check_plan.ensures _ (refl, ltb-false c.args.readings (reading_count t) c.in_ok-check_plan.ensures.accepted.readings_fit)
