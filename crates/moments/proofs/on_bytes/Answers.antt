-- A refusal before anything is decoded, else the call of the decoded trace. Assumes nothing.
use Rattle.std.proofs.Common.{sym, refl, arith}
use Rattle.std.proofs.lemmas.List.{length-take-le}
use Rattle.window.specs.Given.{Readings}
use Rattle.moments.specs.Code.Hosts.{Hosts}
use Rattle.moments.proofs.HostCalls.{refuses, decoded_all, map_as}
use Rattle.moments.proofs.on_bytes.Goals as goal

pub returns-in_err-n : goal.returns-in_err-n
returns-in_err-n g c has map a =
    refuses Readings _ _ _ _ _ _ _ c.from_residual.ensures.1 (c.in_err-n.ensures has map a).number_is refl refl

pub returns : goal.returns
returns g c has map a =
    let k = c.in_ok-n.ensures has map a in
    let d = decoded_all c.args.trace.bytes.now c.args.readings.now _ _ k.accepted.0.0 k.accepted.0.1 c.decode.ensures in
    Hosts.made k.number_is k.accepted.1 d.0 (_, record { readings_are = d.1; mapped_is = a.mapped_is; map_is = a.map_is }, c.call.ensures)

pub slice_bounds-call-end : goal.slice_bounds-call-end
slice_bounds-call-end g c = let k = (c.in_ok-n.ensures _ _ (map_as _)).accepted.0.1 in omega (arith, k, c.decode.auto.readings)

pub slice_bounds-call-end-2 : goal.slice_bounds-call-end-2
slice_bounds-call-end-2 g c = sym (length-take-le _ _ (slice_bounds-call-end g c))
