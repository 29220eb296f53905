-- A refusal before anything is decoded, else the call of the decoded traces. Assumes nothing.
use Rattle.std.proofs.Common.{sym, refl, arith}
use Rattle.std.proofs.lemmas.List.{length-take-le}
use Rattle.window.specs.Given.{Pairs}
use Rattle.moments.specs.Code.Hosts.{Hosts}
use Rattle.moments.proofs.HostCalls.{refuses, decoded_all, both_lists, map_as}
use Rattle.moments.proofs.on_byte_pair.Goals as goal

pub returns-in_err-n : goal.returns-in_err-n
returns-in_err-n g c has map a has' map' b =
    refuses Pairs _ _ _ _ _ _ _ c.from_residual.ensures.1 (c.in_err-n.ensures has map a has' map' b).number_is refl refl

pub returns : goal.returns
returns g c has map a has' map' b =
    let t = c.args.pair in
    let k = c.in_ok-n.ensures has map a has' map' b in
    let room = k.accepted.0 in
    let d = decoded_all t.x.bytes.now c.args.x_readings.now _ _ room.0 room.2 c.decode.ensures in
    let d' = decoded_all t.y.bytes.now c.args.y_readings.now _ _ room.1 room.3 c.decode-2.ensures in
    Hosts.made k.number_is k.accepted.1 (both_lists d.0 d'.0) (
      _,
      record { readings_are = d.1; mapped_is = a.mapped_is; map_is = a.map_is },
      record { readings_are = d'.1; mapped_is = b.mapped_is; map_is = b.map_is },
      c.call.ensures,
    )

pub slice_bounds-call-end : goal.slice_bounds-call-end
slice_bounds-call-end g c = let room = (c.in_ok-n.ensures _ _ (map_as _) _ _ (map_as _)).accepted.0 in omega (arith, room.2, c.decode.auto.readings)

pub slice_bounds-call-end-2 : goal.slice_bounds-call-end-2
slice_bounds-call-end-2 g c = sym (length-take-le _ _ (slice_bounds-call-end g c))

pub slice_bounds-call-end-3 : goal.slice_bounds-call-end-3
slice_bounds-call-end-3 g c = let room = (c.in_ok-n.ensures _ _ (map_as _) _ _ (map_as _)).accepted.0 in omega (arith, room.3, c.decode-2.auto.readings)

pub slice_bounds-call-end-4 : goal.slice_bounds-call-end-4
slice_bounds-call-end-4 g c = sym (length-take-le _ _ (slice_bounds-call-end-3 g c))
