-- By each check. Assumes nothing.
use Rattle.std.proofs.Common.{◌≡◌, refl, ◌∙◌, ltb-false}
use Rattle.trace.proofs.Accepted.{pair_fits}
use Rattle.plan.proofs.Plans.{neither}
use Rattle.window.specs.Given.{Pairs}
use Rattle.moments.specs.HostCall.{BytePair, reading_count}
use Rattle.moments.proofs.HostCalls.{stops_odd, stops_plan, passes, decoded_many, pair_given}
use Rattle.moments.proofs.check_byte_pair.Goals as goal

pub returns-in_err-when : goal.returns-in_err-when
returns-in_err-when c has map a has' map' b = stops_odd Pairs _ _ _ _ _ _ _ _ _ c.from_residual.ensures.1 c.in_err-when.ensures

pub returns-in_err-check_plan : goal.returns-in_err-check_plan
returns-in_err-check_plan c has map a has' map' b =
    let g = c.args.pair in
    let t : BytePair = record {
      x = record { bytes = g.x.bytes.now; mapped = has; map = map };
      y = record { bytes = g.y.bytes.now; mapped = has'; map = map' };
    } in
    stops_plan Pairs t _ _ _ _ _ _ c.in_ok-when.ensures (c.check_pair-given.ensures ∙ pair_given t _ _ a b) (decoded_many t.x)
    c.in_err-check_plan.ensures _ c.from_residual-in_err-check_plan.ensures.1

pub returns : goal.returns
returns c has map a has' map' b =
    let g = c.args.pair in
    let t : BytePair = record {
      x = record { bytes = g.x.bytes.now; mapped = has; map = map };
      y = record { bytes = g.y.bytes.now; mapped = has'; map = map' };
    } in
    let k = c.in_ok-check_plan.ensures in
    let fits = neither _ _ k.accepted.readings_fit in
    let given = c.check_pair-given.ensures in
    let one : reading_count t.x ≡ reading_count t.y = pair_fits _ _ _ _ _ _ _ given k.accepted.given_is in
    passes Pairs t _ _ _ _ _ _ c.in_ok-when.ensures (given ∙ pair_given t _ _ a b) (decoded_many t.x) k _ (
      refl,
      one,
      ltb-false c.args.x_readings (reading_count t.x) fits.0,
      rw one (ltb-false c.args.y_readings (reading_count t.y) fits.1),
    )
