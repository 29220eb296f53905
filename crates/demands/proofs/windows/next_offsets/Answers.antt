-- What is shown of a step, of a row that `det_offsets` answers. Assumes nothing.
use Prim.Native.Nat.{◌^◌, ◌<◌}
use native.Mathlib.Omega.{arith}
use Rattle.std.proofs.Common.{refl}
use Rattle.demands.proofs.Demanded.{step_meets}
use Rattle.demands.proofs.windows.next_offsets.Goals as goal

pub returns : goal.returns
returns c = let few : c.args.len < 2 ^ 64 = omega (arith, c.ranges) in
    step_meets refl few c.det_offsets-at.ensures (rw c.left_window.ensures at c.next_offsets-next.ensures)
