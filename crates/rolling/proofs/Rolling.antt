-- What the code of every moment needs beside the laws of windows. Assumes nothing.
use Rattle.std.proofs.Common.{◌≤◌, Bool, true, false, arith}
use mir.Val.{bool_byte}

pub bit_le : (t : Bool) → bool_byte t ≤ 1
bit_le true = omega arith
bit_le false = omega arith
