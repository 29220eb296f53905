-- `root::bits` meets its contract: a double is the one of its bits. Assumes nothing.
use Rattle.std.proofs.Common.{ap, ◌∙◌}
use Rattle.std.proofs.lemmas.Float.{T_from_true}
use lib.Ieee.{binary64, of_bits}
use lib.Ieee.Bits.{of_bits-to_bits}
use Rattle.root.proofs.bits.Goals as goal

pub returns : goal.returns
returns c = ap (of_bits binary64) c.to_bits.ensures ∙ of_bits-to_bits binary64 c.args.x (T_from_true _ c.well_formed.0.1)
