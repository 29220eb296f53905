-- Document 01, "A plan call, from bytes to figures": what the two cases of the enum `Figure` are in the paper's values. A figure is
-- its term for what `finalize` gives of a state. Assumes nothing.
use Rattle.std.specs.Prelude.{ℕ, Float}
use Rattle.float.specs.Operators.{zero64}
use Rattle.moment.specs.declared.Figure.{Figure}
use Rattle.moment.specs.declared.Figure.TheVariants.{Missing, Present}

-- "one double ..; a missing row's double is +0.0"
abbrev pub double_of : Figure → Float
double_of Missing = zero64
double_of (Present v) = v

-- "and one byte (1 present, 0 missing)"
abbrev pub byte_of : Figure → ℕ
byte_of Missing = 0
byte_of (Present v) = 1
