-- By the figure's case. Assumes nothing.
use Rattle.std.proofs.Common.{refl, sym, ◌∙◌}
use lib.Ieee.{of_bits}
use Rattle.float.proofs.Patterns.{only_nan}
use Rattle.rolling.proofs.row.write.Goals as goal

pub returns-in_default : goal.returns-in_default
returns-in_default c = rw c.in_default.is (record { figures_are = refl; present_are = refl })

pub returns-then-not-is_nan : goal.returns-then-not-is_nan
returns-then-not-is_nan c = rw c.in-Present.is (record { figures_are = refl; present_are = refl })

pub returns : goal.returns
unfolding of_bits
returns c =
    let is = only_nan c.in-Present.x (sym c.is_nan.ensures.value ∙ c.if-not-is_nan.false) in
    rw c.in-Present.is (record { figures_are = rw is; present_are = refl })
