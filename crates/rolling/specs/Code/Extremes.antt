-- Variance with the lowest and highest reading, as the stacks keep the three together. Assumes nothing.
use Rattle.std.specs.Float.{inf}
use Rattle.std.specs.Prelude.{true, false, Float}
use Rattle.moment.specs.Var.{var_empty, var_insert, var_combine}
use Rattle.window.specs.Window.{Moment}
use Rattle.window.specs.Extremes.{lower, higher, further}
use Rattle.window.specs.Code.Widening.{inserting, widened}
use Rattle.rolling.specs.declared.extremes.VarExtremes.{VarExtremes}

-- no reading
abbrev pub no_extremes : VarExtremes
no_extremes = record { var = var_empty; lowest = inf false; highest = inf true }

-- the moment over readings as they are
abbrev pub variance_extremes : Moment Float
variance_extremes =
    record {
      State = VarExtremes;
      empty = no_extremes;
      insert = λ s x.
          record { var = var_insert s.var (inserting x); lowest = widened lower s.lowest x; highest = widened higher s.highest x };
      combine = λ s o.
          record {
            var = var_combine s.var o.var;
            lowest = further lower s.lowest o.lowest;
            highest = further higher s.highest o.highest;
          };
    }

-- the weight of a state, which counts its readings
abbrev pub var_weight : VarExtremes → Float
var_weight s = s.var.weight
