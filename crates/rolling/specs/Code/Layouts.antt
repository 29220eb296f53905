-- How the states of the moments lie on the front stack: their members in the source's order, and of variance the lowest and highest
-- reading behind them. Assumes nothing.
use Rattle.std.specs.Prelude.{[], ◌∷◌, slice_index_or, refl, Float}
use Rattle.std.specs.Float.{nan}
use Rattle.moment.specs.declared.skew_state.SkewState.{SkewState}
use Rattle.moment.specs.declared.kurtosis_state.KurtosisState.{KurtosisState}
use Rattle.moment.specs.declared.cov_state.CovState.{CovState}
use Rattle.moment.specs.declared.pearson_state.PearsonState.{PearsonState}
use Rattle.window.specs.Code.Memory.{Layout, Stored, ReadingStates, of_readings}
use Rattle.rolling.specs.Moments.{skewness}
use Rattle.rolling.specs.Code.Extremes.{variance_extremes}
use Rattle.rolling.specs.declared.extremes.VarExtremes.{VarExtremes}

abbrev pub var_layout : Layout Float VarExtremes
var_layout =
    record {
      width = 5;
      store = λ s. s.var.weight ∷ s.var.mean ∷ s.var.dp ∷ s.lowest ∷ s.highest ∷ [];
      load = λ l.
          record {
            var = record { weight = slice_index_or l 0 nan; mean = slice_index_or l 1 nan; dp = slice_index_or l 2 nan };
            lowest = slice_index_or l 3 nan;
            highest = slice_index_or l 4 nan;
          };
      stored = λ s. refl;
      loaded = λ s rest. refl;
    }

abbrev pub skew_layout : Layout Float SkewState
skew_layout =
    record {
      width = 4;
      store = λ s. s.weight ∷ s.mean ∷ s.m2 ∷ s.m3 ∷ [];
      load = λ l. record { weight = slice_index_or l 0 nan; mean = slice_index_or l 1 nan; m2 = slice_index_or l 2 nan; m3 = slice_index_or l 3 nan };
      stored = λ s. refl;
      loaded = λ s rest. refl;
    }

abbrev pub kurtosis_layout : Layout Float KurtosisState
kurtosis_layout =
    record {
      width = 5;
      store = λ s. s.weight ∷ s.mean ∷ s.m2 ∷ s.m3 ∷ s.m4 ∷ [];
      load = λ l. record { weight = slice_index_or l 0 nan; mean = slice_index_or l 1 nan; m2 = slice_index_or l 2 nan; m3 = slice_index_or l 3 nan; m4 = slice_index_or l 4 nan };
      stored = λ s. refl;
      loaded = λ s rest. refl;
    }

abbrev pub cov_layout : Layout Float CovState
cov_layout =
    record {
      width = 4;
      store = λ s. s.weight ∷ s.mean_x ∷ s.mean_y ∷ s.dp_xy ∷ [];
      load = λ l. record { weight = slice_index_or l 0 nan; mean_x = slice_index_or l 1 nan; mean_y = slice_index_or l 2 nan; dp_xy = slice_index_or l 3 nan };
      stored = λ s. refl;
      loaded = λ s rest. refl;
    }

abbrev pub pearson_layout : Layout Float PearsonState
pearson_layout =
    record {
      width = 6;
      store = λ s. s.weight ∷ s.mean_x ∷ s.mean_y ∷ s.dp_xx ∷ s.dp_xy ∷ s.dp_yy ∷ [];
      load = λ l.
          record {
            weight = slice_index_or l 0 nan;
            mean_x = slice_index_or l 1 nan;
            mean_y = slice_index_or l 2 nan;
            dp_xx = slice_index_or l 3 nan;
            dp_xy = slice_index_or l 4 nan;
            dp_yy = slice_index_or l 5 nan;
          };
      stored = λ s. refl;
      loaded = λ s rest. refl;
    }

abbrev pub var_states : ReadingStates
var_states = record { moment = variance_extremes; in_front = var_layout }

abbrev pub skew_states : ReadingStates
skew_states = record { moment = skewness; in_front = skew_layout }

-- each with readings on the back stack
abbrev pub var_stored : Stored Float Float
var_stored = of_readings var_states

abbrev pub skew_stored : Stored Float Float
skew_stored = of_readings skew_states
