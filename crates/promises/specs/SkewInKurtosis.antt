-- Document 02, request 5: "Prove that weight, mean, m2 and m3 of that state have the bits of the skewness state, NaNs being alike, after
-- any list of inserts and combines from empty, made alike on both", where "that state" is a kurtosis state. Equal here means the same
-- bits, NaNs being alike. Assumes nothing.
use Rattle.std.specs.Prelude.{◌≡◌, Float}
use Rattle.moment.specs.Kurtosis.{skew_part}
use Rattle.window.specs.Histories.{History, after}
use Rattle.rolling.specs.Moments.{skewness, kurtosis}

-- "weight, mean, m2 and m3 of that state have the bits of the skewness state", both after h
abbrev pub SameAfter : History Float → Type 0
SameAfter h = skew_part (after kurtosis h) ≡ after skewness h

-- "after any list of inserts and combines from empty, made alike on both"
pub record SkewInKurtosis : Type 0 where
  pub members : (h : History Float) → SameAfter h
