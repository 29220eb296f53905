-- Demand 2, for weights: 002's `compute_var_weights` and `rolling_apply_weights`, and 004's `rolling_var` with `Some(weights)`, as
-- functions on values. `coerce_weights` gives an `f64` back as it is. Assumes nothing.
use Rattle.std.specs.Prelude.{ℕ, ◌/◌, Bool, true, cond, eqb, length, replicate, ℤ, pos, negsuc, Float}
use mathlib.Core.List.{List, foldl, map, zip}
use Rattle.std.proofs.Math.Option.{get_or}
use Rattle.std.specs.Float.Ieee.{eq}
use Rattle.float.specs.Operators.{◌⊕◌, ◌⊖◌, ◌⊗◌, ◌⊘◌, zero64}
use Rattle.float.specs.Tables.{table}
use Rattle.promises.specs.Rust.{Rust}
use Rattle.promises.specs.SourceRows.{create_validity, Array}
use Rattle.promises.specs.SourceFixed.{offset_fn}

-- ---- 002
-- the closure of the fold in `compute_var_weights`
abbrev pub add_weighted : Float × Float × Float → Float × Float → Float × Float × Float
add_weighted (wssq, wsum, wtot) (v, w) = (wssq ⊕ ((v ⊗ v) ⊗ w), wsum ⊕ (v ⊗ w), wtot ⊕ w)

-- what is made of its three sums
abbrev pub from_sums : Float × Float × Float → Float
from_sums (wssq, wmean, total_weight) =
    let mean = wmean ⊘ total_weight in
    cond (eq total_weight zero64) zero64 ((wssq ⊘ total_weight) ⊖ (mean ⊗ mean))

-- `compute_var_weights`
unfoldable pub compute_var_weights : List Float → List Float → Float
unfolding zip
compute_var_weights vals weights = from_sums (foldl add_weighted (zero64, zero64, zero64) (zip vals weights))

-- `x.max(0) as usize` of an `isize`
abbrev pub at_least_zero : ℤ → ℕ
at_least_zero (pos n) = n
at_least_zero (negsuc n) = 0

module _ (rust : Rust) (values : List Float) (window_size min_periods : ℕ) (det_offsets : ℕ → ℕ × ℕ) (weights : List Float)
    (centered : Bool) where
  -- `weights_start`
  unfoldable pub weights_start : ℕ → ℕ → ℕ → ℕ
  weights_start idx start win_len =
      let center = rust.signed (window_size / 2) in
      let offset = rust.signed_minus center (rust.signed_minus (rust.signed idx) (rust.signed start)) in
      cond centered (at_least_zero offset) (cond (eqb start 0) (rust.minus (length weights) win_len) 0)

  -- the closure of `map`, its aggregator `compute_var_weights`
  unfoldable pub weighted_row : ℕ → Float
  unfolding weights_start compute_var_weights
  weighted_row idx =
      let (start, end) = det_offsets idx in
      let vals = rust.part values start end in
      let win_len = rust.minus end start in
      let first = weights_start idx start win_len in
      compute_var_weights vals (rust.part weights first (rust.plus first win_len))

  -- `rolling_apply_weights`; its `assert_eq!` holds, or the call is refused by 10. Where `create_validity` gives `None` every row is
  -- there.
  abbrev pub rolling_apply_weights : Array
  rolling_apply_weights =
      record {
        values = table weighted_row (length values);
        validity = get_or (create_validity rust min_periods det_offsets (length values)) (replicate (length values) true);
      }

-- ---- 004
-- `rolling_var` with `Some(weights)`; its `polars_ensure!` holds, or the call is refused by 9
abbrev pub rolling_var_weights : Rust → List Float → ℕ → ℕ → Bool → List Float → Array
rolling_var_weights rust values window_size min_periods center weights =
    let wsum = foldl ◌⊕◌ zero64 weights in
    let wts = map (λ w. w ⊘ wsum) weights in
    rolling_apply_weights rust values window_size min_periods (offset_fn rust center window_size (length values)) wts center
