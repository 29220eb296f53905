-- Document 01, States (000): `SkewState`, every operation rounded once in the source's order. Stand-ins: "`powf(1.5)` of m2:
-- m2 × root(m2). `powi(2)`: the number times itself". Assumes nothing.
use Rattle.std.specs.Prelude.{Bool, cond, List, length, ◌==◌, Float}
use Rattle.std.specs.Float.{nan}
use Rattle.std.specs.Float.Ieee.{eq, le}
use Rattle.float.specs.Operators.{◌⊕◌, ◌⊖◌, ◌⊗◌, ◌⊘◌, zero64, one64, two64, three64, epsilon64, of_nat64}
use Rattle.root.specs.Root.{root}
use Rattle.moment.specs.Sums.{sum_of, square, cube}
use Rattle.moment.specs.Var.{mean_of}
use Rattle.moment.specs.declared.skew_state.SkewState.{SkewState}
use Rattle.moment.specs.declared.Figure.{Figure}
use Rattle.moment.specs.declared.Figure.TheVariants.{Missing, Present}

-- `SkewState::default`
abbrev pub skew_empty : SkewState
skew_empty = record { weight = zero64; mean = zero64; m2 = zero64; m3 = zero64 }

-- `SkewState::from_iter` of one or more readings, about a mean
abbrev pub skew_about : Float → Float → List Float → SkewState
skew_about w mean xs = record { weight = w; mean = mean; m2 = sum_of (square mean) xs; m3 = sum_of (cube mean) xs }

-- `SkewState::new` and `SkewState::from_iter`
unfoldable pub skew_new : List Float → SkewState
skew_new xs = cond (length xs == 0) skew_empty (skew_about (of_nat64 (length xs)) (mean_of xs) xs)

-- `SkewState::clear_zero_weight_nan`
unfoldable pub skew_clear : SkewState → SkewState
skew_clear s = cond (eq s.weight zero64) (record { weight = s.weight; mean = zero64; m2 = zero64; m3 = zero64 }) s

-- `SkewState::insert_one`, before its clear_zero_weight_nan
abbrev pub skew_inserted : SkewState → Float → SkewState
skew_inserted s x =
    let w = s.weight ⊕ one64 in
    let delta = x ⊖ s.mean in
    let delta_w = delta ⊘ w in
    let mean = s.mean ⊕ delta_w in
    let diff = s.weight ⊖ one64 in
    let update = (x ⊖ mean) ⊗ delta in
    record {
      weight = w;
      mean = mean;
      m2 = s.m2 ⊕ update;
      m3 = s.m3 ⊕ delta_w ⊗ (update ⊗ diff ⊖ three64 ⊗ s.m2);
    }

-- `SkewState::insert_one`
abbrev pub skew_insert : SkewState → Float → SkewState
skew_insert s x = skew_clear (skew_inserted s x)

-- `SkewState::combine` after its tests of weights and before its clear_zero_weight_nan
abbrev pub skew_merged : SkewState → SkewState → SkewState
skew_merged s o =
    let w = s.weight ⊕ o.weight in
    let delta = o.mean ⊖ s.mean in
    let delta_w = delta ⊘ w in
    let mean = s.mean ⊕ o.weight ⊗ delta_w in
    let diff = s.weight ⊖ o.weight in
    let self_other = s.weight ⊗ o.m2 in
    let other_self = o.weight ⊗ s.m2 in
    let update = o.weight ⊗ (o.mean ⊖ mean) ⊗ delta in
    record {
      weight = w;
      mean = mean;
      m2 = s.m2 ⊕ o.m2 ⊕ update;
      m3 = s.m3 ⊕ o.m3 ⊕ delta_w ⊗ (update ⊗ diff ⊕ three64 ⊗ (self_other ⊖ other_self));
    }

-- `SkewState::combine`, where neither weight is zero
abbrev pub skew_merge : SkewState → SkewState → SkewState
skew_merge s o = skew_clear (skew_merged s o)

-- `SkewState::combine`
unfoldable pub skew_combine : SkewState → SkewState → SkewState
skew_combine s o = cond (eq o.weight zero64) s (cond (eq s.weight zero64) o (skew_merge s o))

-- the source's is_zero: m2 / weight at most (EPSILON * mean) squared
abbrev pub is_zero : Float → Float → Bool
is_zero m2 mean = le m2 (epsilon64 ⊗ mean ⊗ (epsilon64 ⊗ mean))

-- `SkewState::finalize`, its biased_est
unfoldable pub skew_biased : SkewState → Float
skew_biased s =
    let m2 = s.m2 ⊘ s.weight in
    let m3 = s.m3 ⊘ s.weight in
    cond (is_zero m2 s.mean) nan (m3 ⊘ (m2 ⊗ root m2))

-- `SkewState::finalize`, its correction
abbrev pub skew_correction : Float → Float
skew_correction n = root (n ⊗ (n ⊖ one64)) ⊘ (n ⊖ two64)

-- `SkewState::finalize`: "missing: .. biased skewness or kurtosis when weight is 0; unbiased when weight ≤ 2"
unfoldable pub skew_finalize : SkewState → Bool → Figure
skew_finalize s bias =
    let n = s.weight in
    cond bias (cond (eq n zero64) Missing (Present (skew_biased s)))
    (cond (le n two64) Missing (Present (skew_correction n ⊗ skew_biased s)))
