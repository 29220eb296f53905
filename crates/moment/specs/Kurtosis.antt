-- Document 01, States (000): `KurtosisState`, every operation rounded once in the source's order. Assumes nothing.
use Rattle.std.specs.Prelude.{Bool, cond, List, length, ◌==◌, Float}
use Rattle.std.specs.Float.{nan}
use Rattle.std.specs.Float.Ieee.{eq, le}
use Rattle.float.specs.Operators.{◌⊕◌, ◌⊖◌, ◌⊗◌, ◌⊘◌, zero64, one64, two64, three64, four64, six64, of_nat64}
use Rattle.moment.specs.Sums.{sum_of, square, cube, fourth}
use Rattle.moment.specs.Var.{mean_of}
use Rattle.moment.specs.Skew.{is_zero, skew_inserted, skew_merged}
use Rattle.moment.specs.declared.skew_state.SkewState.{SkewState}
use Rattle.moment.specs.declared.kurtosis_state.KurtosisState.{KurtosisState}
use Rattle.moment.specs.declared.Figure.{Figure}
use Rattle.moment.specs.declared.Figure.TheVariants.{Missing, Present}

-- `KurtosisState::default`
abbrev pub kurtosis_empty : KurtosisState
kurtosis_empty = record { weight = zero64; mean = zero64; m2 = zero64; m3 = zero64; m4 = zero64 }

-- `KurtosisState::from_iter` of one or more readings, about a mean
abbrev pub kurtosis_about : Float → Float → List Float → KurtosisState
kurtosis_about w mean xs =
    record {
      weight = w;
      mean = mean;
      m2 = sum_of (square mean) xs;
      m3 = sum_of (cube mean) xs;
      m4 = sum_of (fourth mean) xs;
    }

-- `KurtosisState::new` and `KurtosisState::from_iter`
unfoldable pub kurtosis_new : List Float → KurtosisState
kurtosis_new xs = cond (length xs == 0) kurtosis_empty (kurtosis_about (of_nat64 (length xs)) (mean_of xs) xs)

-- `KurtosisState::clear_zero_weight_nan`
unfoldable pub kurtosis_clear : KurtosisState → KurtosisState
kurtosis_clear s =
    cond (eq s.weight zero64)
    (record { weight = s.weight; mean = zero64; m2 = zero64; m3 = zero64; m4 = zero64 })
    s

-- its first four members, which move as those of skewness do
abbrev pub skew_part : KurtosisState → SkewState
skew_part s = record { weight = s.weight; mean = s.mean; m2 = s.m2; m3 = s.m3 }

abbrev pub with_m4 : SkewState → Float → KurtosisState
with_m4 s m4 = record { weight = s.weight; mean = s.mean; m2 = s.m2; m3 = s.m3; m4 = m4 }

-- `KurtosisState::insert_one`, before its clear_zero_weight_nan
abbrev pub kurtosis_inserted : KurtosisState → Float → KurtosisState
kurtosis_inserted s x =
    let t = skew_inserted (skew_part s) x in
    let delta = x ⊖ s.mean in
    let delta_w = delta ⊘ t.weight in
    let update = (x ⊖ t.mean) ⊗ delta in
    let spread = update ⊗ (s.weight ⊗ (s.weight ⊖ one64) ⊕ one64) in
    with_m4 t (s.m4 ⊕ delta_w ⊗ (delta_w ⊗ (spread ⊕ six64 ⊗ s.m2) ⊖ four64 ⊗ s.m3))

-- `KurtosisState::insert_one`
abbrev pub kurtosis_insert : KurtosisState → Float → KurtosisState
kurtosis_insert s x = kurtosis_clear (kurtosis_inserted s x)

-- `KurtosisState::combine` after its tests of weights and before its clear_zero_weight_nan
abbrev pub kurtosis_merged : KurtosisState → KurtosisState → KurtosisState
kurtosis_merged s o =
    let t = skew_merged (skew_part s) (skew_part o) in
    let delta = o.mean ⊖ s.mean in
    let delta_w = delta ⊘ t.weight in
    let update = o.weight ⊗ (o.mean ⊖ t.mean) ⊗ delta in
    let spread = update ⊗ (s.weight ⊗ (s.weight ⊖ o.weight) ⊕ o.weight ⊗ o.weight) in
    let squares = s.weight ⊗ (s.weight ⊗ o.m2) ⊕ o.weight ⊗ (o.weight ⊗ s.m2) in
    let cubes = s.weight ⊗ o.m3 ⊖ o.weight ⊗ s.m3 in
    with_m4 t (s.m4 ⊕ o.m4 ⊕ delta_w ⊗ (delta_w ⊗ (spread ⊕ six64 ⊗ squares) ⊕ four64 ⊗ cubes))

-- `KurtosisState::combine`, where neither weight is zero
abbrev pub kurtosis_merge : KurtosisState → KurtosisState → KurtosisState
kurtosis_merge s o = kurtosis_clear (kurtosis_merged s o)

-- `KurtosisState::combine`
unfoldable pub kurtosis_combine : KurtosisState → KurtosisState → KurtosisState
kurtosis_combine s o = cond (eq o.weight zero64) s (cond (eq s.weight zero64) o (kurtosis_merge s o))

-- `KurtosisState::finalize`, its biased_est
unfoldable pub kurtosis_biased : KurtosisState → Float
kurtosis_biased s =
    let m4 = s.m4 ⊘ s.weight in
    let m2 = s.m2 ⊘ s.weight in
    cond (is_zero m2 s.mean) nan (m4 ⊘ (m2 ⊗ m2))

-- `KurtosisState::finalize`: the unbiased estimate, from the weight and biased_est
abbrev pub kurtosis_unbiased : Float → Float → Float
kurtosis_unbiased n estimate =
    (n ⊖ one64) ⊘ (n ⊖ two64)
    ⊗ ((n ⊕ one64) ⊘ (n ⊖ three64) ⊗ estimate ⊖ three64 ⊗ ((n ⊖ one64) ⊘ (n ⊖ three64)))
    ⊕ three64

-- `KurtosisState::finalize`: "less three (`fisher`)"
abbrev pub less_three : Float → Bool → Float
less_three out fisher = cond fisher (out ⊖ three64) out

-- `KurtosisState::finalize`: "missing: .. biased .. when weight is 0; unbiased when weight .. ≤ 3"
unfoldable pub kurtosis_finalize : KurtosisState → Bool → Bool → Figure
kurtosis_finalize s fisher bias =
    let n = s.weight in
    cond bias (cond (eq n zero64) Missing (Present (less_three (kurtosis_biased s) fisher)))
    (cond (le n three64) Missing (Present (less_three (kurtosis_unbiased n (kurtosis_biased s)) fisher)))
