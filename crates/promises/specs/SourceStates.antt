-- Demand 2, for states: 000's five states, each method as the Rust has it, in the Rust's order: what a `let` binds is a `let`, and every
-- store to a member of `self` is a step of its own. `Option<f64>` is `Figure`, `None` its `Missing`. The stand-ins are document 01's:
-- "`alg_sum_f64` and `alg_add_f64`: plain additions, left to right from +0.0. `powf(1.5)` of m2: m2 × root(m2). `powi(2)`: the number times
-- itself." `sqrt` is `root`. Assumes nothing.
use Rattle.std.specs.Prelude.{ℕ, Bool, true, false, cond, eqb, length, Float}
use mathlib.Core.List.{List, [], ◌∷◌, foldl, map, zip}
use Rattle.std.specs.Float.{nan}
use Rattle.std.specs.Float.Ieee.{eq, lt, le}
use Rattle.float.specs.Operators.{◌⊕◌, ◌⊖◌, ◌⊗◌, ◌⊘◌, zero64, one64, two64, three64, four64, six64, epsilon64, of_nat64}
use Rattle.root.specs.Root.{root}
use Rattle.moment.specs.declared.var_state.VarState.{VarState}
use Rattle.moment.specs.declared.cov_state.CovState.{CovState}
use Rattle.moment.specs.declared.pearson_state.PearsonState.{PearsonState}
use Rattle.moment.specs.declared.skew_state.SkewState.{SkewState}
use Rattle.moment.specs.declared.kurtosis_state.KurtosisState.{KurtosisState}
use Rattle.moment.specs.declared.Figure.{Figure}
use Rattle.moment.specs.declared.Figure.TheVariants.{Missing, Present}

-- `is_empty`
abbrev pub is_empty : {A : Type 0} → List A → Bool
is_empty [] = true
is_empty (x ∷ l) = false

-- `alg_add_f64`
abbrev pub alg_add : Float → Float → Float
alg_add a b = a ⊕ b

-- `alg_sum_f64` of what an iterator gives
abbrev pub alg_sum : List Float → Float
alg_sum values = foldl alg_add zero64 values

-- `powi(2)`
abbrev pub powi2 : Float → Float
powi2 x = x ⊗ x

-- `powf(1.5)`
abbrev pub powf15 : Float → Float
powf15 x = x ⊗ root x

-- ---- `VarState`
-- `default`, which `#[derive(Default)]` makes
abbrev pub VarState-default : VarState
VarState-default = record { weight = zero64; mean = zero64; dp = zero64 }

-- the closure of `new`
abbrev pub squared_from : Float → Float → Float
squared_from mean xi = (xi ⊖ mean) ⊗ (xi ⊖ mean)

-- `new`
unfoldable pub VarState-new : List Float → VarState
VarState-new x =
    let weight = of_nat64 (length x) in
    let mean = alg_sum x ⊘ weight in
    cond (is_empty x) VarState-default (record { weight = weight; mean = mean; dp = alg_sum (map (squared_from mean) x) })

-- `clear_zero_weight_nan`
unfoldable pub VarState-clear_zero_weight_nan : VarState → VarState
VarState-clear_zero_weight_nan self =
    let self₁ = record self { mean = zero64 } in
    let self₂ = record self₁ { dp = zero64 } in
    cond (eq self.weight zero64) self₂ self

-- `insert_one`
unfoldable pub VarState-insert_one : VarState → Float → VarState
unfolding VarState-clear_zero_weight_nan
VarState-insert_one self x =
    let new_weight = self.weight ⊕ one64 in
    let delta_mean = x ⊖ self.mean in
    let new_mean = self.mean ⊕ delta_mean ⊘ new_weight in
    let self₁ = record self { dp = self.dp ⊕ (x ⊖ new_mean) ⊗ delta_mean } in
    let self₂ = record self₁ { weight = new_weight } in
    let self₃ = record self₂ { mean = new_mean } in
    VarState-clear_zero_weight_nan self₃

-- `combine`
unfoldable pub VarState-combine : VarState → VarState → VarState
unfolding VarState-clear_zero_weight_nan
VarState-combine self other =
    let new_weight = self.weight ⊕ other.weight in
    let other_weight_frac = other.weight ⊘ new_weight in
    let delta_mean = other.mean ⊖ self.mean in
    let new_mean = self.mean ⊕ delta_mean ⊗ other_weight_frac in
    let self₁ = record self { dp = self.dp ⊕ (other.dp ⊕ other.weight ⊗ (other.mean ⊖ new_mean) ⊗ delta_mean) } in
    let self₂ = record self₁ { weight = new_weight } in
    let self₃ = record self₂ { mean = new_mean } in
    cond (eq other.weight zero64) self (VarState-clear_zero_weight_nan self₃)

-- `finalize`
unfoldable pub VarState-finalize : VarState → ℕ → Figure
VarState-finalize self ddof =
    let var = self.dp ⊘ (self.weight ⊖ of_nat64 ddof) in
    cond (le self.weight (of_nat64 ddof)) Missing (Present (cond (lt var zero64) zero64 var))

-- ---- `CovState`
-- `default`
abbrev pub CovState-default : CovState
CovState-default = record { weight = zero64; mean_x = zero64; mean_y = zero64; dp_xy = zero64 }

-- the closure of `new`
abbrev pub product_from : Float → Float → Float × Float → Float
product_from mean_x mean_y (xi, yi) = (xi ⊖ mean_x) ⊗ (yi ⊖ mean_y)

-- `new`; its `assert!` holds of the two chunks that it is called with
unfoldable pub CovState-new : List Float → List Float → CovState
unfolding zip
CovState-new x y =
    let weight = of_nat64 (length x) in
    let inv_weight = one64 ⊘ weight in
    let mean_x = alg_sum x ⊗ inv_weight in
    let mean_y = alg_sum y ⊗ inv_weight in
    cond (is_empty x) CovState-default
    (record { weight = weight; mean_x = mean_x; mean_y = mean_y; dp_xy = alg_sum (map (product_from mean_x mean_y) (zip x y)) })

-- `insert_one`
unfoldable pub CovState-insert_one : CovState → Float → Float → CovState
CovState-insert_one self x y =
    let new_weight = self.weight ⊕ one64 in
    let new_weight_frac = one64 ⊘ new_weight in
    let delta_mean_x = x ⊖ self.mean_x in
    let delta_mean_y = y ⊖ self.mean_y in
    let new_mean_x = self.mean_x ⊕ delta_mean_x ⊗ new_weight_frac in
    let new_mean_y = self.mean_y ⊕ delta_mean_y ⊗ new_weight_frac in
    let self₁ = record self { dp_xy = self.dp_xy ⊕ (x ⊖ new_mean_x) ⊗ delta_mean_y } in
    let self₂ = record self₁ { weight = new_weight } in
    let self₃ = record self₂ { mean_x = new_mean_x } in
    record self₃ { mean_y = new_mean_y }

-- `combine`
unfoldable pub CovState-combine : CovState → CovState → CovState
CovState-combine self other =
    let new_weight = self.weight ⊕ other.weight in
    let other_weight_frac = other.weight ⊘ new_weight in
    let delta_mean_x = other.mean_x ⊖ self.mean_x in
    let delta_mean_y = other.mean_y ⊖ self.mean_y in
    let new_mean_x = self.mean_x ⊕ delta_mean_x ⊗ other_weight_frac in
    let new_mean_y = self.mean_y ⊕ delta_mean_y ⊗ other_weight_frac in
    let self₁ = record self { dp_xy = self.dp_xy ⊕ (other.dp_xy ⊕ other.weight ⊗ (other.mean_x ⊖ new_mean_x) ⊗ delta_mean_y) } in
    let self₂ = record self₁ { weight = new_weight } in
    let self₃ = record self₂ { mean_x = new_mean_x } in
    let self₄ = record self₃ { mean_y = new_mean_y } in
    cond (eq other.weight zero64) self (cond (eq self.weight zero64) other self₄)

-- `finalize`
unfoldable pub CovState-finalize : CovState → ℕ → Figure
CovState-finalize self ddof =
    cond (le self.weight (of_nat64 ddof)) Missing (Present (self.dp_xy ⊘ (self.weight ⊖ of_nat64 ddof)))

-- ---- `PearsonState`
-- of its members
abbrev pub PearsonState-of : Float → Float → Float → Float → Float → Float → PearsonState
PearsonState-of weight mean_x mean_y dp_xx dp_xy dp_yy =
    record { weight = weight; mean_x = mean_x; mean_y = mean_y; dp_xx = dp_xx; dp_xy = dp_xy; dp_yy = dp_yy }

-- `default`
abbrev pub PearsonState-default : PearsonState
PearsonState-default = PearsonState-of zero64 zero64 zero64 zero64 zero64 zero64

-- the body of the loop of `new`: `dp_xx`, `dp_xy` and `dp_yy` after a pair
abbrev pub add_products : Float → Float → Float × Float × Float → Float × Float → Float × Float × Float
add_products mean_x mean_y (dp_xx, dp_xy, dp_yy) (xi, yi) = (
  alg_add dp_xx ((xi ⊖ mean_x) ⊗ (xi ⊖ mean_x)),
  alg_add dp_xy ((xi ⊖ mean_x) ⊗ (yi ⊖ mean_y)),
  alg_add dp_yy ((yi ⊖ mean_y) ⊗ (yi ⊖ mean_y)),
)

-- `new`
unfoldable pub PearsonState-new : List Float → List Float → PearsonState
unfolding zip
PearsonState-new x y =
    let weight = of_nat64 (length x) in
    let inv_weight = one64 ⊘ weight in
    let mean_x = alg_sum x ⊗ inv_weight in
    let mean_y = alg_sum y ⊗ inv_weight in
    let dp = foldl (add_products mean_x mean_y) (zero64, zero64, zero64) (zip x y) in
    cond (is_empty x) PearsonState-default (PearsonState-of weight mean_x mean_y dp.0 dp.1 dp.2)

-- `insert_one`
unfoldable pub PearsonState-insert_one : PearsonState → Float → Float → PearsonState
PearsonState-insert_one self x y =
    let new_weight = self.weight ⊕ one64 in
    let new_weight_frac = one64 ⊘ new_weight in
    let delta_mean_x = x ⊖ self.mean_x in
    let delta_mean_y = y ⊖ self.mean_y in
    let new_mean_x = self.mean_x ⊕ delta_mean_x ⊗ new_weight_frac in
    let new_mean_y = self.mean_y ⊕ delta_mean_y ⊗ new_weight_frac in
    let self₁ = record self { dp_xx = self.dp_xx ⊕ (x ⊖ new_mean_x) ⊗ delta_mean_x } in
    let self₂ = record self₁ { dp_xy = self₁.dp_xy ⊕ (x ⊖ new_mean_x) ⊗ delta_mean_y } in
    let self₃ = record self₂ { dp_yy = self₂.dp_yy ⊕ (y ⊖ new_mean_y) ⊗ delta_mean_y } in
    let self₄ = record self₃ { weight = new_weight } in
    let self₅ = record self₄ { mean_x = new_mean_x } in
    record self₅ { mean_y = new_mean_y }

-- `combine`
unfoldable pub PearsonState-combine : PearsonState → PearsonState → PearsonState
PearsonState-combine self other =
    let new_weight = self.weight ⊕ other.weight in
    let other_weight_frac = other.weight ⊘ new_weight in
    let delta_mean_x = other.mean_x ⊖ self.mean_x in
    let delta_mean_y = other.mean_y ⊖ self.mean_y in
    let new_mean_x = self.mean_x ⊕ delta_mean_x ⊗ other_weight_frac in
    let new_mean_y = self.mean_y ⊕ delta_mean_y ⊗ other_weight_frac in
    let self₁ = record self { dp_xx = self.dp_xx ⊕ (other.dp_xx ⊕ other.weight ⊗ (other.mean_x ⊖ new_mean_x) ⊗ delta_mean_x) } in
    let self₂ = record self₁ { dp_xy = self₁.dp_xy ⊕ (other.dp_xy ⊕ other.weight ⊗ (other.mean_x ⊖ new_mean_x) ⊗ delta_mean_y) } in
    let self₃ = record self₂ { dp_yy = self₂.dp_yy ⊕ (other.dp_yy ⊕ other.weight ⊗ (other.mean_y ⊖ new_mean_y) ⊗ delta_mean_y) } in
    let self₄ = record self₃ { weight = new_weight } in
    let self₅ = record self₄ { mean_x = new_mean_x } in
    let self₆ = record self₅ { mean_y = new_mean_y } in
    cond (eq other.weight zero64) self (cond (eq self.weight zero64) other self₆)

-- `finalize`
unfoldable pub PearsonState-finalize : PearsonState → Float
PearsonState-finalize self =
    let denom_sq = self.dp_xx ⊗ self.dp_yy in
    cond (lt zero64 denom_sq) (self.dp_xy ⊘ root denom_sq) nan

-- ---- `SkewState`
-- `default`
abbrev pub SkewState-default : SkewState
SkewState-default = record { weight = zero64; mean = zero64; m2 = zero64; m3 = zero64 }

-- the body of the loop of `from_iter`: `m2` and `m3` after a value
abbrev pub add_cubes : Float → Float × Float → Float → Float × Float
add_cubes mean (m2, m3) xi =
    let d = xi ⊖ mean in
    let d2 = d ⊗ d in
    let d3 = d ⊗ d2 in
    (alg_add m2 d2, alg_add m3 d3)

-- `from_iter`
unfoldable pub SkewState-from_iter : List Float → ℕ → SkewState
SkewState-from_iter iter len =
    let weight = of_nat64 len in
    let mean = alg_sum iter ⊘ weight in
    let m = foldl (add_cubes mean) (zero64, zero64) iter in
    cond (eqb len 0) SkewState-default (record { weight = weight; mean = mean; m2 = m.0; m3 = m.1 })

-- `new`
abbrev pub SkewState-new : List Float → SkewState
SkewState-new x = SkewState-from_iter x (length x)

-- `clear_zero_weight_nan`
unfoldable pub SkewState-clear_zero_weight_nan : SkewState → SkewState
SkewState-clear_zero_weight_nan self =
    let self₁ = record self { mean = zero64 } in
    let self₂ = record self₁ { m2 = zero64 } in
    let self₃ = record self₂ { m3 = zero64 } in
    cond (eq self.weight zero64) self₃ self

-- `insert_one`
unfoldable pub SkewState-insert_one : SkewState → Float → SkewState
unfolding SkewState-clear_zero_weight_nan
SkewState-insert_one self x =
    let new_weight = self.weight ⊕ one64 in
    let delta_mean = x ⊖ self.mean in
    let delta_mean_weight = delta_mean ⊘ new_weight in
    let new_mean = self.mean ⊕ delta_mean_weight in
    let weight_diff = self.weight ⊖ one64 in
    let m2_update = (x ⊖ new_mean) ⊗ delta_mean in
    let new_m2 = self.m2 ⊕ m2_update in
    let new_m3 = self.m3 ⊕ delta_mean_weight ⊗ (m2_update ⊗ weight_diff ⊖ three64 ⊗ self.m2) in
    let self₁ = record self { weight = new_weight } in
    let self₂ = record self₁ { mean = new_mean } in
    let self₃ = record self₂ { m2 = new_m2 } in
    let self₄ = record self₃ { m3 = new_m3 } in
    SkewState-clear_zero_weight_nan self₄

-- `combine`
unfoldable pub SkewState-combine : SkewState → SkewState → SkewState
unfolding SkewState-clear_zero_weight_nan
SkewState-combine self other =
    let new_weight = self.weight ⊕ other.weight in
    let delta_mean = other.mean ⊖ self.mean in
    let delta_mean_weight = delta_mean ⊘ new_weight in
    let new_mean = self.mean ⊕ other.weight ⊗ delta_mean_weight in
    let weight_diff = self.weight ⊖ other.weight in
    let self_weight_other_m2 = self.weight ⊗ other.m2 in
    let other_weight_self_m2 = other.weight ⊗ self.m2 in
    let m2_update = other.weight ⊗ (other.mean ⊖ new_mean) ⊗ delta_mean in
    let new_m2 = self.m2 ⊕ other.m2 ⊕ m2_update in
    let new_m3 = self.m3 ⊕ other.m3 ⊕ delta_mean_weight ⊗ (m2_update ⊗ weight_diff ⊕ three64 ⊗ (self_weight_other_m2 ⊖ other_weight_self_m2)) in
    let self₁ = record self { weight = new_weight } in
    let self₂ = record self₁ { mean = new_mean } in
    let self₃ = record self₂ { m2 = new_m2 } in
    let self₄ = record self₃ { m3 = new_m3 } in
    cond (eq other.weight zero64) self (cond (eq self.weight zero64) other (SkewState-clear_zero_weight_nan self₄))

-- `finalize`
unfoldable pub SkewState-finalize : SkewState → Bool → Figure
SkewState-finalize self bias =
    let m2 = self.m2 ⊘ self.weight in
    let m3 = self.m3 ⊘ self.weight in
    let is_zero = le m2 (powi2 (epsilon64 ⊗ self.mean)) in
    let biased_est = cond is_zero nan (m3 ⊘ powf15 m2) in
    let correction = root (self.weight ⊗ (self.weight ⊖ one64)) ⊘ (self.weight ⊖ two64) in
    cond bias (cond (eq self.weight zero64) Missing (Present biased_est))
    (cond (le self.weight two64) Missing (Present (correction ⊗ biased_est)))

-- ---- `KurtosisState`
-- of its members
abbrev pub KurtosisState-of : Float → Float → Float → Float → Float → KurtosisState
KurtosisState-of weight mean m2 m3 m4 = record { weight = weight; mean = mean; m2 = m2; m3 = m3; m4 = m4 }

-- `default`
abbrev pub KurtosisState-default : KurtosisState
KurtosisState-default = KurtosisState-of zero64 zero64 zero64 zero64 zero64

-- the body of the loop of `from_iter`: `m2`, `m3` and `m4` after a value
abbrev pub add_fourths : Float → Float × Float × Float → Float → Float × Float × Float
add_fourths mean (m2, m3, m4) xi =
    let d = xi ⊖ mean in
    let d2 = d ⊗ d in
    let d3 = d ⊗ d2 in
    let d4 = d2 ⊗ d2 in
    (alg_add m2 d2, alg_add m3 d3, alg_add m4 d4)

-- `from_iter`
unfoldable pub KurtosisState-from_iter : List Float → ℕ → KurtosisState
KurtosisState-from_iter iter len =
    let weight = of_nat64 len in
    let mean = alg_sum iter ⊘ weight in
    let m = foldl (add_fourths mean) (zero64, zero64, zero64) iter in
    cond (eqb len 0) KurtosisState-default (KurtosisState-of weight mean m.0 m.1 m.2)

-- `new`
abbrev pub KurtosisState-new : List Float → KurtosisState
KurtosisState-new x = KurtosisState-from_iter x (length x)

-- `clear_zero_weight_nan`
unfoldable pub KurtosisState-clear_zero_weight_nan : KurtosisState → KurtosisState
KurtosisState-clear_zero_weight_nan self =
    let self₁ = record self { mean = zero64 } in
    let self₂ = record self₁ { m2 = zero64 } in
    let self₃ = record self₂ { m3 = zero64 } in
    let self₄ = record self₃ { m4 = zero64 } in
    cond (eq self.weight zero64) self₄ self

-- `insert_one`
unfoldable pub KurtosisState-insert_one : KurtosisState → Float → KurtosisState
unfolding KurtosisState-clear_zero_weight_nan
KurtosisState-insert_one self x =
    let new_weight = self.weight ⊕ one64 in
    let delta_mean = x ⊖ self.mean in
    let delta_mean_weight = delta_mean ⊘ new_weight in
    let new_mean = self.mean ⊕ delta_mean_weight in
    let weight_diff = self.weight ⊖ one64 in
    let m2_update = (x ⊖ new_mean) ⊗ delta_mean in
    let new_m2 = self.m2 ⊕ m2_update in
    let new_m3 = self.m3 ⊕ delta_mean_weight ⊗ (m2_update ⊗ weight_diff ⊖ three64 ⊗ self.m2) in
    let new_m4 = self.m4
    ⊕ delta_mean_weight ⊗ (delta_mean_weight ⊗ (m2_update ⊗ (self.weight ⊗ weight_diff ⊕ one64) ⊕ six64 ⊗ self.m2) ⊖ four64 ⊗ self.m3) in
    let self₁ = record self { weight = new_weight } in
    let self₂ = record self₁ { mean = new_mean } in
    let self₃ = record self₂ { m2 = new_m2 } in
    let self₄ = record self₃ { m3 = new_m3 } in
    let self₅ = record self₄ { m4 = new_m4 } in
    KurtosisState-clear_zero_weight_nan self₅

-- `combine`
unfoldable pub KurtosisState-combine : KurtosisState → KurtosisState → KurtosisState
unfolding KurtosisState-clear_zero_weight_nan
KurtosisState-combine self other =
    let new_weight = self.weight ⊕ other.weight in
    let delta_mean = other.mean ⊖ self.mean in
    let delta_mean_weight = delta_mean ⊘ new_weight in
    let new_mean = self.mean ⊕ other.weight ⊗ delta_mean_weight in
    let weight_diff = self.weight ⊖ other.weight in
    let self_weight_other_m2 = self.weight ⊗ other.m2 in
    let other_weight_self_m2 = other.weight ⊗ self.m2 in
    let m2_update = other.weight ⊗ (other.mean ⊖ new_mean) ⊗ delta_mean in
    let new_m2 = self.m2 ⊕ other.m2 ⊕ m2_update in
    let new_m3 = self.m3 ⊕ other.m3 ⊕ delta_mean_weight ⊗ (m2_update ⊗ weight_diff ⊕ three64 ⊗ (self_weight_other_m2 ⊖ other_weight_self_m2)) in
    let new_m4 = self.m4
    ⊕ other.m4
    ⊕ delta_mean_weight
    ⊗ (delta_mean_weight
    ⊗ (m2_update ⊗ (self.weight ⊗ weight_diff ⊕ other.weight ⊗ other.weight)
    ⊕ six64 ⊗ (self.weight ⊗ self_weight_other_m2 ⊕ other.weight ⊗ other_weight_self_m2))
    ⊕ four64 ⊗ (self.weight ⊗ other.m3 ⊖ other.weight ⊗ self.m3)) in
    let self₁ = record self { weight = new_weight } in
    let self₂ = record self₁ { mean = new_mean } in
    let self₃ = record self₂ { m2 = new_m2 } in
    let self₄ = record self₃ { m3 = new_m3 } in
    let self₅ = record self₄ { m4 = new_m4 } in
    cond (eq other.weight zero64) self (cond (eq self.weight zero64) other (KurtosisState-clear_zero_weight_nan self₅))

-- the end of `finalize`, which its two early returns of `None` pass by
abbrev pub less_fisher : Bool → Float → Figure
less_fisher fisher out = cond fisher (Present (out ⊖ three64)) (Present out)

-- `finalize`
unfoldable pub KurtosisState-finalize : KurtosisState → Bool → Bool → Figure
KurtosisState-finalize self fisher bias =
    let m4 = self.m4 ⊘ self.weight in
    let m2 = self.m2 ⊘ self.weight in
    let is_zero = le m2 (powi2 (epsilon64 ⊗ self.mean)) in
    let biased_est = cond is_zero nan (m4 ⊘ (m2 ⊗ m2)) in
    let n = self.weight in
    let nm1_nm2 = (n ⊖ one64) ⊘ (n ⊖ two64) in
    let np1_nm3 = (n ⊕ one64) ⊘ (n ⊖ three64) in
    let nm1_nm3 = (n ⊖ one64) ⊘ (n ⊖ three64) in
    cond bias (cond (eq self.weight zero64) Missing (less_fisher fisher biased_est))
    (cond (le self.weight three64) Missing
    (less_fisher fisher (nm1_nm2 ⊗ (np1_nm3 ⊗ biased_est ⊖ three64 ⊗ nm1_nm3) ⊕ three64)))
