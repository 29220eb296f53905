-- What the stacks of variance keep is the variance of readings with zeros for those that are not finite, and their lowest and highest: by
-- the laws of what two moments keep alike and of numbers that readings widen. Assumes nothing.
use Rattle.std.proofs.Common.{◌≡◌, ℕ, ◌+◌, ◌*◌, ◌^◌, ◌≤◌, length, Bool, true, false, cond, List, refl, ap, ◌∙◌}
use lib.Ieee.{Float, inf}
use Rattle.float.specs.Operators.{of_nat64}
use Rattle.float.proofs.Counts.{zero_is}
use Rattle.float.proofs.Ordering.{Orders, lower_orders, higher_orders}
use Rattle.trace.specs.Trace.{trace_of}
use Rattle.moment.specs.Var.{var_insert, var_combine, var_finalize}
use Rattle.moment.proofs.Weights.{raising, var_raises}
use Rattle.moment.specs.declared.Figure.{Figure}
use Rattle.moment.specs.declared.Figure.TheVariants.{Missing}
use Rattle.moment.specs.declared.var_state.VarState.{VarState}
use Rattle.plan.specs.Plan.{Plan, row_start, row_end}
use Rattle.window.specs.Places.{Series}
use Rattle.window.specs.Window.{as_nan}
use Rattle.window.specs.Readings.{places_by, series, reading_of, inserted_at}
use Rattle.window.specs.Rows.{answer_at}
use Rattle.window.specs.Extremes.{lower, higher, short_row, extreme_at}
use Rattle.window.specs.Code.Memory.{reading}
use Rattle.window.specs.Code.Stacks.{state_by, Stepped, Held}
use Rattle.window.specs.Code.Widening.{raw_series, inserting, shown}
use Rattle.window.specs.declared.Window.{Window}
use Rattle.window.proofs.Related.{Related, related-rows}
use Rattle.window.proofs.Extremes.{Keeps, step-extreme}
use Rattle.rolling.specs.Moments.{variance}
use Rattle.rolling.specs.Code.Ops.{ops_of, CanTotal}
use Rattle.rolling.specs.Code.Extremes.{variance_extremes, var_weight}
use Rattle.rolling.specs.Code.Layouts.{var_layout, var_stored}
use Rattle.rolling.proofs.Counts.{can-total}
use Rattle.rolling.specs.declared.extremes.VarExtremes.{VarExtremes}

-- ---- the variance
keeps_variance : Related variance_extremes variance (λ n. Unit {0}) (λ x y. inserting x ≡ y) (λ n s s'. s.var ≡ s')
keeps_variance =
    record {
      smaller = λ a b h u. tt;
      empties = refl;
      inserts = λ n s s' x x' u e f. λ j. var_insert (e j) (f j);
      combines = λ a b s o s' o' u e f. λ j. var_combine (e j) (f j);
    }

pub variance_row : (ddof : ℕ) (has : Bool) (map : List ℕ) (values : List Float) (min_periods : ℕ) (p : Plan) (k : ℕ)
    → answer_at variance_extremes (λ z. var_finalize z.var ddof) (raw_series has map values) min_periods p k
    ≡ answer_at variance (λ z. var_finalize z ddof) (series has map values) min_periods p k
unfolding inserted_at
variance_row ddof has map values min_periods p k =
    related-rows keeps_variance (places_by has map values) (reading_of values) (inserted_at values) (λ i v. refl) (λ n. tt)
    (λ f g. f ≡ g) refl (λ x y e. ap as_nan e) (λ z. var_finalize z.var ddof) (λ z. var_finalize z ddof)
    (λ n s s' e. ap (λ (z : VarState). var_finalize z ddof) e) min_periods p k

-- ---- the lowest and the highest
abbrev keeps_lowest : Keeps lower (inf false) lower_orders variance_extremes
keeps_lowest = record { of = λ s. s.lowest; empties = refl; inserts = λ s x. refl; combines = λ s o. refl }

abbrev keeps_highest : Keeps higher (inf true) higher_orders variance_extremes
keeps_highest = record { of = λ s. s.highest; empties = refl; inserts = λ s x. refl; combines = λ s o. refl }

-- of row k, by the window after its step
module _ (has : Bool) (map : List ℕ) (values : List Float) (min_periods widest k : ℕ) (p : Plan)
    (w : Window) {s e : ℕ} {w' : Window} {agg' : VarExtremes}
    {work work' : List Float} (q : Stepped var_stored (raw_series has map values) widest min_periods k s e w work w' agg' work')
    (s-is : s ≡ row_start p k) (e-is : e ≡ row_end p k) {state : VarExtremes} (state-is : state ≡ state_by var_stored w' agg' work')
    {short : Bool} (short-is : short ≡ short_row has min_periods s e) {x : Figure} where
  extreme-row : (beyond : Float → Float → Bool) (limit : Float) (O : Orders beyond limit) (K : Keeps beyond limit O variance_extremes)
      → x ≡ cond short Missing (shown (K.of state)) → x ≡ extreme_at beyond (trace_of values has map) min_periods p k
  extreme-row beyond limit O K g =
      g
      ∙ ap (λ (b : Bool). cond b Missing (shown (K.of state))) short-is
      ∙ ap (λ (z : VarExtremes). cond (short_row has min_periods s e) Missing (shown (K.of z))) state-is
      ∙ step-extreme beyond limit O var_stored K has map values widest min_periods k s e w work q
      ∙ rw (s-is, e-is)

  pub lowest-row : x ≡ cond short Missing (shown state.lowest) → x ≡ extreme_at lower (trace_of values has map) min_periods p k
  lowest-row g = extreme-row lower (inf false) lower_orders keeps_lowest g

  pub highest-row : x ≡ cond short Missing (shown state.highest) → x ≡ extreme_at higher (trace_of values has map) min_periods p k
  highest-row g = extreme-row higher (inf true) higher_orders keeps_highest g

-- the weights of a window's two states count its readings, so they may be combined
pub extremes_total : {t : Series Float} {base : ℕ} {w : Window} {agg : VarExtremes} {work : List Float} → Held var_stored t base w agg work
    → 5 * w.front ≤ length work → w.front + w.back ≤ 2 ^ 53
    → CanTotal reading var_layout (ops_of variance_extremes) (λ s n. var_weight s ≡ of_nat64 n) w agg work
extremes_total held o h =
    can-total (ops_of variance_extremes) (λ s n. var_weight s ≡ of_nat64 n) zero_is
    (raising var_weight variance_extremes.insert (λ s x. var_raises s.var (inserting x))) held o h
