-- What is known of an accepted call, by whichever entry: its number is 0, so no refusal applies, its plan is in order, and its
-- lists hold every row's answers. Assumes nothing.
use Prim.Native.Nat.{ℕ, ◌≤◌, ◌<◌}
use mathlib.Core.Path.{◌≡◌, refl, sym, ap, ◌∙◌}
use mathlib.Core.Bool.{Bool, true, false}
use mathlib.Core.List.{List, [], ◌∷◌}
use lib.Dec.{lit≤}
use lib.ListN.{length, take}
use lib.Ieee.{Float}
use borrow.Author.Tests.{ltb-false}
use Rattle.trace.specs.Trace.{Trace, bytes_for}
use Rattle.trace.specs.Refusals.{refusal, too_many, wrong_map, trace_refusal}
use Rattle.trace.proofs.Accepted.{none_of, not_refused_lem}
use Rattle.plan.specs.Plan.{Plan, rows}
use Rattle.plan.specs.Code.Accepted.{Planned}
use Rattle.plan.proofs.Checks.{taken}
use Rattle.window.specs.Given.{Given, places_of, given_refusal}
use Rattle.window.specs.Outputs.{Column, Lent, answers_in, counts_in, answers_at, counts_at, shortest_output}
use Rattle.window.proofs.Outputs.{answered_at, numbered_at}
use Rattle.rolling.specs.Moments.{Statistic, Variance, Skewness, Kurtosis, Covariance, Correlation, kind_of, finals_of, work_width}
use Rattle.rolling.specs.Calls.{Query, query, GivenTo, figures_of, yields, tallies, refusal_of, Left}
use Rattle.weighted.specs.Weights.{weighted_at, CalledWeights}
use Rattle.moments.specs.HostCall.{decoded_of, short_lists}
use Rattle.promises.specs.Calls.{figures_in, AcceptedCall, plan_call, host_call, fixed_call}

pub record Known (q : Query) (t : GivenTo q) (l : Lent) : Type 0 where
  pub given_is : given_refusal (kind_of q.statistic) t ≡ 0
  pub widest : ℕ
  pub plan : Planned (places_of (kind_of q.statistic) t) widest q.plan
  pub answers : (k : ℕ) → k < rows q.plan → answers_in l.outputs.answers k ≡ answers_at (yields q t) k
  pub figures : (k : ℕ) → k < rows q.plan → figures_in q.statistic l k ≡ answers_at (figures_of q t) k
  pub counts : (k : ℕ) → k < rows q.plan → counts_in l.outputs.counts k ≡ counts_at (tallies q t) k

-- a map that is not refused
pub map_long : (t : Trace) → trace_refusal t ≡ 0 → t.mapped ≡ true → bytes_for (length t.readings) ≤ length t.map
unfolding wrong_map
map_long t e h =
    let w : wrong_map (length t.readings) t.mapped t.map ≡ false =
    not_refused_lem 3 (wrong_map (length t.readings) t.mapped t.map) (lit≤ tt)
    (none_of (refusal 1 (too_many (length t.readings))) (refusal 3 (wrong_map (length t.readings) t.mapped t.map)) e).1 in
    ltb-false _ _ (rw h at w)

-- the figures stand first
figures_first : (a : Statistic) (t : Given (kind_of a)) (min_periods : ℕ) (p : Plan) (k : ℕ)
    → take (length (finals_of a)) (answers_at (yields (query p min_periods a) t) k) ≡ answers_at (figures_of (query p min_periods a) t) k
figures_first (Variance ddof) t min_periods p k = refl
figures_first (Skewness bias) t min_periods p k = refl
figures_first (Kurtosis fisher bias) t min_periods p k = refl
figures_first (Covariance ddof) t min_periods p k = refl
figures_first Correlation t min_periods p k = refl

known_of : (q : Query) (t : GivenTo q) (l₀ l : Lent) (short : Bool) → Left q t l₀ l 0 → refusal_of q t short l₀ ≡ 0 → Known q t l
known_of q t l₀ l short w e =
    let kind = kind_of q.statistic in
    let a = taken (given_refusal kind t) q.plan (places_of kind t) short (shortest_output l₀.outputs) (work_width q.statistic) (length l₀.work) e in
    let answers : (k : ℕ) → k < rows q.plan → answers_in l.outputs.answers k ≡ answers_at (yields q t) k = λ k h.
    ap (λ x. answers_in x k) w.written.answers_are
    ∙ answered_at (rows q.plan) k (yields q t) l₀.outputs.answers h w.fits.answers in
    record {
      given_is = a.given_is;
      widest = _;
      plan = a.plan;
      answers = answers;
      figures = λ k h.
          ap (take (length (finals_of q.statistic))) (answers k h) ∙ figures_first q.statistic t q.min_periods q.plan k;
      counts = λ k h. ap (λ x. counts_in x k) w.written.counts_are ∙ numbered_at (rows q.plan) k (tallies q t) l₀.outputs.counts h w.fits.counts;
    }

pub known : (q : Query) (t : GivenTo q) (l : Lent) → AcceptedCall q t l → Known q t l
known q t l (plan_call {l₀ = l₀} c) = known_of q t l₀ l false c.left (sym c.number_is)
known q t l (host_call {h = h} {r₀ = r₀} {l₀ = l₀} c) =
    known_of q (decoded_of (kind_of q.statistic) h) l₀ l (short_lists (kind_of q.statistic) h r₀) c.left (none_of _ _ (sym c.number_is)).1
known q t l (fixed_call {l₀ = l₀} c) = known_of q t l₀ l false c.plan_call.left (sym c.plan_call.number_is)

-- a weighted call's lists hold every row's answer
pub weights_row : (center : Bool) (size min_periods : ℕ) (weights : List Float) (t : Trace) (c₀ c : Column)
    → CalledWeights center size min_periods weights t c₀ c 0 → (k : ℕ) → k < length t.readings
    → answers_in (c ∷ []) k ≡ answers_at (weighted_at center size min_periods weights t.readings ∷ []) k
weights_row center size min_periods weights t c₀ c d k h =
    ap (λ (x : Column). answers_in (x ∷ []) k) d.column-is
    ∙ answered_at (length t.readings) k (weighted_at center size min_periods weights t.readings ∷ []) (c₀ ∷ []) h refl
