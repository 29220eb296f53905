-- Document 01, "A plan call, from bytes to figures": what a call without weights is asked and given, what it answers and what it leaves
-- in the lists that it is lent. The contract of each plan call of this crate is `Calls`. Assumes nothing.
use Rattle.std.specs.Prelude.{◌≡◌, ℕ, Bool, false, List, [], ◌∷◌, ◌++◌, length, Float}
use Rattle.trace.specs.Slices.{Slice, MutSlice, entering_mut, leaving}
use Rattle.moment.specs.declared.Figure.{Figure}
use Rattle.plan.specs.Plan.{Plan, rows, planning}
use Rattle.plan.specs.Refusals.{needed, plan_refusal}
use Rattle.window.specs.Places.{Series}
use Rattle.window.specs.Window.{Moment}
use Rattle.window.specs.Given.{Given, series_of, places_of, given_refusal}
use Rattle.window.specs.Rows.{answer_at}
use Rattle.window.specs.Extremes.{lower, higher, extreme_at}
use Rattle.window.specs.Outputs.{Column, Outputs, Lent, column, outputs_of, kept, answered, numbered, shortest_output}
use Rattle.rolling.specs.Moments.{Statistic, Variance, Skewness, Kurtosis, Covariance, Correlation}
use Rattle.rolling.specs.Moments.{kind_of, moment_of, finals_of, work_width}

-- a plan, which figure, and a setting: "the minimum that Rows tests and what the figure's `finalize` takes beside the state"
pub record Query : Type 0 where
  pub plan : Plan
  pub min_periods : ℕ
  pub statistic : Statistic

-- a query of its parts
abbrev pub query : Plan → ℕ → Statistic → Query
query plan min_periods statistic = record { plan = plan; min_periods = min_periods; statistic = statistic }

-- what a call with this query is given
abbrev pub GivenTo : Query → Type 0
GivenTo q = Given (kind_of q.statistic)

-- each figure's answers, row after row
abbrev pub figures_by : {A : Type 0} → (M : Moment A) → List (M.State → Figure) → Series A → ℕ → Plan → List (ℕ → Figure)
figures_by M [] t min_periods p = []
figures_by M (final ∷ finals) t min_periods p = (λ k. answer_at M final t min_periods p k) ∷ figures_by M finals t min_periods p

-- Document 02, request 4: "Rolling variance without weights shall also give .. the lowest and highest finite valid reading of the window"
abbrev pub extremes_by : (a : Statistic) → Given (kind_of a) → ℕ → Plan → List (ℕ → Figure)
extremes_by (Variance ddof) t min_periods p = (λ k. extreme_at lower t min_periods p k) ∷ (λ k. extreme_at higher t min_periods p k) ∷ []
extremes_by (Skewness bias) t min_periods p = []
extremes_by (Kurtosis fisher bias) t min_periods p = []
extremes_by (Covariance ddof) t min_periods p = []
extremes_by Correlation t min_periods p = []

-- a row's figures: what the split account yields of the plan, the map, the readings, the figure and the setting, "nothing else"
abbrev pub figures_of : (q : Query) → GivenTo q → List (ℕ → Figure)
figures_of q t = figures_by (moment_of q.statistic) (finals_of q.statistic) (series_of (kind_of q.statistic) t) q.min_periods q.plan

-- a row's answers: its figures, and behind a variance its lowest and highest reading
abbrev pub yields : (q : Query) → GivenTo q → List (ℕ → Figure)
yields q t = figures_of q t ++ extremes_by q.statistic t q.min_periods q.plan

-- a row's counts: no call gives any yet
abbrev pub tallies : (q : Query) → GivenTo q → List (ℕ → ℕ)
tallies q t = []

-- What a call that answers `number` leaves in its outputs: "places past the last row keep their contents"; a refusal changes no buffer
pub record Written (q : Query) (t : GivenTo q) (l₀ l₁ : Outputs) (number : ℕ) : Type 0 where
  pub answers_are : l₁.answers ≡ answered number (rows q.plan) (yields q t) l₀.answers
  pub counts_are : l₁.counts ≡ numbered number (rows q.plan) (tallies q t) l₀.counts

-- as many lists as figures and counts are given
pub record Fits (q : Query) (t : GivenTo q) (l : Outputs) : Type 0 where
  pub answers : length l.answers ≡ length (yields q t)
  pub counts : length l.counts ≡ length (tallies q t)

-- the first refusal of a call with the lists l; `short` says that a list of readings is lent that is too short
abbrev pub refusal_of : (q : Query) → GivenTo q → Bool → Lent → ℕ
refusal_of q t short l =
    plan_refusal (given_refusal (kind_of q.statistic) t) q.plan (places_of (kind_of q.statistic) t) short
    (shortest_output l.outputs) (work_width q.statistic) (length l.work)

-- what a call that answers `number` leaves: of the work slice the part needed is the only freedom
pub record Left (q : Query) (t : GivenTo q) (l₀ l₁ : Lent) (number : ℕ) : Type 0 where
  pub fits : Fits q t l₀.outputs
  pub written : Written q t l₀.outputs l₁.outputs number
  pub work_kept : kept number (needed (work_width q.statistic) q.plan) l₀.work l₁.work

-- a plan call, the trace as doubles: its number, and what it leaves
pub record Called (q : Query) (t : GivenTo q) (l₀ l₁ : Lent) (number : ℕ) : Type 0 where
  pub number_is : number ≡ refusal_of q t false l₀
  pub left : Left q t l₀ l₁ number

-- ---- the same, of a call's parameters
-- the query
abbrev pub querying : Slice ℕ → Slice ℕ → ℕ → Statistic → Query
querying starts ends min_periods statistic = query (planning starts ends) min_periods statistic

-- the columns that lists of doubles and bytes are, before a call
abbrev pub columns_before : List (MutSlice Float × MutSlice ℕ) → List Column
columns_before [] = []
columns_before (c ∷ cs) = column (entering_mut c.0) (entering_mut c.1) ∷ columns_before cs

-- and after it
abbrev pub columns_after : List (MutSlice Float × MutSlice ℕ) → List Column
columns_after [] = []
columns_after (c ∷ cs) = column (leaving c.0) (leaving c.1) ∷ columns_after cs

-- what is lent, before and after: the work slice, then the two lists of each figure
abbrev pub lending_all : MutSlice Float → List (MutSlice Float × MutSlice ℕ) → Lent × Lent
lending_all work cs = (
  record { outputs = outputs_of (columns_before cs) []; work = entering_mut work },
  record { outputs = outputs_of (columns_after cs) []; work = leaving work },
)

-- of one figure
abbrev pub lending : MutSlice Float → MutSlice Float → MutSlice ℕ → Lent × Lent
lending work figures present = lending_all work ((figures, present) ∷ [])

-- of a variance, its lowest and its highest reading
abbrev pub lending_three : MutSlice Float → MutSlice Float → MutSlice ℕ → MutSlice Float → MutSlice ℕ → MutSlice Float → MutSlice ℕ → Lent × Lent
lending_three work figures present lowest lowest_present highest highest_present =
    lending_all work ((figures, present) ∷ (lowest, lowest_present) ∷ (highest, highest_present) ∷ [])

-- a plan call
abbrev pub Calls : (q : Query) → GivenTo q → Lent × Lent → ℕ → Type 0
Calls q t l number = Called q t l.0 l.1 number
