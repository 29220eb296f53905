-- What the row loops of every moment say of a call's rows: where they may begin, and what they leave. Assumes nothing.
use Rattle.std.specs.Prelude.{◌≡◌, ℕ, ◌+◌, ◌-◌, ◌*◌, ◌^◌, ◌<◌, ◌≤◌, min, Bool, true, false, List, [], ◌∷◌, length, Float}
use Rattle.trace.specs.Trace.{Trace}
use Rattle.trace.specs.Slices.{MutSlice, entering_mut, leaving}
use Rattle.moment.specs.declared.Figure.{Figure}
use Rattle.plan.specs.Plan.{Plan, rows, row_start, row_end, planned}
use Rattle.plan.specs.Bounds.{bounds}
use Rattle.plan.specs.Refusals.{widest, needed, plan_refusal, fixed_refusal}
use Rattle.plan.specs.Code.Accepted.{Planned}
use Rattle.plan.specs.Code.Reaching.{reaching, right_of}
use Rattle.plan.specs.declared.bounds.Offsets.{Offsets}
use Rattle.window.specs.Places.{Places, Series, nonfinite_count}
use Rattle.window.specs.Rows.{answer_at}
use Rattle.window.specs.Code.Memory.{Stored}
use Rattle.window.specs.Code.Widening.{raw_series}
use Rattle.window.specs.Outputs.{Column, Lent, column, answered, kept, shortest_of, answer_lengths}
use Rattle.window.specs.Code.Stacks.{Counted, Tallied, Workable, Worked, place_width}
use Rattle.window.specs.Code.Filling.{ColumnsFill}
use Rattle.window.specs.declared.Window.{Window}
use Rattle.rolling.specs.Moments.{Statistic}
use Rattle.rolling.specs.Calls.{Query, query, GivenTo, Left}
use Rattle.plan.specs.declared.Plan.{Plan as CodePlan}
use Rattle.rolling.specs.declared.row.Rows.{Rows}
use Rattle.rolling.specs.declared.row.Windows.{Windows}
use Rattle.rolling.specs.declared.row.Windows.TheVariants.{Reaching, Listed}

-- how many places two lists of readings both have
abbrev pub both_have : List Float → List Float → ℕ
both_have xs ys = min (length xs) (length ys)

-- a range of n places
pub record Range (a b n : ℕ) : Type 0 where
  pub rises : a ≤ b
  pub inside : b ≤ n

-- a valid place, of n
pub record ValidPlace (t : Places) (n i : ℕ) : Type 0 where
  pub inside : i < n
  pub valid : t.valid i ≡ true

-- and one that holds what is finite
pub record FinitePlace (t : Places) (n i : ℕ) : Type 0 where
  pub inside : i < n
  pub valid : t.valid i ≡ true
  pub finite : t.nonfinite i ≡ false

-- a range that leaves a window with so many entries that are not finite: where there are none, the range has none
pub record LeavingRange (t : Places) (a b n nonfinite : ℕ) : Type 0 where
  pub range : Range a b n
  pub none : nonfinite ≡ 0 → nonfinite_count t a b ≡ 0

-- a window over n places that may lose those below s
pub record Below (t : Places) (s n : ℕ) (w : Window) : Type 0 where
  pub starts : w.start ≤ s
  pub inside : s ≤ n
  pub counted : Counted t w

-- the tally of the places below s, of a window that does not start anew there
abbrev pub TalliesBelow : Places → Window → ℕ → ℕ → ℕ → Type 0
TalliesBelow t w s valid nonfinite = s < w.end → Tallied t w.start s valid nonfinite

-- the windows of a call over n places, fixed ones or as they are listed
abbrev pub windows_by : Windows → ℕ → Plan
windows_by (Reaching left right) n = reaching left right n
windows_by (Listed plan) n = planned plan

-- the rows of the call
abbrev pub plan_by : Rows → ℕ → Plan
plan_by r n = windows_by r.windows n

-- the rows of a plan
abbrev pub listed_rows : CodePlan → ℕ → ℕ → Rows
listed_rows plan min_periods widest = record { windows = Listed plan; min_periods = min_periods; widest = widest }

-- the rows of fixed windows of a size, trailing or centred
abbrev pub fixed_rows : ℕ → Bool → ℕ → ℕ → Rows
fixed_rows window_size center min_periods widest =
    record {
      windows = Reaching (window_size - right_of center window_size) (right_of center window_size);
      min_periods = min_periods;
      widest = widest;
    }

-- as many starts as ends
abbrev pub SameMany : Rows → ℕ → Type 0
SameMany r n = length (plan_by r n).starts ≡ length (plan_by r n).ends

-- a row's window
pub record RowBounds (p : Plan) (row : ℕ) (at : Offsets) : Type 0 where
  pub start_is : at.start ≡ row_start p row
  pub end_is : at.end ≡ row_end p row

-- a row that a call has, with its window
pub record RowIn (r : Rows) (n row : ℕ) (at : Offsets) : Type 0 where
  pub same : SameMany r n
  pub listed : row < rows (plan_by r n)
  pub bounds : RowBounds (plan_by r n) row at

-- the pair that a row loop holds before a row: the row's window, where there is such a row
abbrev pub Ahead : Plan → ℕ → Offsets → Type 0
Ahead p row at = row < rows p → RowBounds p row at

-- the query of the rows over n places
abbrev pub driven_query : Rows → ℕ → Statistic → Query
driven_query r n a = query (plan_by r n) r.min_periods a

-- what the rows of an accepted call leave
abbrev pub Leaves : (q : Query) → GivenTo q → Lent × Lent → Type 0
Leaves q t l = Left q t l.0 l.1 0

-- a window whose readings can be counted, and a row from s up to e
pub record Testable (w : Window) (s e : ℕ) : Type 0 where
  pub few : w.front + w.back ≤ 2 ^ 53
  pub rises : s ≤ e

-- what an accepted call tells of its rows over n places, into lists that hold `outputs` rows, with a work slice of `width` doubles a place
pub record Driven (r : Rows) (n outputs width work : ℕ) : Type 0 where
  pub plan : Planned n r.widest (plan_by r n)
  pub wide_is : r.widest ≡ widest (plan_by r n) (rows (plan_by r n))
  pub outputs_fit : rows (plan_by r n) ≤ outputs
  pub work_fits : width * r.widest ≤ work
  pub few : n ≤ 16777216

-- row k's answer, over n places
abbrev pub row_answer : {A : Type 0} → (M : Stored Float A) → (M.moment.State → Figure) → Series A → ℕ → Rows
    → ℕ → Figure
row_answer M final t n r k = answer_at M.moment final t r.min_periods (plan_by r n) k

-- where the rows from `first` up to `until` may be worked, with the bounds of the first
pub record CanWork {A : Type 0} (M : Stored Float A) (t : Series A) (n : ℕ) (r : Rows) (outputs first until : ℕ)
    (at : Offsets) (w : Window) (agg : M.moment.State) (work : List Float) : Type 0 where
  pub workable : Workable M t r.min_periods n r.widest (plan_by r n) outputs first until w agg work
  pub ahead : Ahead (plan_by r n) first at

-- the window after them
abbrev pub HasWorked : {A : Type 0} → (M : Stored Float A) → Series A → ℕ → Rows → ℕ
    → List Float → Window → M.moment.State → List Float → Type 0
HasWorked M t n r until work₀ w agg work =
    Worked M t r.min_periods n r.widest (plan_by r n) until work₀ w agg work

-- the rows from `first` up to `until` worked, and their answers written: each row function's in its two lists
pub record WorksColumns {A : Type 0} (M : Stored Float A) (t : Series A) (n : ℕ) (r : Rows)
    (fs : List (ℕ → Figure)) (first until : ℕ) (work₀ : List Float) (cs₀ : List Column)
    (w : Window) (agg : M.moment.State) (work : List Float) (cs : List Column) : Type 0 where
  pub worked : HasWorked M t n r until work₀ w agg work
  pub written : ColumnsFill fs first until cs₀ cs

-- the same of one figure
abbrev pub Works : {A : Type 0} → (M : Stored Float A) → (M.moment.State → Figure) → Series A → ℕ → Rows → ℕ → ℕ
    → List Float → List Float → List ℕ → Window → M.moment.State → List Float → List Float → List ℕ → Type 0
Works M final t n r first until work₀ figures₀ present₀ w agg work figures present =
    WorksColumns M t n r ((λ k. row_answer M final t n r k) ∷ []) first until work₀ (column figures₀ present₀ ∷ [])
    w agg work (column figures present ∷ [])

-- what the rows from `first` up to `until` of one figure leave, and what stands behind them
pub record WorksBlock {A : Type 0} (M : Stored Float A) (final : M.moment.State → Figure) (t : Series A) (n : ℕ) (r : Rows)
    (first until : ℕ) (work figures : MutSlice Float) (present : MutSlice ℕ) (at : Offsets) (w : Window) (agg : M.moment.State) : Type 0 where
  pub ahead : Ahead (plan_by r n) until at
  pub works : Works M final t n r first until (entering_mut work) (entering_mut figures) (entering_mut present) w agg
      (leaving work) (leaving figures) (leaving present)

-- the same of several row functions, whose lists are lent together
pub record WorksLists {A : Type 0} (M : Stored Float A) (t : Series A) (n : ℕ) (r : Rows) (fs : List (ℕ → Figure)) (first until : ℕ)
    (l : Lent × Lent) (at : Offsets) (w : Window) (agg : M.moment.State) : Type 0 where
  pub ahead : Ahead (plan_by r n) until at
  pub works : WorksColumns M t n r fs first until l.0.work l.0.outputs.answers w agg l.1.work l.1.outputs.answers

-- the readings of a trace as they are
abbrev pub raw_of : Trace → Series Float
raw_of t = raw_series t.mapped t.map t.readings

-- the length of the shortest of three figures' lists
abbrev pub shortest_three : List Float → List ℕ → List Float → List ℕ → List Float → List ℕ → ℕ
shortest_three d b d' b' d'' b'' = shortest_of (answer_lengths (column d b ∷ column d' b' ∷ column d'' b'' ∷ []))

-- What a call of one figure that answers `number` leaves by a plan: a row's answer behind another, or every list as it was, and the work
-- slice as it was past what is needed
pub record LeavesBy {A : Type 0} (M : Stored Float A) (final : M.moment.State → Figure) (t : Series A) (min_periods : ℕ) (p : Plan)
    (number : ℕ) (work₀ work : List Float) (c₀ c : Column) : Type 0 where
  pub answers_are : c ∷ [] ≡ answered number (rows p) ((λ k. answer_at M.moment final t min_periods p k) ∷ []) (c₀ ∷ [])
  pub work_kept : kept number (needed (place_width M) p) work₀ work

-- its rows
abbrev pub LeavesFigure : {A : Type 0} → (M : Stored Float A) → (M.moment.State → Figure) → Series A → ℕ → Rows
    → List Float → List Float → Column → Column → Type 0
LeavesFigure M final t n r = LeavesBy M final t r.min_periods (plan_by r n) 0

-- the same, of the lists that are lent
abbrev pub GivesFigure : {A : Type 0} → (M : Stored Float A) → (M.moment.State → Figure) → Series A → ℕ → Rows
    → MutSlice Float → MutSlice Float → MutSlice ℕ → Type 0
GivesFigure M final t n r work figures present =
    LeavesFigure M final t n r (entering_mut work) (leaving work)
    (column (entering_mut figures) (entering_mut present)) (column (leaving figures) (leaving present))

-- a plan call of one figure over n places, of which what is given has the number `given`
pub record PlansFigure {A : Type 0} (M : Stored Float A) (final : M.moment.State → Figure) (t : Series A) (n given min_periods : ℕ) (p : Plan)
    (number : ℕ) (work₀ work : List Float) (c₀ c : Column) : Type 0 where
  pub number_is : number ≡ plan_refusal given p n false (min (length c₀.doubles) (length c₀.bytes)) (place_width M) (length work₀)
  pub left : LeavesBy M final t min_periods p number work₀ work c₀ c

-- a call with fixed windows
pub record FixesFigure {A : Type 0} (M : Stored Float A) (final : M.moment.State → Figure) (t : Series A) (n given : ℕ) (center : Bool)
    (size min_periods number : ℕ) (work₀ work : List Float) (c₀ c : Column) : Type 0 where
  pub number_is : number ≡ fixed_refusal given n size (min (length c₀.doubles) (length c₀.bytes)) (place_width M) (length work₀)
  pub left : LeavesBy M final t min_periods (bounds center size n) number work₀ work c₀ c

-- the same, of the lists that are lent
abbrev pub PlanGives : {A : Type 0} → (M : Stored Float A) → (M.moment.State → Figure) → Series A → ℕ → ℕ → ℕ → Plan
    → MutSlice Float → MutSlice Float → MutSlice ℕ → ℕ → Type 0
PlanGives M final t n given min_periods p work figures present number =
    PlansFigure M final t n given min_periods p number (entering_mut work) (leaving work)
    (column (entering_mut figures) (entering_mut present)) (column (leaving figures) (leaving present))

abbrev pub FixedGives : {A : Type 0} → (M : Stored Float A) → (M.moment.State → Figure) → Series A → ℕ → ℕ → Bool → ℕ → ℕ
    → MutSlice Float → MutSlice Float → MutSlice ℕ → ℕ → Type 0
FixedGives M final t n given center size min_periods work figures present number =
    FixesFigure M final t n given center size min_periods number (entering_mut work) (leaving work)
    (column (entering_mut figures) (entering_mut present)) (column (leaving figures) (leaving present))
