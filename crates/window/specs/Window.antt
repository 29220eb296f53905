-- Document 01, Window (001): the split account, "three whole numbers, start, end and split", the two parts that it tells, and the
-- figure that it yields, over any moment and any kind of entry. Two stacks make a queue: what enters goes on the back stack, what
-- leaves comes off the front stack, and when that is empty the back stack is turned over onto it; each entry is turned over once, so
-- that a move costs what enters and leaves, and no state is ever taken back. Assumes nothing.
use Rattle.std.specs.Prelude.{ℕ, zero, suc, ◌-◌, max, Bool, cond, ◌&&◌, leb, eqb}
use mathlib.Core.List.{List, foldl, foldr}
use Rattle.std.specs.Float.{nan}
use Rattle.moment.specs.declared.Figure.{Figure}
use Rattle.moment.specs.declared.Figure.TheVariants.{Missing, Present}
use Rattle.window.specs.Places.{Series, entries, nonfinite_count}

-- "The split account .. three whole numbers, start, end and split"
pub record Account : Type 0 where
  pub start : ℕ
  pub end : ℕ
  pub split : ℕ

-- "all 0 when fresh"
abbrev pub fresh : Account
fresh = record { start = 0; end = 0; split = 0 }

-- "1. If s ≥ end, start, end and split become s."
abbrev pub restarted : Account → ℕ → Account
restarted a s = cond (leb a.end s) (record { start = s; end = s; split = s }) a

-- "2. For each valid place i from start up to s, in order: if i ≥ split, split becomes end.": the k places from i on
unfoldable pub split_after : (ℕ → Bool) → ℕ → ℕ → ℕ → ℕ → ℕ
split_after valid zero i end split = split
split_after valid (suc k) i end split = split_after valid k (suc i) end (cond (valid i && leb split i) end split)

-- step 2, and of step 3 "start becomes s"
abbrev pub trimmed : (ℕ → Bool) → Account → ℕ → Account
trimmed valid a s = record { start = s; end = a.end; split = split_after valid (s - a.start) a.start a.end a.split }

-- of step 3 "end becomes e"
abbrev pub extended : Account → ℕ → Account
extended a e = record { start = a.start; end = e; split = a.split }

-- "Moving to row (s, e)"
abbrev pub moved : (ℕ → Bool) → Account → ℕ → ℕ → Account
moved valid a s e = extended (trimmed valid (restarted a s) s) e

-- "The front part is the valid places from start up to split"
abbrev pub front : {A : Type 0} → Series A → Account → List A
front t a = entries t.places.valid t.entry a.start a.split

-- "The back part is the valid places from the larger of start and split up to end"
abbrev pub back : {A : Type 0} → Series A → Account → List A
back t a = entries t.places.valid t.entry (max a.start a.split) a.end

-- 001, `RollingMomentAlgo`: what a moment is, over any kind of entry
pub record Moment (A : Type 0) : Type 1 where
  pub State : Type 0
  pub empty : State
  pub insert : State → A → State
  pub combine : State → State → State

-- "inserted in rising order"
abbrev pub rising : {A : Type 0} → (M : Moment A) → M.State → List A → M.State
rising M state l = foldl M.insert state l

-- "inserted in falling order into an empty state"
abbrev pub falling : {A : Type 0} → (M : Moment A) → List A → M.State
falling M l = foldr (λ x state. M.insert state x) M.empty l

-- "a present figure is NaN"
abbrev pub as_nan : Figure → Figure
as_nan Missing = Missing
as_nan (Present v) = Present nan

-- "if the window has one": n is how many in the window are not finite
unfoldable pub or_nan : ℕ → Figure → Figure
or_nan n figure = cond (eqb n 0) figure (as_nan figure)

-- "The figure finalises the back state combined with the front state, in that order."
unfoldable pub figure_of : {A : Type 0} → (M : Moment A) → (M.State → Figure) → Series A → Account → Figure
unfolding or_nan
figure_of M final t a =
    or_nan (nonfinite_count t.places a.start a.end) (final (M.combine (rising M M.empty (back t a)) (falling M (front t a))))
