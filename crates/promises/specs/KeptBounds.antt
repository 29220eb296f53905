-- Document 02, request 3, "Keep the last bounds": "each row's start and end shall come from the pair and row number before". What is to be
-- shown of a step, for fixed windows of any size over any number of places. Assumes nothing.
use Rattle.std.specs.Prelude.{ℕ, ◌+◌, ◌-◌, ◌/◌, ◌≤◌, ◌<◌, ◌≡◌, Bool, cond}
use Rattle.plan.specs.Bounds.{bounds_at, next_offsets}

-- how many places before its own a window starts: what `det_offsets` takes from the row, and `det_offsets_center`
abbrev pub left_window : Bool → ℕ → ℕ
left_window center window_size = cond center (window_size - (window_size + 1) / 2) (window_size - 1)

-- row i's pair stepped on is the next row's
abbrev pub StepsOn : Bool → ℕ → ℕ → ℕ → Type 0
StepsOn center window_size len i =
    next_offsets i (bounds_at center window_size len i) (left_window center window_size) len ≡ bounds_at center window_size len (i + 1)

-- a bound that is raised by at most one, and not lowered
pub record AtMostOne (before after : ℕ) : Type 0 where
  pub not_lowered : before ≤ after
  pub by_one : after ≤ before + 1

-- "raises start and end by at most one each"
pub record RaisesEach (at next : ℕ × ℕ) : Type 0 where
  pub start : AtMostOne at.0 next.0
  pub end : AtMostOne at.1 next.1

-- "Show that a step raises start and end by at most one each and gives the next row's pair of `det_offsets` or `det_offsets_center`, for
-- any size."
pub record KeptBounds : Type 0 where
  -- whatever the pair is
  pub raises : (i : ℕ) (at : ℕ × ℕ) (left len : ℕ) → RaisesEach at (next_offsets i at left len)
  -- of a row with a next row
  pub next : (center : Bool) (window_size len i : ℕ) → i + 1 < len → StepsOn center window_size len i
