-- Demand 2, for windows: 001's `MomentWindow` as functions on values, as literally as lists allow; each definition is the
-- function that its comment names. `slice`, `validity` and `moment`, which no function changes, are parameters. A `Vec` is a
-- list whose head is the last element: push puts in front, pop takes the head off, last reads it. Assumes nothing.
use Rattle.std.specs.Prelude.{ℕ, zero, suc, ◌-◌, Bool, not, ltb, leb, Float}
use Rattle.std.proofs.Math.Bool.{cond}
use mathlib.Core.List.{List, [], ◌∷◌, foldl}
use mir.Val.{bool_byte}
use Rattle.std.specs.Float.{nan}
use Rattle.std.specs.Float.Ieee.Scale.{finite}
use Rattle.float.specs.Operators.{zero64}
use Rattle.moment.specs.declared.Figure.{Figure}
use Rattle.moment.specs.declared.Figure.TheVariants.{Missing, Present}
use Rattle.window.specs.Window.{Moment}
use Rattle.promises.specs.Rust.{Rust, Bitmap}
use Rattle.promises.specs.SourceStates.{is_empty}

-- `for idx in a..b`, whose body takes w to f idx w: b - a turns
unfoldable pub turns : {A : Type 0} → (ℕ → A → A) → ℕ → ℕ → A → A
turns f zero idx w = w
turns f (suc k) idx w = turns f k (suc idx) (f idx w)

abbrev pub for_in : {A : Type 0} → ℕ → ℕ → (ℕ → A → A) → A → A
for_in a b f w = turns f (b - a) a w

-- what `Vec::pop` leaves
abbrev pub popped : {A : Type 0} → List A → List A
popped [] = []
popped (x ∷ l) = l

-- the loop of `flip`: the front, after the back is popped until it is empty and each state of `agg` is pushed
unfoldable pub flipped : {S : Type 0} → (S → Float → S) → List Float → S → List S → List S
flipped insert [] agg front = front
flipped insert (x ∷ back) agg front = let agg' = insert agg x in flipped insert back agg' (agg' ∷ front)

-- in `get_moment`: `if let Some(front_agg) = self.front.last()`, the `combine`
abbrev pub combined : {S : Type 0} → (S → S → S) → S → List S → S
combined combine state [] = state
combined combine state (front_agg ∷ front) = combine state front_agg

-- in `get_moment`: `agg.map(|_v| NAN)`
abbrev pub map_nan : Figure → Figure
map_nan Missing = Missing
map_nan (Present v) = Present nan

-- `MomentWindow`
pub record MomentWindow (M : Moment Float) : Type 0 where
  pub non_finite_count : ℕ
  pub null_count : ℕ
  pub start : ℕ
  pub end : ℕ
  pub front : List M.State
  pub back : List Float
  pub agg_back : M.State

module _ {M : Moment Float} where
  -- ---- a store to each member
  abbrev pub set_non_finite_count : MomentWindow M → ℕ → MomentWindow M
  set_non_finite_count w n = record w { non_finite_count = n }

  abbrev pub set_null_count : MomentWindow M → ℕ → MomentWindow M
  set_null_count w n = record w { null_count = n }

  abbrev pub set_start : MomentWindow M → ℕ → MomentWindow M
  set_start w n = record w { start = n }

  abbrev pub set_end : MomentWindow M → ℕ → MomentWindow M
  set_end w n = record w { end = n }

  abbrev pub set_front : MomentWindow M → List M.State → MomentWindow M
  set_front w states = record w { front = states }

  abbrev pub set_back : MomentWindow M → List Float → MomentWindow M
  set_back w xs = record w { back = xs }

  abbrev pub set_agg_back : MomentWindow M → M.State → MomentWindow M
  set_agg_back w state = record w { agg_back = state }

  -- ---- `impl MomentWindow`
  -- `new_impl`
  abbrev pub new_impl : MomentWindow M
  new_impl =
      record {
        non_finite_count = 0;
        null_count = 0;
        start = 0;
        end = 0;
        front = [];
        back = [];
        agg_back = M.empty;
      }

  -- `reset`
  abbrev pub reset : MomentWindow M → MomentWindow M
  reset w =
      let w₁ = set_non_finite_count w 0 in
      let w₂ = set_null_count w₁ 0 in
      let w₃ = set_front w₂ [] in
      let w₄ = set_back w₃ [] in
      set_agg_back w₄ M.empty

  -- in both arms of `push`: `self.back.push(x)`, then `insert_one` into `agg_back`
  abbrev pub pushed : MomentWindow M → Float → MomentWindow M
  pushed w x = set_agg_back (set_back w (x ∷ w.back)) (M.insert w.agg_back x)

  -- `push`
  unfoldable pub push : Rust → MomentWindow M → Float → MomentWindow M
  push rust w val =
      cond (finite val) (pushed w val) (set_non_finite_count (pushed w zero64) (rust.plus w.non_finite_count 1))

  -- `flip`
  unfoldable pub flip : MomentWindow M → MomentWindow M
  unfolding flipped
  flip w =
      let w₁ = set_front w (flipped M.insert w.back M.empty w.front) in
      let w₂ = set_back w₁ [] in
      set_agg_back w₂ M.empty

  -- `pop`
  unfoldable pub pop : Rust → MomentWindow M → Float → MomentWindow M
  unfolding flip
  pop rust w val =
      let w₁ = cond (is_empty w.front) (flip w) w in
      let w₂ = set_front w₁ (popped w₁.front) in
      set_non_finite_count w₂ (rust.minus w₂.non_finite_count (bool_byte (not (finite val))))

  -- `get_moment`, which both `get_agg` return; `finalize` is that of `self.moment`
  unfoldable pub get_moment : (M.State → Figure) → MomentWindow M → Figure
  get_moment finalize w =
      let state = combined M.combine w.agg_back w.front in
      let agg = finalize state in
      cond (ltb 0 w.non_finite_count) (map_nan agg) agg

  -- in both `update`: `if new_start >= self.end`, the reset
  abbrev pub restarted : MomentWindow M → ℕ → MomentWindow M
  restarted w new_start = cond (leb w.end new_start) (set_end (set_start (reset w) new_start) new_start) w

  -- ---- `impl RollingAggWindowNoNulls`
  -- `update`
  unfoldable pub update_no_nulls : Rust → List Float → MomentWindow M → ℕ → ℕ → MomentWindow M
  unfolding push pop
  update_no_nulls rust values w new_start new_end =
      let w₁ = restarted w new_start in
      let w₂ = foldl (pop rust) w₁ (rust.part values w₁.start new_start) in
      let w₃ = foldl (push rust) w₂ (rust.part values w₂.end new_end) in
      set_end (set_start w₃ new_start) new_end

  -- `new`
  abbrev pub new_no_nulls : Rust → List Float → ℕ → ℕ → MomentWindow M
  new_no_nulls rust values start end = update_no_nulls rust values new_impl start end

  -- ---- `impl RollingAggWindowNulls`
  -- the body of the first loop of `update`
  unfoldable pub pop_at : Rust → Bitmap → List Float → ℕ → MomentWindow M → MomentWindow M
  unfolding pop
  pop_at rust validity values idx w =
      cond (rust.bit validity idx) (pop rust w (rust.get values idx)) (set_null_count w (rust.minus w.null_count 1))

  -- the body of its second loop
  unfoldable pub push_at : Rust → Bitmap → List Float → ℕ → MomentWindow M → MomentWindow M
  unfolding push
  push_at rust validity values idx w =
      cond (rust.bit validity idx) (push rust w (rust.get values idx)) (set_null_count w (rust.plus w.null_count 1))

  -- `update`
  unfoldable pub update_nulls : Rust → Bitmap → List Float → MomentWindow M → ℕ → ℕ → MomentWindow M
  unfolding turns pop_at push_at
  update_nulls rust validity values w new_start new_end =
      let w₁ = restarted w new_start in
      let w₂ = for_in w₁.start new_start (pop_at rust validity values) w₁ in
      let w₃ = for_in w₂.end new_end (push_at rust validity values) w₂ in
      set_end (set_start w₃ new_start) new_end

  -- `new`; its `assert!` holds of the one row that it is called with: row 0 of an accepted plan, or (0, 0) for an empty plan. Fixed
  -- windows of an empty trace may call it with (0, 1), where the Rust panics; no row is asked of it then.
  abbrev pub new_nulls : Rust → Bitmap → List Float → ℕ → ℕ → MomentWindow M
  new_nulls rust validity values start end = update_nulls rust validity values new_impl start end

  -- `is_valid`
  abbrev pub is_valid : Rust → MomentWindow M → ℕ → Bool
  is_valid rust w min_periods = leb min_periods (rust.minus (rust.minus w.end w.start) w.null_count)
