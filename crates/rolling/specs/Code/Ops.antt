-- What the code that is generic over a window's states knows of them: how a moment's operations and the layouts of its entries and states
-- make its stacks. Assumes nothing.
use lib.Seq.{sets}
use Rattle.std.specs.Prelude.{◌≡◌, ℕ, ◌+◌, ◌*◌, ◌^◌, ◌<◌, ◌≤◌, List, length, Float}
use Rattle.window.specs.Places.{Places, Series}
use Rattle.window.specs.Window.{Moment}
use Rattle.window.specs.Code.Memory.{Layout, Stored}
use Rattle.window.specs.Code.Stacks.{top_of}
use Rattle.window.specs.declared.Window.{Window}

-- the operations of a moment, of the states and the entries that it has
pub record Ops (S A : Type 0) : Type 0 where
  pub empty : S
  pub insert : S → A → S
  pub combine : S → S → S

-- those that a moment has
abbrev pub ops_of : {A : Type 0} → (M : Moment A) → Ops M.State A
ops_of M = record { empty = M.empty; insert = M.insert; combine = M.combine }

-- the moment that they are
abbrev pub moment_by : {S A : Type 0} → Ops S A → Moment A
moment_by {S} ops = record { State = S; empty = ops.empty; insert = ops.insert; combine = ops.combine }

-- with how its entries and its states lie in the work slice
abbrev pub stored_by : {S A : Type 0} → Layout Float A → Layout Float S → Ops S A → Stored Float A
stored_by in_back in_front ops = record { moment = moment_by ops; in_back = in_back; in_front = in_front }

-- an entry may be inserted into a state that counts n
pub record CanInsert {S : Type 0} (counts : S → ℕ → Type 0) (s : S) (n : ℕ) : Type 0 where
  pub few : n < 2 ^ 53
  pub counted : counts s n

-- an entry may be pushed on a back stack of n with so many that are not finite
pub record CanPush {S : Type 0} (width : ℕ) (counts : S → ℕ → Type 0) (n nonfinite : ℕ) (s : S) (bad room : ℕ) : Type 0 where
  pub room_in : width * n + width ≤ room
  pub few : n < 2 ^ 53
  pub few_nonfinite : nonfinite < 2 ^ 53
  pub bit : bad ≤ 1
  pub counted : counts s n

-- what is there then
pub record Pushed {S A : Type 0} (L : Layout Float A) (ops : Ops S A) (n nonfinite : ℕ) (s : S) (back₀ : List Float) (x : A)
    (bad n' nonfinite' : ℕ) (s' : S) (back : List Float) : Type 0 where
  pub more : n' ≡ n + 1
  pub nonfinite_is : nonfinite' ≡ nonfinite + bad
  pub state_is : s' ≡ ops.insert s x
  pub back_is : back ≡ sets back₀ (L.width * n) (L.store x)

-- a state that counts n may take in another that counts m
pub record CanMerge {S : Type 0} (counts : S → ℕ → Type 0) (s : S) (n : ℕ) (other : S) (m : ℕ) : Type 0 where
  pub few : n + m ≤ 2 ^ 53
  pub counted : counts s n
  pub other_counted : counts other m

-- the counts of a window's two states, where the front state lies in the work slice
pub record CanTotal {S A : Type 0} (in_back : Layout Float A) (in_front : Layout Float S) (ops : Ops S A) (counts : S → ℕ → Type 0)
    (w : Window) (agg : S) (work : List Float) : Type 0 where
  pub front_in : in_front.width * w.front ≤ length work
  pub few : w.front + w.back ≤ 2 ^ 53
  pub counted : counts agg w.back
  pub front_counted : counts (top_of (stored_by in_back in_front ops) work w.front) w.front

-- the series of places with what is inserted at each
abbrev pub series_by : {A : Type 0} → Places → (ℕ → A) → Series A
series_by places entries = record { places = places; entry = entries }
