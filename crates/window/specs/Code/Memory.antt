-- How values lie in a list of cells, one behind another: doubles of a work slice, or another number type. Assumes nothing.
use Rattle.std.specs.Prelude.{ℕ, ◌≡◌, refl, List, [], ◌∷◌, ◌++◌, length, get_or, Float}
use Rattle.std.specs.Float.{nan}
use Rattle.window.specs.Window.{Moment}

-- so many cells, written by `store` and read by `load`, whatever follows
pub record Layout (C A : Type 0) : Type 0 where
  pub width : ℕ
  pub store : A → List C
  pub load : List C → A
  pub stored : (x : A) → length (store x) ≡ width
  pub loaded : (x : A) (rest : List C) → load (store x ++ rest) ≡ x

-- values one behind another
unfoldable pub in_memory : {C A : Type 0} → Layout C A → List A → List C
in_memory L [] = []
in_memory L (x ∷ l) = L.store x ++ in_memory L l

-- a moment with how its entries lie on the back stack, and its states on the front stack
pub record Stored (C A : Type 0) : Type 1 where
  pub moment : Moment A
  pub in_back : Layout C A
  pub in_front : Layout C moment.State

-- one double of the back stack is one reading
abbrev pub reading : Layout Float Float
reading = record { width = 1; store = λ x. x ∷ []; load = λ l. get_or l 0 nan; stored = λ x. refl; loaded = λ x rest. refl }

-- two doubles are one pair
abbrev pub pair : Layout Float (Float × Float)
pair =
    record {
      width = 2;
      store = λ p. p.0 ∷ p.1 ∷ [];
      load = λ l. (get_or l 0 nan, get_or l 1 nan);
      stored = λ p. refl;
      loaded = λ p rest. refl;
    }

-- a moment with how its states lie on the front stack
pub record States (A : Type 0) : Type 1 where
  pub moment : Moment A
  pub in_front : Layout Float moment.State

-- of single readings
abbrev pub ReadingStates : Type 1
ReadingStates = States Float

abbrev pub of_readings : ReadingStates → Stored Float Float
of_readings m = record { moment = m.moment; in_back = reading; in_front = m.in_front }

-- of pairs of readings
abbrev pub PairStates : Type 1
PairStates = States (Float × Float)

abbrev pub of_pairs : PairStates → Stored Float (Float × Float)
of_pairs m = record { moment = m.moment; in_back = pair; in_front = m.in_front }
