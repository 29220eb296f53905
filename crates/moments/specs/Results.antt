-- What a host gets back from a call (document 01, "Host call" and "Who can cause a refusal"): "the answer 0 or the refusal's
-- number", the state's members in the source's order, or a figure as one double and one byte. Assumes nothing.
use Rattle.std.specs.Prelude.{ℕ, ◌≡◌, List, Float}
use Rattle.moment.specs.Arrays.{Answer, answer_number, answer_members}
use Rattle.moment.specs.Figure.{double_of, byte_of}
use Rattle.moment.specs.declared.Figure.{Figure}

-- A call that hands out a state, for how its members are listed and its answer a: r is what it returns, and `before` and `after` are
-- what the lent state holds.
pub record StateResult {S : Type 0} (list : S → List Float) (a : Answer S) (before : List Float) (r : ℕ) (after : List Float) : Type 0 where
  pub number : r ≡ answer_number a
  pub state : after ≡ answer_members list a before

-- A call that hands out a figure: "one double and one byte (1 present, 0 missing)"
pub record FigureResult (figure : Figure) (r : ℕ) (after : Float) : Type 0 where
  pub present : r ≡ byte_of figure
  pub double : after ≡ double_of figure
