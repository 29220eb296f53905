-- Document 01, "A plan call" and "Who can cause a refusal": the lists that a call is lent, and what it leaves there. Assumes nothing.
use Rattle.std.specs.Prelude.{ℕ, min, ◌≡◌, cond, List, [], ◌∷◌, ◌++◌, eqb, length, get_or, drop, Float}
use Rattle.std.specs.Float.{nan}
use Rattle.float.specs.Tables.{table}
use Rattle.moment.specs.Figure.{double_of, byte_of}
use Rattle.moment.specs.declared.Figure.{Figure}

-- "Output is one double and one byte (1 present, 0 missing) a row": the two lists of a figure
pub record Column : Type 0 where
  pub doubles : List Float
  pub bytes : List ℕ

-- the output lists: those of each figure, and of each count that a call gives
pub record Outputs : Type 0 where
  pub answers : List Column
  pub counts : List (List ℕ)

-- the lists that are lent, before or after a call
pub record Lent : Type 0 where
  pub outputs : Outputs
  pub work : List Float

-- the records above, of their parts
abbrev pub column : List Float → List ℕ → Column
column doubles bytes = record { doubles = doubles; bytes = bytes }

abbrev pub outputs_of : List Column → List (List ℕ) → Outputs
outputs_of answers counts = record { answers = answers; counts = counts }

-- A list after a call that answers a number: "places past the last row keep their contents", and on a refusal "each lent buffer
-- then holds what it held before the call"
unfoldable pub filled : {A : Type 0} → ℕ → (ℕ → A) → ℕ → List A → List A
unfolding table
filled number f n l = cond (eqb number 0) (table f n ++ drop n l) l

-- The work slice after a call: "the part needed is free to hold anything, the rest is unchanged"
unfoldable pub kept : ℕ → ℕ → List Float → List Float → Type 0
kept number need l l' = cond (eqb number 0) (drop need l' ≡ drop need l) (l' ≡ l)

-- the two lists of a figure after a call of n rows, by its row function
abbrev pub column_after : ℕ → (ℕ → Figure) → ℕ → Column → Column
column_after number f n c = column (filled number (λ k. double_of (f k)) n c.doubles) (filled number (λ k. byte_of (f k)) n c.bytes)

-- the lists of the figures, one pair for each row function
abbrev pub answered : ℕ → ℕ → List (ℕ → Figure) → List Column → List Column
answered number n [] cs = cs
answered number n (f ∷ fs) [] = []
answered number n (f ∷ fs) (c ∷ cs) = column_after number f n c ∷ answered number n fs cs

-- the lists of the counts
abbrev pub numbered : ℕ → ℕ → List (ℕ → ℕ) → List (List ℕ) → List (List ℕ)
numbered number n [] ls = ls
numbered number n (f ∷ fs) [] = []
numbered number n (f ∷ fs) (l ∷ ls) = filled number f n l ∷ numbered number n fs ls

-- "12 an output list shorter than the rows": the shortest of a first length and others
abbrev pub shortest : ℕ → List ℕ → ℕ
shortest a [] = a
shortest a (b ∷ l) = shortest (min a b) l

abbrev pub answer_lengths : List Column → List ℕ
answer_lengths [] = []
answer_lengths (c ∷ cs) = length c.doubles ∷ length c.bytes ∷ answer_lengths cs

abbrev pub count_lengths : List (List ℕ) → List ℕ
count_lengths [] = []
count_lengths (l ∷ ls) = length l ∷ count_lengths ls

abbrev pub shortest_of : List ℕ → ℕ
shortest_of [] = 0
shortest_of (a ∷ l) = shortest a l

-- the length of the shortest output list
abbrev pub shortest_output : Outputs → ℕ
shortest_output l = shortest_of (answer_lengths l.answers ++ count_lengths l.counts)

-- "one double and one byte .. together the row's answer for that figure"
pub record Answer : Type 0 where
  pub double : Float
  pub byte : ℕ

-- a figure as an answer
abbrev pub of_figure : Figure → Answer
of_figure figure = record { double = double_of figure; byte = byte_of figure }

-- row k's answers in the lists, one for each figure
abbrev pub answers_in : List Column → ℕ → List Answer
answers_in [] k = []
answers_in (c ∷ cs) k = record { double = get_or c.doubles k nan; byte = get_or c.bytes k 0 } ∷ answers_in cs k

-- row k's counts in the lists
abbrev pub counts_in : List (List ℕ) → ℕ → List ℕ
counts_in [] k = []
counts_in (l ∷ ls) k = get_or l k 0 ∷ counts_in ls k

-- row k's answers by the row functions
abbrev pub answers_at : List (ℕ → Figure) → ℕ → List Answer
answers_at [] k = []
answers_at (f ∷ fs) k = of_figure (f k) ∷ answers_at fs k

-- row k's counts by the row functions
abbrev pub counts_at : List (ℕ → ℕ) → ℕ → List ℕ
counts_at [] k = []
counts_at (f ∷ fs) k = f k ∷ counts_at fs k
