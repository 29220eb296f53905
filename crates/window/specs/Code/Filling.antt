-- A list that is filled row by row, as the loops over rows keep it, and the lists of a call's figures, each so. Assumes nothing.
use Rattle.std.specs.Prelude.{ℕ, ◌≤◌, ◌<◌, ◌≡◌, List, [], ◌∷◌, ◌++◌, length, drop, set, Float}
use Rattle.float.specs.Tables.{table}
use Rattle.trace.specs.Slices.{MutSlice, entering_mut, leaving}
use Rattle.moment.specs.Figure.{double_of, byte_of}
use Rattle.moment.specs.declared.Figure.{Figure}
use Rattle.window.specs.Outputs.{Column}

-- filled up to row k, over what it held
pub record Upto {A : Type 0} (f : ℕ → A) (l₀ l : List A) (k : ℕ) : Type 0 where
  pub long : length l ≡ length l₀
  pub is : l ≡ table f k ++ drop k l₀

-- rows from `first` up to `until` are written: where those before `first` are, over any list, those before `until` are
abbrev pub Fills : {A : Type 0} → (ℕ → A) → ℕ → ℕ → List A → List A → Type 0
Fills {A} f first until l₀ l₁ = (l : List A) → until ≤ length l → Upto f l l₀ first → Upto f l l₁ until

-- a row that two lists have, by their lengths
pub record RowThere (row figures present : ℕ) : Type 0 where
  pub in_figures : row < figures
  pub in_present : row < present

-- a row's answer in two lists that have the row
pub record RowSet (row : ℕ) (f : Figure) (figures₀ figures : List Float) (present₀ present : List ℕ) : Type 0 where
  pub figures_are : figures ≡ set figures₀ row (double_of f)
  pub present_are : present ≡ set present₀ row (byte_of f)

abbrev pub SetsRow : ℕ → Figure → MutSlice Float → MutSlice ℕ → Type 0
SetsRow row f figures present = RowSet row f (entering_mut figures) (leaving figures) (entering_mut present) (leaving present)

-- the same of a figure's two lists
pub record ColumnFills (f : ℕ → Figure) (first until : ℕ) (c₀ c : Column) : Type 0 where
  pub doubles_are : Fills (λ k. double_of (f k)) first until c₀.doubles c.doubles
  pub bytes_are : Fills (λ k. byte_of (f k)) first until c₀.bytes c.bytes

-- what holds of each figure's row function with its two lists, before and after
abbrev pub EachColumn : ((ℕ → Figure) → Column → Column → Type 0) → List (ℕ → Figure) → List Column → List Column → Type 0
EachColumn P [] [] [] = Unit {0}
EachColumn P (f ∷ fs) (c₀ ∷ cs₀) (c ∷ cs) = P f c₀ c × EachColumn P fs cs₀ cs
EachColumn P [] [] (c ∷ cs) = ⊥
EachColumn P [] (c₀ ∷ cs₀) cs = ⊥
EachColumn P (f ∷ fs) [] cs = ⊥
EachColumn P (f ∷ fs) (c₀ ∷ cs₀) [] = ⊥

-- rows from `first` up to `until` are written in the lists of every figure
abbrev pub ColumnsFill : List (ℕ → Figure) → ℕ → ℕ → List Column → List Column → Type 0
ColumnsFill fs first until cs₀ cs = EachColumn (λ f c₀ c. ColumnFills f first until c₀ c) fs cs₀ cs

-- row k's answers, by the row functions
abbrev pub row_of : List (ℕ → Figure) → ℕ → List Figure
row_of [] k = []
row_of (f ∷ fs) k = f k ∷ row_of fs k

-- row k's answers are written in the lists of every figure
abbrev pub RowsSet : ℕ → List Figure → List Column → List Column → Type 0
RowsSet k [] [] [] = Unit {0}
RowsSet k (x ∷ xs) (c ∷ cs) (c' ∷ cs') = RowSet k x c.doubles c'.doubles c.bytes c'.bytes × RowsSet k xs cs cs'
RowsSet k [] [] (c' ∷ cs') = ⊥
RowsSet k [] (c ∷ cs) cs' = ⊥
RowsSet k (x ∷ xs) [] cs' = ⊥
RowsSet k (x ∷ xs) (c ∷ cs) [] = ⊥

-- the lists of a figure are as long as they were
pub record SameLong (c₀ c : Column) : Type 0 where
  pub doubles : length c.doubles ≡ length c₀.doubles
  pub bytes : length c.bytes ≡ length c₀.bytes

-- of every figure
abbrev pub AllSameLong : List Column → List Column → Type 0
AllSameLong [] [] = Unit {0}
AllSameLong (c₀ ∷ cs₀) (c ∷ cs) = SameLong c₀ c × AllSameLong cs₀ cs
AllSameLong [] (c ∷ cs) = ⊥
AllSameLong (c₀ ∷ cs₀) [] = ⊥

-- the lists of every figure have row k
abbrev pub AllThere : ℕ → List Column → Type 0
AllThere k [] = Unit {0}
AllThere k (c ∷ cs) = RowThere k (length c.doubles) (length c.bytes) × AllThere k cs
