-- Lists that are filled row by row, and lists of them: what a call leaves, and a row's answers in it. Assumes nothing.
use Prim.Native.Nat.{ℕ, ◌+◌, ◌-◌, ◌≤◌, ◌<◌, min}
use mathlib.Core.Path.{◌≡◌, refl, ap, ◌∙◌, subst}
use mathlib.Core.List.{List, [], ◌∷◌, ◌++◌}
use native.Mathlib.Omega.{arith}
use borrow.Author.Tests.{ne_eqb}
use lib.ListN.{length, take, drop, set, length-set, length-append, length-drop}
use lib.Ieee.{Float, nan}
use Rattle.float.specs.Tables.{table}
use Rattle.float.proofs.Tables.{table-length, table_more, table_at, table_part}
use Rattle.moment.specs.Figure.{double_of, byte_of}
use Rattle.moment.specs.declared.Figure.{Figure}
use Rattle.window.specs.Outputs.{Column, column, filled, kept, answered, numbered, answers_in, counts_in, answers_at, counts_at}
use Rattle.window.specs.Outputs.{shortest, shortest_of, answer_lengths}
use Rattle.window.specs.Code.Filling.{Upto, Fills, ColumnsFill, row_of, RowsSet, AllSameLong, AllThere}

-- ---- one list
module _ {A : Type 0} (f : ℕ → A) where
  pub upto-start : (l : List A) → Upto f l l 0
  unfolding table
  upto-start l = record { long = refl; is = refl }

  pub upto_next : (l₀ l l' : List A) (k : ℕ) (x : A) → Upto f l₀ l k → k < length l₀ → x ≡ f k → l' ≡ set l k x → Upto f l₀ l' (k + 1)
  upto_next l₀ l l' k x u h e s =
      record {
        long = ap length s ∙ length-set l k x ∙ u.long;
        is = s ∙ ap (λ (m : List A). set m k x) u.is ∙ table_more f l₀ k x e h;
      }

  pub upto_done : (l₀ l : List A) (k n : ℕ) → k ≡ n → Upto f l₀ l k → l ≡ filled 0 f n l₀
  unfolding filled
  upto_done l₀ l k n e u = u.is ∙ rw e

  pub fills-none : (k : ℕ) (l : List A) → Fills f k k l l
  fills-none k l = λ m h u. u

  pub fills-next : (first k : ℕ) (l₀ l l' : List A) (x : A) → Fills f first k l₀ l → x ≡ f k → l' ≡ set l k x → Fills f first (k + 1) l₀ l'
  fills-next first k l₀ l l' x v e s = λ m h u. upto_next m l l' k x (v m (omega arith) u) (omega arith) e s

  pub fills-both : (a b c : ℕ) (l₀ l₁ l₂ : List A) → b ≤ c → Fills f a b l₀ l₁ → Fills f b c l₁ l₂ → Fills f a c l₀ l₂
  fills-both a b c l₀ l₁ l₂ h v w = λ m k u. w m k (v m (omega arith) u)

  -- a part of the list written at once
  pub fills-part : (g : ℕ → A) (a b c : ℕ) (l₀ l₁ l₂ r : List A) → b ≤ c → Fills f a b l₀ l₁ → ((i : ℕ) → i < c - b → g i ≡ f (b + i)) →
      r ≡ table g (c - b) → l₂ ≡ take b l₁ ++ (r ++ drop (c - b) (drop b l₁)) → Fills f a c l₀ l₂
  fills-part g a b c l₀ l₁ l₂ r h v e o p = λ m k u.
      let d : l₂ ≡ table f c ++ drop c m = p ∙ table_part f g m l₁ r b c h (v m (omega arith) u).is e o in
      let t = table-length f c in
      record { long = ap length d ∙ length-append (table f c) (drop c m) ∙ rw length-drop (omega arith); is = d }

  -- all n rows, from the first on
  pub fills-all : (n : ℕ) (l₀ l : List A) → n ≤ length l₀ → Fills f 0 n l₀ l → l ≡ filled 0 f n l₀
  fills-all n l₀ l h v = upto_done l₀ l n n refl (v l₀ h (upto-start l₀))

  pub unfilled : (number n : ℕ) (l : List A) → (number ≡ 0 → ⊥) → l ≡ filled number f n l
  unfolding filled
  unfilled number n l h = rw (ne_eqb number 0 h)

-- ---- lists of lists
pub column-is : {d d' : List Float} {b b' : List ℕ} → d ≡ d' → b ≡ b' → column d b ≡ column d' b'
column-is e f = λ j. record { doubles = e j; bytes = f j }

infixr 5 ◌then◌
pub ◌then◌ : {A : Type 0} {x y : A} {l m : List A} → x ≡ y → l ≡ m → (x ∷ l) ≡ (y ∷ m)
e then f = λ j. e j ∷ f j

-- a refusal leaves every list as it was
pub answered_refused : (number n : ℕ) (fs : List (ℕ → Figure)) (cs : List Column) → (number ≡ 0 → ⊥) → cs ≡ answered number n fs cs
answered_refused number n [] cs h = refl
answered_refused number n (f ∷ fs) [] h = refl
answered_refused number n (f ∷ fs) (c ∷ cs) h =
    column-is (unfilled (λ k. double_of (f k)) number n c.doubles h) (unfilled (λ k. byte_of (f k)) number n c.bytes h)
    then answered_refused number n fs cs h

pub numbered_refused : (number n : ℕ) (fs : List (ℕ → ℕ)) (ls : List (List ℕ)) → (number ≡ 0 → ⊥) → ls ≡ numbered number n fs ls
numbered_refused number n [] ls h = refl
numbered_refused number n (f ∷ fs) [] h = refl
numbered_refused number n (f ∷ fs) (l ∷ ls) h = unfilled f number n l h then numbered_refused number n fs ls h

pub work_refused : (number need : ℕ) (l : List Float) → (number ≡ 0 → ⊥) → kept number need l l
unfolding kept
work_refused number need l h = rw (ne_eqb number 0 h)

-- what stands at a row of an accepted call
pub answered_at : (n k : ℕ) (fs : List (ℕ → Figure)) (cs : List Column) → k < n → length cs ≡ length fs →
    answers_in (answered 0 n fs cs) k ≡ answers_at fs k
unfolding filled
answered_at n k [] [] h e = refl
answered_at n k [] (c ∷ cs) h e = absurd (omega arith)
answered_at n k (f ∷ fs) [] h e = absurd (omega arith)
answered_at n k (f ∷ fs) (c ∷ cs) h e =
    rw (
      table_at (λ j. double_of (f j)) n k (drop n c.doubles) nan h,
      table_at (λ j. byte_of (f j)) n k (drop n c.bytes) 0 h,
      answered_at n k fs cs h (omega arith),
    )

pub numbered_at : (n k : ℕ) (fs : List (ℕ → ℕ)) (ls : List (List ℕ)) → k < n → length ls ≡ length fs → counts_in (numbered 0 n fs ls) k ≡ counts_at fs k
unfolding filled
numbered_at n k [] [] h e = refl
numbered_at n k [] (c ∷ cs) h e = absurd (omega arith)
numbered_at n k (f ∷ fs) [] h e = absurd (omega arith)
numbered_at n k (f ∷ fs) (l ∷ ls) h e = rw (table_at f n k (drop n l) 0 h, numbered_at n k fs ls h (omega arith))

-- ---- the lists of several figures, filled row by row
pub columns_none : (fs : List (ℕ → Figure)) (k : ℕ) (cs : List Column) → length cs ≡ length fs → ColumnsFill fs k k cs cs
columns_none [] k [] e = tt
columns_none [] k (c ∷ cs) e = absurd (omega arith)
columns_none (f ∷ fs) k [] e = absurd (omega arith)
columns_none (f ∷ fs) k (c ∷ cs) e = (
  record { doubles_are = fills-none (λ j. double_of (f j)) k c.doubles; bytes_are = fills-none (λ j. byte_of (f j)) k c.bytes },
  columns_none fs k cs (omega arith),
)

pub columns_next : (fs : List (ℕ → Figure)) (first k : ℕ) (xs : List Figure) (cs₀ cs cs' : List Column) → ColumnsFill fs first k cs₀ cs
    → xs ≡ row_of fs k → RowsSet k xs cs cs' → ColumnsFill fs first (k + 1) cs₀ cs'
columns_next fs first k xs cs₀ cs cs' v e o = go fs cs₀ cs cs' v (subst (λ (ys : List Figure). RowsSet k ys cs cs') e o)
  where
    go : (fs : List (ℕ → Figure)) (cs₀ cs cs' : List Column) → ColumnsFill fs first k cs₀ cs → RowsSet k (row_of fs k) cs cs'
        → ColumnsFill fs first (k + 1) cs₀ cs'
    go [] [] [] [] v o = tt
    go (f ∷ fs) (c₀ ∷ cs₀) (c ∷ cs) (c' ∷ cs') v o = (
      record {
        doubles_are = fills-next (λ j. double_of (f j)) first k c₀.doubles c.doubles c'.doubles (double_of (f k))
            v.0.doubles_are refl
            o.0.figures_are;
        bytes_are = fills-next (λ j. byte_of (f j)) first k c₀.bytes c.bytes c'.bytes (byte_of (f k)) v.0.bytes_are refl
            o.0.present_are;
      },
      go fs cs₀ cs cs' v.1 o.1,
    )
    go [] [] [] (c' ∷ cs') v o = absurd o
    go [] [] (c ∷ cs) cs' v o = absurd v
    go [] (c₀ ∷ cs₀) cs cs' v o = absurd v
    go (f ∷ fs) [] cs cs' v o = absurd v
    go (f ∷ fs) (c₀ ∷ cs₀) [] cs' v o = absurd v
    go (f ∷ fs) (c₀ ∷ cs₀) (c ∷ cs) [] v o = absurd o

-- they stay as long as they were
pub long_same : (cs : List Column) → AllSameLong cs cs
long_same [] = tt
long_same (c ∷ cs) = (record { doubles = refl; bytes = refl }, long_same cs)

pub long_next : (k : ℕ) (xs : List Figure) (cs₀ cs cs' : List Column) → AllSameLong cs₀ cs → RowsSet k xs cs cs' → AllSameLong cs₀ cs'
long_next k [] [] [] [] v o = tt
long_next k (x ∷ xs) (c₀ ∷ cs₀) (c ∷ cs) (c' ∷ cs') v o = (
  record {
    doubles = ap length o.0.figures_are ∙ length-set c.doubles k (double_of x) ∙ v.0.doubles;
    bytes = ap length o.0.present_are ∙ length-set c.bytes k (byte_of x) ∙ v.0.bytes;
  },
  long_next k xs cs₀ cs cs' v.1 o.1,
)
long_next k [] [] [] (c' ∷ cs') v o = absurd o
long_next k [] [] (c ∷ cs) cs' v o = absurd v
long_next k [] (c₀ ∷ cs₀) [] cs' v o = absurd v
long_next k [] (c₀ ∷ cs₀) (c ∷ cs) cs' v o = absurd o
long_next k (x ∷ xs) [] [] cs' v o = absurd o
long_next k (x ∷ xs) [] (c ∷ cs) cs' v o = absurd v
long_next k (x ∷ xs) (c₀ ∷ cs₀) [] cs' v o = absurd v
long_next k (x ∷ xs) (c₀ ∷ cs₀) (c ∷ cs) [] v o = absurd o

-- no list is shorter than the shortest
shortest_first : (a : ℕ) (l : List ℕ) → shortest a l ≤ a
shortest_first a [] = omega arith
shortest_first a (b ∷ l) = let h = shortest_first (min a b) l in omega arith

shortest_rest : (a b : ℕ) (l : List ℕ) → a ≤ b → shortest a l ≤ shortest b l
shortest_rest a b [] h = h
shortest_rest a b (c ∷ l) h = shortest_rest (min a c) (min b c) l (omega arith)

all_there : (k a : ℕ) (cs₀ cs : List Column) → AllSameLong cs₀ cs → k < shortest a (answer_lengths cs₀) → AllThere k cs
all_there k a [] [] v h = tt
all_there k a [] (c ∷ cs) v h = absurd v
all_there k a (c₀ ∷ cs₀) [] v h = absurd v
all_there k a (c₀ ∷ cs₀) (c ∷ cs) v h =
    let d = v.0.doubles in
    let b = v.0.bytes in
    let o = shortest_first (min (min a (length c₀.doubles)) (length c₀.bytes)) (answer_lengths cs₀) in
    (record { in_figures = omega arith; in_present = omega arith }, all_there k (min (min a (length c₀.doubles)) (length c₀.bytes)) cs₀ cs v.1 h)

pub columns_there : (k : ℕ) (cs₀ cs : List Column) → AllSameLong cs₀ cs → k < shortest_of (answer_lengths cs₀) → AllThere k cs
columns_there k [] [] v h = tt
columns_there k [] (c ∷ cs) v h = absurd v
columns_there k (c₀ ∷ cs₀) [] v h = absurd v
columns_there k (c₀ ∷ cs₀) (c ∷ cs) v h =
    let a = length c₀.doubles in
    let o : shortest a (length c₀.bytes ∷ answer_lengths cs₀) ≤ shortest a (a ∷ length c₀.bytes ∷ answer_lengths cs₀) =
    shortest_rest (min a (length c₀.bytes)) (min (min a a) (length c₀.bytes)) (answer_lengths cs₀) (omega arith) in
    all_there k a (c₀ ∷ cs₀) (c ∷ cs) v (omega arith)

-- all n rows, from the first on
all_filled : (fs : List (ℕ → Figure)) (n a : ℕ) (cs₀ cs : List Column) → n ≤ shortest a (answer_lengths cs₀) → ColumnsFill fs 0 n cs₀ cs
    → cs ≡ answered 0 n fs cs₀
all_filled [] n a [] [] h v = refl
all_filled (f ∷ fs) n a (c₀ ∷ cs₀) (c ∷ cs) h v =
    let o = shortest_first (min (min a (length c₀.doubles)) (length c₀.bytes)) (answer_lengths cs₀) in
    column-is (fills-all (λ k. double_of (f k)) n c₀.doubles c.doubles (omega arith) v.0.doubles_are)
    (fills-all (λ k. byte_of (f k)) n c₀.bytes c.bytes (omega arith) v.0.bytes_are)
    then all_filled fs n _ cs₀ cs h v.1
all_filled [] n a [] (c ∷ cs) h v = absurd v
all_filled [] n a (c₀ ∷ cs₀) cs h v = absurd v
all_filled (f ∷ fs) n a [] cs h v = absurd v
all_filled (f ∷ fs) n a (c₀ ∷ cs₀) [] h v = absurd v

pub columns_all : (fs : List (ℕ → Figure)) (n : ℕ) (cs₀ cs : List Column) → n ≤ shortest_of (answer_lengths cs₀) → ColumnsFill fs 0 n cs₀ cs
    → cs ≡ answered 0 n fs cs₀
columns_all [] n [] cs h v = all_filled [] n 0 [] cs h v
columns_all (f ∷ fs) n [] cs h v = absurd v
columns_all fs n (c₀ ∷ cs₀) cs h v =
    let a = length c₀.doubles in
    let o : shortest a (length c₀.bytes ∷ answer_lengths cs₀) ≤ shortest a (a ∷ length c₀.bytes ∷ answer_lengths cs₀) =
    shortest_rest (min a (length c₀.bytes)) (min (min a a) (length c₀.bytes)) (answer_lengths cs₀) (omega arith) in
    all_filled fs n a (c₀ ∷ cs₀) cs (omega arith) v
