-- A table's length, its places, one more value of it or a part written over a list, and tables side by side. Assumes nothing.
use Prim.Native.Nat.{ℕ, zero, suc, ◌+◌, ◌-◌, ◌≤◌, ◌<◌}
use mathlib.Core.Path.{◌≡◌, refl, sym, ap, ◌∙◌}
use mathlib.Core.List.{List, [], ◌∷◌, ◌++◌, append_assoc, append-nil}
use native.Mathlib.Nat.{add-zero, add-suc}
use native.Mathlib.Numerals.{add-one}
use native.Mathlib.Omega.{arith}
use lib.ListN.{length, take, drop, set, get_or, length-append, drop_of_length-le}
use lib.Seq.{drop-cons, drop-drop, set_at, take_at, drop_at, get_or-append_seam, get_or-append-add, get_or-drop}
use Rattle.float.specs.Tables.{table}
use Rattle.float.proofs.Cases.{Or, here, there, order}

module _ {A : Type 0} (f : ℕ → A) where
  pub table-length : (n : ℕ) → length (table f n) ≡ n
  unfolding table
  table-length zero = refl
  table-length (suc n) = length-append (table f n) (f n ∷ []) ∙ rw (table-length n) (add-one n)

  pub table_at : (n k : ℕ) (l : List A) (d : A) → k < n → get_or (table f n ++ l) k d ≡ f k
  unfolding table
  table_at zero k l d h = absurd (omega arith)
  table_at (suc n) k l d h = go (order n k) (λ p. table_at n k (f n ∷ l) d p)
    where
      go : Or (n ≤ k) (k < n) → (k < n → get_or (table f n ++ (f n ∷ l)) k d ≡ f k) → get_or ((table f n ++ (f n ∷ [])) ++ l) k d ≡ f k
      go (here p) i =
          let e : k ≡ n = omega arith in
          rw (append_assoc, e) (ap (λ (i : ℕ). get_or (table f n ++ (f n ∷ l)) i d) (sym (table-length n)) ∙ get_or-append_seam (table f n) (f n) l d)
      go (there p) i = rw append_assoc (i p)

  pub table-place : (n k : ℕ) (d : A) → k < n → get_or (table f n) k d ≡ f k
  table-place n k d h = ap (λ (l : List A). get_or l k d) (sym (append-nil (table f n))) ∙ table_at n k [] d h

  -- what stands in a list behind a table that is written over its first places
  pub table-behind : (l : List A) (k : ℕ) (d : A) → get_or (table f k ++ drop k l) k d ≡ get_or l k d
  table-behind l k d =
      ap (λ (i : ℕ). get_or (table f k ++ drop k l) i d) (sym (table-length k) ∙ sym (add-zero (length (table f k))))
      ∙ get_or-append-add (table f k) (drop k l) 0 d ∙ get_or-drop k l 0 d ∙ ap (λ (i : ℕ). get_or l i d) (add-zero k)

  -- a table that covers the list
  pub table-over : (l : List A) (k : ℕ) → length l ≤ k → table f k ++ drop k l ≡ table f k
  table-over l k h = rw (drop_of_length-le l h, append-nil)

  pub table_more : (l : List A) (k : ℕ) (x : A) → x ≡ f k → k < length l → set (table f k ++ drop k l) k x ≡ table f (k + 1) ++ drop (k + 1) l
  unfolding table
  table_more l k x e h =
      rw (e, add-one, drop-cons l k (f k))
      (set_at (table f k) (get_or l k (f k)) (drop (suc k) l) (f k) k (table-length k) ∙ simp append_assoc)

-- two tables of the same values
pub table_same : {A : Type 0} (f g : ℕ → A) (n : ℕ) → ((i : ℕ) → i < n → f i ≡ g i) → table f n ≡ table g n
unfolding table
table_same f g zero h = refl
table_same f g (suc n) h = rw (table_same f g n (λ i k. h i (omega arith)), h n (omega arith))

-- a table and, behind it, the values that follow
table_join : {A : Type 0} (f g : ℕ → A) (n m : ℕ) → ((i : ℕ) → i < m → g i ≡ f (n + i)) → table f n ++ table g m ≡ table f (n + m)
unfolding table
table_join f g n zero h = rw (append-nil, add-zero)
table_join f g n (suc m) h =
    rw add-suc (sym (append_assoc (table f n) (table g m) (g m ∷ [])) ∙ rw (table_join f g n m (λ i k. h i (omega arith)), h m (omega arith)))

-- a table written over the first a places of a list, and then over those from a up to b with the values that follow
pub table_part : {A : Type 0} (f g : ℕ → A) (l₀ l₁ r : List A) (a b : ℕ) → a ≤ b → l₁ ≡ table f a ++ drop a l₀ → ((i : ℕ) → i < b - a → g i ≡ f (a + i)) →
    r ≡ table g (b - a) → take a l₁ ++ (r ++ drop (b - a) (drop a l₁)) ≡ table f b ++ drop b l₀
table_part {A} f g l₀ l₁ r a b h e v o =
    let T = table f a in
    let n : a + (b - a) ≡ b = omega arith in
    let x : take a l₁ ≡ T = ap (take a) e ∙ take_at T (drop a l₀) a (table-length f a) in
    let y : drop (b - a) (drop a l₁) ≡ drop b l₀ =
    ap (λ (k : List A). drop (b - a) (drop a k)) e ∙ ap (drop (b - a)) (drop_at T (drop a l₀) a (table-length f a)) ∙ drop-drop (b - a) a l₀ ∙ ap (λ (k : ℕ). drop k l₀) n in
    let t : T ++ table g (b - a) ≡ table f b = table_join f g a (b - a) v ∙ ap (table f) n in
    rw (x, y, o) (sym (append_assoc T (table g (b - a)) (drop b l₀)) ∙ ap (λ (k : List A). k ++ drop b l₀) t)
