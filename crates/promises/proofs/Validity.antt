-- 006's `create_validity`, whichever the offsets: the marks that it takes are those of rows that are too short, because both loops
-- test the row; and it takes the mark of every row that is too short with all before it, or with all after it, because a loop ends
-- at a row that is not. Assumes nothing.
use Prim.Native.Nat.{ℕ, zero, suc, ◌+◌, ◌≤◌, ◌<◌}
use mathlib.Core.Path.{◌≡◌, refl, sym, ap, ◌∙◌, subst}
use mathlib.Core.Bool.{Bool, true, false, cond}
use mathlib.Core.List.{List}
use mathlib.Core.Option
use mathlib.Core.Option.{none, some}
use native.Mathlib.Omega.{arith}
use lib.Dec.{ltb, eqb}
use lib.ListN.{length, get_or, set, replicate, length-set, length-replicate, get_or-replicate}
use lib.Seq.{get_or-set_same, get_or-set_other}
use borrow.Author.Tests.{lt-ltb, eqb-true, eqb-false}
use Rattle.float.proofs.Cases.{apart, Or, here, there, order}
use Rattle.promises.specs.Rust.{Rust}
use Rattle.promises.specs.SourceRows.{too_short, head_set, tail_set, create_validity}

module _ (rust : Rust) (min_periods : ℕ) (det_offsets : ℕ → ℕ × ℕ) where
  abbrev short : ℕ → Bool
  short i = too_short rust min_periods det_offsets i

  -- the marks, of which there is one a row
  abbrev pub created : ℕ → List Bool
  created n = Option.get_or (create_validity rust min_periods det_offsets n) (replicate n true)

  abbrev ends_set : ℕ → List Bool
  ends_set n = tail_set rust min_periods det_offsets n (head_set rust min_periods det_offsets n 0 (replicate n true))

  unset-long : (l : List Bool) (i : ℕ) → i < length l → length (rust.unset l i) ≡ length l
  unset-long l i o = ap length (rust.unset_is l i o) ∙ length-set l i false

  -- ---- no other marks are taken
  -- marks that are off, of the rows from i on, are of rows that are too short
  abbrev pub From : ℕ → List Bool → Type 0
  From i l = (j : ℕ) → i ≤ j → j < length l → get_or l j false ≡ false → short j ≡ true

  -- marks that `create_validity` may leave of l
  abbrev Marks : List Bool → List Bool → Type 0
  Marks l m = From 0 m × (length m ≡ length l)

  short-set : (l : List Bool) (i : ℕ) → short i ≡ true → From 0 l → From 0 (set l i false)
  short-set l i h f j o k e = go (eqb j i) refl
    where
      go : (u : Bool) → eqb j i ≡ u → short j ≡ true
      go true q = rw (eqb-true j i q) h
      go false q = f j o (rw length-set at k) (sym (get_or-set_other l i j false false (eqb-false j i q)) ∙ e)

  short-unset : (l : List Bool) (i : ℕ) → i < length l → short i ≡ true → From 0 l → From 0 (rust.unset l i)
  short-unset l i o h f = subst (From 0) (sym (rust.unset_is l i o)) (short-set l i h f)

  -- a row is marked and the loop goes on, or the loop ends
  either : (i : ℕ) (l m : List Bool) → i < length l → From 0 l → (short i ≡ true → Marks (rust.unset l i) m) → Marks l (cond (short i) m l)
  either i l m o f g = go (short i) refl
    where
      go : (u : Bool) → short i ≡ u → Marks l (cond u m l)
      go true q = ((g q).0, (g q).1 ∙ unset-long l i o)
      go false q = (f, refl)

  head-marks : (k i : ℕ) (l : List Bool) → i + k ≤ length l → From 0 l → Marks l (head_set rust min_periods det_offsets k i l)
  unfolding head_set
  head-marks zero i l o f = (f, refl)
  head-marks (suc k) i l o f =
      let n = unset-long l i (omega arith) in
      either i l _ (omega arith) f (λ h. head-marks k (suc i) (rust.unset l i) (omega arith) (short-unset l i (omega arith) h f))

  tail-marks : (k : ℕ) (l : List Bool) → k ≤ length l → From 0 l → Marks l (tail_set rust min_periods det_offsets k l)
  unfolding tail_set
  tail-marks zero l o f = (f, refl)
  tail-marks (suc k) l o f =
      let n = unset-long l k (omega arith) in
      either k l _ (omega arith) f (λ h. tail-marks k (rust.unset l k) (omega arith) (short-unset l k (omega arith) h f))

  all-marks : (n : ℕ) → From 0 (replicate n true)
  all-marks n j o h e = apart (sym e ∙ get_or-replicate n j true false (rw length-replicate at h))

  pub created-marks : (n : ℕ) → From 0 (created n) × (length (created n) ≡ n)
  unfolding create_validity
  created-marks n = go (ltb 1 min_periods)
    where
      go : (u : Bool) → From 0 (Option.get_or (cond u (some (ends_set n)) none) (replicate n true)) × (length (Option.get_or (cond u (some (ends_set n)) none) (replicate n true)) ≡ n)
      go true =
          let r = length-replicate n true in
          let h = head-marks n 0 (replicate n true) (omega arith) (all-marks n) in
          let g = h.1 in
          let e = tail-marks n (head_set rust min_periods det_offsets n 0 (replicate n true)) (omega arith) h.0 in
          (e.0, e.1 ∙ g ∙ r)
      go false = (all-marks n, length-replicate n true)

  -- ---- a mark that is taken
  abbrev Off : ℕ → List Bool → Type 0
  Off j l = get_or l j false ≡ false

  unset-same : (l : List Bool) (j : ℕ) → j < length l → Off j (rust.unset l j)
  unset-same l j o = ap (λ (m : List Bool). get_or m j false) (rust.unset_is l j o) ∙ get_or-set_same l j false false o

  -- what is off stays off
  unset-off : (l : List Bool) (i j : ℕ) → i < length l → Off j l → Off j (rust.unset l i)
  unset-off l i j o h = go (eqb j i) refl
    where
      go : (u : Bool) → eqb j i ≡ u → Off j (rust.unset l i)
      go true q = let e = eqb-true j i q in rw e (unset-same l i o)
      go false q = ap (λ (m : List Bool). get_or m j false) (rust.unset_is l i o) ∙ get_or-set_other l i j false false (eqb-false j i q) ∙ h

  -- either way the loop goes
  off-either : (i j : ℕ) (l m : List Bool) → Off j m → Off j l → Off j (cond (short i) m l)
  off-either i j l m h g = go (short i)
    where
      go : (u : Bool) → Off j (cond u m l)
      go true = h
      go false = g

  head-keeps : (k i j : ℕ) (l : List Bool) → i + k ≤ length l → Off j l → Off j (head_set rust min_periods det_offsets k i l)
  unfolding head_set
  head-keeps zero i j l o h = h
  head-keeps (suc k) i j l o h =
      let n = unset-long l i (omega arith) in
      off-either i j l _ (head-keeps k (suc i) j (rust.unset l i) (omega arith) (unset-off l i j (omega arith) h)) h

  tail-keeps : (k j : ℕ) (l : List Bool) → k ≤ length l → Off j l → Off j (tail_set rust min_periods det_offsets k l)
  unfolding tail_set
  tail-keeps zero j l o h = h
  tail-keeps (suc k) j l o h =
      let n = unset-long l k (omega arith) in
      off-either k j l _ (tail-keeps k j (rust.unset l k) (omega arith) (unset-off l k j (omega arith) h)) h

  -- the head loop reaches a row that is too short with all before it
  head-off : (k i j : ℕ) (l : List Bool) → i + k ≤ length l → i ≤ j → j < i + k → ((m : ℕ) → m ≤ j → short m ≡ true)
      → Off j (head_set rust min_periods det_offsets k i l)
  unfolding head_set
  head-off zero i j l o p q f = absurd (omega arith)
  head-off (suc k) i j l o p q f =
      let n = unset-long l i (omega arith) in
      rw (f i p)
      (go (order j i) (λ r. head-keeps k (suc i) j (rust.unset l i) (omega arith) r) (λ r. head-off k (suc i) j (rust.unset l i) (omega arith) (omega arith) (omega arith) f))
    where
      go : Or (j ≤ i) (i < j) → (Off j (rust.unset l i) → Off j (head_set rust min_periods det_offsets k (suc i) (rust.unset l i)))
          → (i < j → Off j (head_set rust min_periods det_offsets k (suc i) (rust.unset l i)))
          → Off j (head_set rust min_periods det_offsets k (suc i) (rust.unset l i))
      go (here r) a b = let e : j ≡ i = omega arith in a (rw e (unset-same l i (omega arith)))
      go (there r) a b = b r

  -- the tail loop reaches a row that is too short with all after it
  tail-off : (k j : ℕ) (l : List Bool) → k ≤ length l → j < k → ((m : ℕ) → j ≤ m → m < k → short m ≡ true)
      → Off j (tail_set rust min_periods det_offsets k l)
  unfolding tail_set
  tail-off zero j l o p f = absurd (omega arith)
  tail-off (suc k) j l o p f =
      let n = unset-long l k (omega arith) in
      rw (f k (omega arith) (omega arith))
      (go (order k j) (λ r. tail-keeps k j (rust.unset l k) (omega arith) r) (λ r. tail-off k j (rust.unset l k) (omega arith) r (λ m a b. f m a (omega arith))))
    where
      go : Or (k ≤ j) (j < k) → (Off j (rust.unset l k) → Off j (tail_set rust min_periods det_offsets k (rust.unset l k)))
          → (j < k → Off j (tail_set rust min_periods det_offsets k (rust.unset l k)))
          → Off j (tail_set rust min_periods det_offsets k (rust.unset l k))
      go (here r) a b = let e : j ≡ k = omega arith in a (rw e (unset-same l k (omega arith)))
      go (there r) a b = b r

  pub created-off : (n j : ℕ) → 1 < min_periods → j < n
      → Or ((m : ℕ) → m ≤ j → short m ≡ true) ((m : ℕ) → j ≤ m → m < n → short m ≡ true) → get_or (created n) j false ≡ false
  unfolding create_validity
  created-off n j many h f = rw (lt-ltb 1 min_periods many) (go f)
    where
      go : Or ((m : ℕ) → m ≤ j → short m ≡ true) ((m : ℕ) → j ≤ m → m < n → short m ≡ true) → Off j (ends_set n)
      go (here f) =
          let r = length-replicate n true in
          let g = (head-marks n 0 (replicate n true) (omega arith) (all-marks n)).1 in
          tail-keeps n j _ (omega arith) (head-off n 0 j (replicate n true) (omega arith) (omega arith) (omega arith) f)
      go (there f) =
          let r = length-replicate n true in
          let g = (head-marks n 0 (replicate n true) (omega arith) (all-marks n)).1 in
          tail-off n j _ (omega arith) h f
