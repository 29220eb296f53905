-- The rows that the source's drivers yield are the split account's: before each row the window stands at the account that the rows
-- before it leave, row 0's second `update` moves nothing, and `create_validity` takes the mark of too short rows only. Assumes
-- nothing.
use Prim.Native.Nat.{ℕ, zero, suc, ◌+◌, ◌-◌, ◌≤◌, ◌<◌}
use mathlib.Core.Path.{◌≡◌, refl, sym, ap, ◌∙◌, subst}
use mathlib.Core.Bool.{Bool, true, false, cond, not, ◌||◌}
use mathlib.Core.List.{List, [], ◌∷◌}
use native.Mathlib.Nat.{add-zero, zero-add}
use native.Mathlib.Omega.{arith}
use lib.Dec.{leb, ltb, eqb}
use lib.ListN.{length, get_or, length-set}
use lib.Seq.{get_or-set_same, get_or-set_other}
use lib.Ieee.{Float, nan}
use borrow.Author.Tests.{le-leb, lt-leb, lt-ltb, leb-true, ltb-true, ltb-false, ne_eqb}
use Rattle.float.specs.Tables.{table}
use Rattle.float.proofs.Cases.{Or, here, there, order}
use Rattle.float.proofs.Tables.{table-place}
use Rattle.trace.specs.Trace.{Trace, bytes_for, valid_at}
use Rattle.moment.specs.declared.Figure.{Figure}
use Rattle.moment.specs.declared.Figure.TheVariants.{Missing, Present}
use Rattle.plan.specs.Plan.{Plan, rows, row_start, row_end}
use Rattle.plan.specs.Code.Accepted.{Planned}
use Rattle.window.specs.Places.{Series, entries_from, chosen_count, valid_count, nonfinite_count}
use Rattle.window.specs.Window.{Account, fresh, split_after, front, back, moved, Moment, rising, falling, or_nan, figure_of}
use Rattle.window.specs.Readings.{series, nonfinite_at}
use Rattle.window.specs.Rows.{moves, account_at, counted, answer_of, answer_at}
use Rattle.promises.specs.Rust.{Rust, Bitmap, bitmap_of}
use Rattle.promises.specs.SourceWindow.{combined, map_nan, MomentWindow, new_impl, get_moment, update_no_nulls, update_nulls, is_valid}
use Rattle.promises.specs.SourceRows.{out_no_nulls, rolling_no_nulls, Array, row_of, matched, out_nulls, rolling_nulls, offsets, plan_row}
use Rattle.promises.proofs.Spans.{span, span_table}
use Rattle.promises.proofs.SourceArrays.{bits_fit}
use Rattle.promises.proofs.Accounts.{lies, meets}
use Rattle.promises.proofs.Validity.{From, created, created-marks}
use Rattle.promises.proofs.SourceWindow.{tops, update_on, Whole, new-whole, moved-whole, no-nulls-same, nulls-same}

-- combining with the empty state changes nothing
abbrev pub Neutral : Moment Float → Type 0
Neutral M = (s : M.State) → M.combine s M.empty ≡ s

-- valid and missing places together
both : {A : Type 0} (v : ℕ → Bool) (r : ℕ → A) (k i : ℕ) → length (entries_from v r k i) + length (entries_from (λ j. not (v j)) r k i) ≡ k
unfolding entries_from
both v r zero i = refl
both v r (suc k) i = go (v i) (both v r k (suc i))
  where
    go : (t : Bool) → length (entries_from v r k (suc i)) + length (entries_from (λ j. not (v j)) r k (suc i)) ≡ k
        → length (cond t (r i ∷ entries_from v r k (suc i)) (entries_from v r k (suc i)))
        + length (cond (not t) (r i ∷ entries_from (λ j. not (v j)) r k (suc i)) (entries_from (λ j. not (v j)) r k (suc i)))
        ≡ suc k
    go true h = omega arith
    go false h = omega arith

or_nan_is : (n : ℕ) (f : Figure) → cond (ltb 0 n) (map_nan f) f ≡ or_nan n f
unfolding or_nan
or_nan_is zero f = refl
or_nan_is (suc n) (Present x) = rw (lt-ltb 0 (suc n) (omega arith), ne_eqb (suc n) 0 (λ z. omega arith))
or_nan_is (suc n) Missing = rw (lt-ltb 0 (suc n) (omega arith), ne_eqb (suc n) 0 (λ z. omega arith))

-- ---- what a window yields
module _ (M : Moment Float) (rust : Rust) (neutral : Neutral M) (final : M.State → Figure) (has : Bool) (map : List ℕ) (xs : List Float) where
  abbrev t : Series Float
  t = series has map xs

  abbrev Stands : Account → MomentWindow M → Type 0
  Stands a w = Whole M rust (valid_at has map) xs a w

  combined-is : (agg : M.State) (l : List Float) → combined M.combine agg (tops M l) ≡ M.combine agg (falling M l)
  unfolding tops
  combined-is agg [] = sym (neutral agg)
  combined-is agg (x ∷ l) = refl

  moment-is : (a : Account) (w : MomentWindow M) → Stands a w → get_moment final w ≡ figure_of M final t a
  unfolding get_moment figure_of nonfinite_at
  moment-is a w whole =
      let h = whole.at in
      rw (h.front_is, h.agg_is, h.nonfinite_is)
      (ap (λ (s : M.State). cond (ltb 0 (nonfinite_count t.places a.start a.end)) (map_nan (final s)) (final s)) (combined-is (rising M M.empty (back t a)) (front t a))
      ∙ or_nan_is (nonfinite_count t.places a.start a.end) (final (M.combine (rising M M.empty (back t a)) (falling M (front t a)))))

  valid-is : (a : Account) (w : MomentWindow M) (min_periods : ℕ) → Stands a w → is_valid rust w min_periods ≡ leb min_periods (valid_count t.places a.start a.end)
  valid-is a w min_periods whole =
      let h = whole.at in
      let nulls = chosen_count (λ j. not (valid_at has map j)) a.start a.end in
      let c = both (valid_at has map) (λ j. j) (a.end - a.start) a.start in
      let n : (a.end - a.start) - nulls ≡ valid_count t.places a.start a.end = omega arith in
      let x : rust.minus a.end a.start ≡ a.end - a.start = rust.minus_is a.end a.start whole.start_le in
      let y = rust.minus_is (a.end - a.start) nulls (omega arith) in
      rw (h.start_is, h.end_is, h.nulls-is, x) (ap (leb min_periods) (y ∙ n))

  -- ---- the rows of a plan
  module _ (min_periods widest : ℕ) (p : Plan) (plan : Planned (length xs) widest p) (few : length xs ≤ 16777216) where
    abbrev S : ℕ → ℕ
    S k = row_start p k

    abbrev E : ℕ → ℕ
    E k = row_end p k

    abbrev A : ℕ → Account
    A k = account_at (valid_at has map) has min_periods p k

    abbrev answer : ℕ → Figure
    answer k = answer_at M final t min_periods p k

    abbrev update : MomentWindow M → ℕ → MomentWindow M
    update w k = update_on M rust (valid_at has map) xs w (S k) (E k)

    -- before row k the window stands at the account acc: that after the rows before it, but before row 0 that after row 0
    record Before (k : ℕ) (w : MomentWindow M) : Type 0 where
      acc : Account
      whole : Stands acc w
      starts : acc.start ≤ S k
      ends : acc.end ≤ E k
      next : moves has min_periods k (S k) (E k) ≡ true → moved (valid_at has map) acc (S k) (E k) ≡ A (suc k)
      stay : moves has min_periods k (S k) (E k) ≡ false → acc ≡ A (suc k)
      first : k ≡ 0 → acc ≡ A (suc k)

    before-suc : (k : ℕ) (w : MomentWindow M) → suc k < rows p → Stands (A (suc k)) w → Before (suc k) w
    unfolding account_at
    before-suc k w h whole =
        let l = lies (valid_at has map) has min_periods (length xs) widest p plan (suc k) (omega arith) in
        let x = l.ahead (suc k) (omega arith) h in
        record {
          acc = A (suc k);
          whole = whole;
          starts = x.0;
          ends = x.1;
          next = λ e. rw e;
          stay = λ e. rw e;
          first = λ e. absurd (omega arith);
        }

    moves-zero : (m : Bool) (s e : ℕ) → moves m min_periods 0 s e ≡ true
    moves-zero true s e = refl
    moves-zero false s e = refl

    -- row 0's move from the fresh account, and once more
    one-move : (s e : ℕ) → moved (valid_at has map) fresh s e ≡ record { start = s; end = e; split = s }
    unfolding split_after
    one-move s e =
        let z : s - s ≡ 0 = omega arith in
        rw (le-leb 0 s (omega arith), z)

    two-moves : (s e : ℕ) → s ≤ e → moved (valid_at has map) (record { start = s; end = e; split = s }) s e ≡ record { start = s; end = e; split = s }
    unfolding split_after
    two-moves s e h = go (order e s)
      where
        z : s - s ≡ 0
        z = omega arith

        go : Or (e ≤ s) (s < e) → moved (valid_at has map) (record { start = s; end = e; split = s }) s e ≡ record { start = s; end = e; split = s }
        go (here l) = rw (le-leb e s l, z)
        go (there l) = rw (lt-leb e s l, z)

    row_zero : A 1 ≡ record { start = S 0; end = E 0; split = S 0 }
    unfolding account_at
    row_zero = rw (moves-zero has (S 0) (E 0)) (one-move (S 0) (E 0))

    before-zero : 0 < rows p → Before 0 (update new_impl 0)
    before-zero h =
        let r = plan.row 0 h in
        let o = row_zero in
        let w = moved-whole M rust (valid_at has map) xs fresh new_impl (new-whole M rust (valid_at has map) xs) (S 0) (E 0) (omega arith) (omega arith) r.0 (omega arith) in
        record {
          acc = record { start = S 0; end = E 0; split = S 0 };
          whole = rw (one-move (S 0) (E 0)) at w;
          starts = omega arith;
          ends = omega arith;
          next = λ e. two-moves (S 0) (E 0) r.0 ∙ sym o;
          stay = λ e. sym o;
          first = λ e. sym o;
        }

    -- a row that moves the window
    after : (k : ℕ) (w : MomentWindow M) → k < rows p → Before k w → moves has min_periods k (S k) (E k) ≡ true → Stands (A (suc k)) (update w k)
    after k w h c e =
        let r = plan.row k h in
        rw (c.next e) at (moved-whole M rust (valid_at has map) xs c.acc w c.whole (S k) (E k) c.starts c.ends r.0 (omega arith))

    answer-no : (k : ℕ) → leb min_periods (counted t.places (S k) (E k)) ≡ false → answer k ≡ Missing
    unfolding answer_at answer_of
    answer-no k e = rw e

    answer-yes : (k : ℕ) → leb min_periods (counted t.places (S k) (E k)) ≡ true → answer k ≡ figure_of M final t (A (suc k))
    unfolding answer_at answer_of
    answer-yes k e = rw e

    -- ---- without a map
    module _ (no : has ≡ false) where
      every : (i : ℕ) → valid_at has map i ≡ true
      unfolding valid_at
      every i = rw no

      counted-no : (s e : ℕ) → counted t.places s e ≡ e - s
      counted-no s e = ap (λ (m : Bool). cond m (valid_count t.places s e) (e - s)) no

      stays : (k : ℕ) (w : MomentWindow M) → (c : Before k w) → leb min_periods (E k - S k) ≡ false → c.acc ≡ A (suc k)
      stays k w c e = go k refl
        where
          go : (i : ℕ) → k ≡ i → c.acc ≡ A (suc k)
          go zero z = c.first z
          go (suc i) z = c.stay (ap (λ (m : Bool). m || (eqb k 0 || leb min_periods (E k - S k))) no ∙ rw (e, ne_eqb k 0 (λ y. omega arith)))

      -- 002's `update` with row k, of a window that stands before it
      update-no : (a : Account) (w : MomentWindow M) (k : ℕ) → k < rows p → Stands a w → a.start ≤ S k → a.end ≤ E k → update_no_nulls rust xs w (S k) (E k) ≡ update w k
      update-no a w k h whole hs he =
          let r = plan.row k h in
          no-nulls-same M rust (valid_at has map) xs a w whole (S k) (E k) hs he r.0 (omega arith) every r.1

      abbrev out : ℕ → ℕ → MomentWindow M → List Figure
      out k i w = out_no_nulls M rust final xs min_periods (offsets p) k i w

      rows-no : (k i : ℕ) (w : MomentWindow M) → i + k ≡ rows p → (0 < k → Before i w) → out k i w ≡ span answer k i
      unfolding out_no_nulls span
      rows-no zero i w h c = refl
      rows-no (suc k) i w h c =
          let r = plan.row i (omega arith) in
          ap (λ (n : ℕ). cond (ltb n min_periods) (Missing ∷ out k (suc i) w)
          (get_moment final (update_no_nulls rust xs w (S i) (E i)) ∷ out k (suc i) (update_no_nulls rust xs w (S i) (E i))))
          (rust.minus_is (E i) (S i) r.0)
          ∙ go (ltb (E i - S i) min_periods) refl (c (omega arith)) (λ (w' : MomentWindow M). rows-no k (suc i) w' (omega arith))
        where
          go : (u : Bool) → ltb (E i - S i) min_periods ≡ u → Before i w → ((w' : MomentWindow M) → (0 < k → Before (suc i) w') → out k (suc i) w' ≡ span answer k (suc i))
              → cond u (Missing ∷ out k (suc i) w)
              (get_moment final (update_no_nulls rust xs w (S i) (E i)) ∷ out k (suc i) (update_no_nulls rust xs w (S i) (E i)))
              ≡ answer i ∷ span answer k (suc i)
          go true e c ih =
              let q : leb min_periods (E i - S i) ≡ false = lt-leb min_periods (E i - S i) (ltb-true _ _ e) in
              let whole = subst (λ (a : Account). Stands a w) (stays i w c q) c.whole in
              rw (ih w (λ l. before-suc i w (omega arith) whole), answer-no i (ap (leb min_periods) (counted-no (S i) (E i)) ∙ q))
          go false e c ih =
              let q : leb min_periods (E i - S i) ≡ true = le-leb min_periods (E i - S i) (ltb-false _ _ e) in
              let y = ap (leb min_periods) (counted-no (S i) (E i)) ∙ q in
              let u = update-no c.acc w i (omega arith) c.whole c.starts c.ends in
              let whole = after i w (omega arith) c (meets t.places min_periods i (S i) (E i) y) in
              ap (λ (z : MomentWindow M). get_moment final z ∷ out k (suc i) z) u
              ∙ ap (λ (f : Figure). f ∷ out k (suc i) (update w i)) (moment-is (A (suc i)) (update w i) whole ∙ sym (answer-yes i y))
              ∙ ap (λ (l : List Figure). answer i ∷ l) (ih (update w i) (λ l. before-suc i (update w i) (omega arith) whole))

      pub rolled-no : rolling_no_nulls M rust final xs min_periods (offsets p) (rows p) ≡ table answer (rows p)
      unfolding rolling_no_nulls
      rolled-no = rows-no (rows p) 0 (update_no_nulls rust xs new_impl (S 0) (E 0)) (zero-add (rows p)) start ∙ span_table answer (rows p)
        where
          start : 0 < rows p → Before 0 (update_no_nulls rust xs new_impl (S 0) (E 0))
          start h = rw (update-no fresh new_impl 0 h (new-whole M rust (valid_at has map) xs) (omega arith) (omega arith)) (before-zero h)

    -- ---- with a map
    -- what the `match` makes of one row's value and mark
    record Matched (i : ℕ) (f : Figure) (enough : Bool) (l : List Bool) (x : Float) (m : List Bool) : Type 0 where
      long : length m ≡ length l
      other : (j : ℕ) → (j ≡ i → ⊥) → get_or m j false ≡ get_or l j false
      this : (enough ≡ true → get_or l i false ≡ true) → i < length l → cond (get_or m i false) (Present x) Missing ≡ cond enough f Missing

    matched-is : (i : ℕ) (f : Figure) (enough : Bool) (l : List Bool) → i < length l → Matched i f enough l (matched rust i f enough l).0 (matched rust i f enough l).1
    matched-is i (Present x) true l o = record { long = refl; other = λ j h. refl; this = λ h k. rw (h refl) }
    matched-is i (Present x) false l o =
        rw (rust.unset_is l i o)
        record { long = length-set l i false; other = λ j h. get_or-set_other l i j false false h; this = λ h k. rw (get_or-set_same l i false false k) }
    matched-is i Missing true l o =
        rw (rust.unset_is l i o)
        record { long = length-set l i false; other = λ j h. get_or-set_other l i j false false h; this = λ h k. rw (get_or-set_same l i false false k) }
    matched-is i Missing false l o =
        rw (rust.unset_is l i o)
        record { long = length-set l i false; other = λ j h. get_or-set_other l i j false false h; this = λ h k. rw (get_or-set_same l i false false k) }

    module _ (yes : has ≡ true) (bitmap : Bitmap) (bits : (i : ℕ) → i < length xs → rust.bit bitmap i ≡ valid_at has map i) where
      counted-yes : (s e : ℕ) → counted t.places s e ≡ valid_count t.places s e
      counted-yes s e = ap (λ (m : Bool). cond m (valid_count t.places s e) (e - s)) yes

      moves-yes : (k : ℕ) → moves has min_periods k (S k) (E k) ≡ true
      moves-yes k = ap (λ (m : Bool). m || (eqb k 0 || leb min_periods (E k - S k))) yes

      -- what the k rows from i on leave of the marks l, with their values
      pub record Rolls (k i : ℕ) (l : List Bool) (a : Array) : Type 0 where
        pub long : length a.validity ≡ length l
        pub before : (j : ℕ) → j < i → get_or a.validity j false ≡ get_or l j false
        pub row : (m : ℕ) → m < k → cond (get_or a.validity (i + m) false) (Present (get_or a.values m nan)) Missing ≡ answer (i + m)

      module _ (k i : ℕ) (w : MomentWindow M) (l : List Bool) (h : i + suc k ≡ rows p) (g : length l ≡ rows p) (f : From rust min_periods (offsets p) i l) (c : Before i w) where
        abbrev W' : MomentWindow M
        W' = update w i

        whole' : Stands (A (suc i)) W'
        whole' = after i w (omega arith) c (moves-yes i)

        ends_at : ((A (suc i)).start ≡ S i) × ((A (suc i)).end ≡ E i)
        unfolding account_at
        ends_at = rw (moves-yes i) (refl, refl)

        enough : is_valid rust W' min_periods ≡ leb min_periods (counted t.places (S i) (E i))
        enough = valid-is (A (suc i)) W' min_periods whole' ∙ rw (ends_at.0, ends_at.1, counted-yes (S i) (E i))

        answer-is : answer i ≡ cond (is_valid rust W' min_periods) (get_moment final W') Missing
        answer-is = go (leb min_periods (counted t.places (S i) (E i))) refl
          where
            go : (u : Bool) → leb min_periods (counted t.places (S i) (E i)) ≡ u → answer i ≡ cond (is_valid rust W' min_periods) (get_moment final W') Missing
            go true e = answer-yes i e ∙ sym (ap (λ (u : Bool). cond u (get_moment final W') Missing) (enough ∙ e) ∙ moment-is (A (suc i)) W' whole')
            go false e = answer-no i e ∙ sym (ap (λ (u : Bool). cond u (get_moment final W') Missing) (enough ∙ e))

        -- a row with enough valid places has kept its mark
        marked : is_valid rust W' min_periods ≡ true → get_or l i false ≡ true
        marked e = go (get_or l i false) refl
          where
            go : (u : Bool) → get_or l i false ≡ u → u ≡ true
            go true q = refl
            go false q =
                let r = plan.row i (omega arith) in
                let d = rust.minus_is (E i) (S i) r.0 in
                let s = ltb-true (rust.minus (E i) (S i)) min_periods (f i (omega arith) (omega arith) q) in
                let y = leb-true min_periods (counted t.places (S i) (E i)) (sym enough ∙ e) in
                let n = rw (counted-yes (S i) (E i)) at y in
                let o = both (valid_at has map) (λ j. j) (E i - S i) (S i) in
                absurd (omega arith)

        abbrev X : Float
        X = (matched rust i (get_moment final W') (is_valid rust W' min_periods) l).0

        abbrev L' : List Bool
        L' = (matched rust i (get_moment final W') (is_valid rust W' min_periods) l).1

        marks : Matched i (get_moment final W') (is_valid rust W' min_periods) l X L'
        marks = matched-is i (get_moment final W') (is_valid rust W' min_periods) l (omega arith)

        from' : From rust min_periods (offsets p) (suc i) L'
        from' j o q e =
            let n : j ≡ i → ⊥ = λ z. omega arith in
            f j (omega arith) (rw marks.long at q) (sym (marks.other j n) ∙ e)

        rolls : (a : Array) → Rolls k (suc i) L' a → Rolls (suc k) i l (record { values = X ∷ a.values; validity = a.validity })
        rolls a s =
            record {
              long = s.long ∙ marks.long;
              before = λ j q. s.before j (omega arith) ∙ marks.other j (λ z. omega arith);
              row = at;
            }
          where
            at : (m : ℕ) → m < suc k → cond (get_or a.validity (i + m) false) (Present (get_or (X ∷ a.values) m nan)) Missing ≡ answer (i + m)
            at zero q = rw (add-zero, s.before i (omega arith)) (marks.this marked (omega arith) ∙ sym answer-is)
            at (suc m) q = let z : i + suc m ≡ suc i + m = omega arith in rw z (s.row m (omega arith))

      update-yes : (w : MomentWindow M) (k : ℕ) → k < rows p → update_nulls rust bitmap xs w (S k) (E k) ≡ update w k
      update-yes w k h = let r = plan.row k h in nulls-same M rust (valid_at has map) xs bitmap bits w (S k) (E k) (omega arith) r.1

      abbrev array : ℕ → ℕ → MomentWindow M → List Bool → Array
      array k i w l = out_nulls M rust final xs bitmap min_periods (offsets p) k i w l

      -- the rows after one, its window updated
      abbrev rest : ℕ → ℕ → List Bool → MomentWindow M → Array
      rest k i l w =
          let m = matched rust i (get_moment final w) (is_valid rust w min_periods) l in
          let a = array k (suc i) w m.1 in
          record { values = m.0 ∷ a.values; validity = a.validity }

      rows-yes : (k i : ℕ) (w : MomentWindow M) (l : List Bool) → i + k ≡ rows p → length l ≡ rows p → From rust min_periods (offsets p) i l → (0 < k → Before i w) → Rolls k i l (array k i w l)
      unfolding out_nulls
      rows-yes zero i w l h g f c = record { long = refl; before = λ j q. refl; row = λ m q. absurd (omega arith) }
      rows-yes (suc k) i w l h g f c =
          let d = c (omega arith) in
          subst (λ (w' : MomentWindow M). Rolls (suc k) i l (rest k i l w')) (sym (update-yes w i (omega arith)))
          (rolls k i w l h g f d (array k (suc i) (W' k i w l h g f d) (L' k i w l h g f d))
          (rows-yes k (suc i) (W' k i w l h g f d) (L' k i w l h g f d) (omega arith) ((marks k i w l h g f d).long ∙ g) (from' k i w l h g f d)
          (λ q. before-suc i (W' k i w l h g f d) (omega arith) (whole' k i w l h g f d))))

      pub rolled-yes : Rolls (rows p) 0 (created rust min_periods (offsets p) (rows p)) (rolling_nulls M rust final xs bitmap min_periods (offsets p) (rows p))
      unfolding rolling_nulls
      rolled-yes =
          let m = created-marks rust min_periods (offsets p) (rows p) in
          rows-yes (rows p) 0 (update_nulls rust bitmap xs new_impl (S 0) (E 0)) (created rust min_periods (offsets p) (rows p)) (zero-add (rows p)) m.1 m.0
          (λ h. rw (update-yes new_impl 0 h) (before-zero h))

-- ---- a row
-- over any plan that is in order, the source's row is what the split account yields
pub plan_row_lem : (M : Moment Float) (rust : Rust) → Neutral M → (final : M.State → Figure) (t : Trace) (min_periods widest : ℕ) (p : Plan)
    → Planned (length t.readings) widest p → length t.readings ≤ 16777216
    → (t.mapped ≡ true → bytes_for (length t.readings) ≤ length t.map) → (k : ℕ) → k < rows p
    → plan_row M rust final t min_periods p k ≡ answer_at M final (series t.mapped t.map t.readings) min_periods p k
plan_row_lem M rust neutral final t min_periods widest p plan few fits k h = go t.mapped fits
  where
    go : (m : Bool) → (m ≡ true → bytes_for (length t.readings) ≤ length t.map)
        → cond m (row_of (rolling_nulls M rust final t.readings (bitmap_of t) min_periods (offsets p) (rows p)) k)
        (get_or (rolling_no_nulls M rust final t.readings min_periods (offsets p) (rows p)) k Missing)
        ≡ answer_at M final (series m t.map t.readings) min_periods p k
    go true f =
        let r = rolled-yes M rust neutral final true t.map t.readings min_periods widest p plan few refl (bitmap_of t)
        (λ i g. rust.bit_is (bitmap_of t) i (bits_fit (length t.readings) (length t.map) (f refl)) g) in
        rw zero-add at (r.row k h)
    go false f =
        rw (rolled-no M rust neutral final false t.map t.readings min_periods widest p plan few refl)
        (table-place _ (rows p) k Missing h)
