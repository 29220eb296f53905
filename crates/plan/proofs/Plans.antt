-- An accepted plan is in order: its rows lie in the series and rise, and none is wider than the widest. The first refusal of the
-- rows is found by testing them in turn. Assumes nothing.
use Rattle.std.proofs.Common.{below_more, ◌≡◌, ℕ, zero, suc, ◌+◌, ◌-◌, ◌<◌, ◌≤◌, max, Bool, true, false, ◌||◌, ltb, length, sym, refl, ap, ◌∙◌, subst, le_trans, le_refl, add-zero, add-suc, add-one, arith, lit≤, ltb-false, le-ltb, eq-eqb, ne_eqb}
use Rattle.trace.specs.Refusals.{refusal, ◌or_else◌}
use Rattle.trace.proofs.Accepted.{none_of, not_refused_lem}
use Rattle.float.proofs.Cases.{apart, Or, here, there, order}
use Rattle.plan.specs.Plan.{Plan, rows, row_start, row_end}
use Rattle.plan.specs.Refusals.{row_refusal, before, rows_refusal, widest}
use Rattle.plan.specs.Code.Accepted.{Planned, WidthOf}

pub neither : (a b : Bool) → (a || b) ≡ false → (a ≡ false) × (b ≡ false)
neither true b e = apart (sym e)
neither false b e = (refl, e)

-- a number that refuses stands, whatever is tested after it
pub first_stands : (a b : ℕ) → (a ≡ 0 → ⊥) → a or_else b ≡ a
unfolding ◌or_else◌
first_stands a b h = rw (ne_eqb a 0 h)

pub none_then : (a b : ℕ) → a ≡ 0 → a or_else b ≡ b
unfolding ◌or_else◌
none_then a b h = rw (eq-eqb a 0 h)

-- what holds below k, and of k
below_suc : (P : ℕ → Type 0) (k : ℕ) → ((j : ℕ) → j < k → P j) → P k → (j : ℕ) → j < suc k → P j
below_suc P k below at_k = rw add-one at (below_more P k below at_k)

module _ (n : ℕ) (p : Plan) where
  -- row k's own number
  abbrev pub Row : ℕ → ℕ
  Row k = row_refusal n (before p.starts k) (before p.ends k) (row_start p k) (row_end p k)

  -- a row that is not refused
  pub record Good (k : ℕ) : Type 0 where
    pub row : row_start p k ≤ row_end p k
    pub within : row_end p k ≤ n
    pub starts : before p.starts k ≤ row_start p k
    pub ends : before p.ends k ≤ row_end p k

  pub good : (k : ℕ) → Row k ≡ 0 → Good k
  unfolding row_refusal
  good k e =
      let a = none_of _ _ e in
      let b = none_of _ _ a.0 in
      let o = neither _ _ (not_refused_lem 7 _ (lit≤ tt) a.1) in
      record {
        row = ltb-false _ _ (not_refused_lem 5 _ (lit≤ tt) b.0);
        within = ltb-false _ _ (not_refused_lem 6 _ (lit≤ tt) b.1);
        starts = ltb-false _ _ o.0;
        ends = ltb-false _ _ o.1;
      }

  -- a row none of whose tests fails is not refused
  unrefused : (k : ℕ) → ltb (row_end p k) (row_start p k) ≡ false → ltb n (row_end p k) ≡ false →
      ltb (row_start p k) (before p.starts k) ≡ false → ltb (row_end p k) (before p.ends k) ≡ false → Row k ≡ 0
  unfolding row_refusal refusal ◌or_else◌
  unrefused k a b c d = rw (a, b, c, d)

  rows_more : (k : ℕ) → rows_refusal n p k ≡ 0 → rows_refusal n p (suc k) ≡ Row k
  unfolding rows_refusal
  rows_more k e = none_then _ _ e

  rows_stay : (k j : ℕ) → (rows_refusal n p k ≡ 0 → ⊥) → rows_refusal n p (k + j) ≡ rows_refusal n p k
  unfolding rows_refusal
  rows_stay k zero h = rw add-zero
  rows_stay k (suc j) h = let i = rows_stay k j h in rw add-suc (first_stands _ _ (λ z. h (sym i ∙ z)) ∙ i)

  rows_before : (k : ℕ) → rows_refusal n p (suc k) ≡ 0 → (rows_refusal n p k ≡ 0) × (Row k ≡ 0)
  unfolding rows_refusal
  rows_before k e = none_of _ _ e

  last_or : (m k : ℕ) → k < suc m → Good m → (k < m → Good k) → Good k
  last_or m k h g f = go (order m k)
    where
      go : Or (m ≤ k) (k < m) → Good k
      go (here l) = let z : m ≡ k = omega arith in subst Good z g
      go (there l) = f l

  all-good : (m k : ℕ) → rows_refusal n p m ≡ 0 → k < m → Good k
  all-good zero k e h = absurd (omega arith)
  all-good (suc m) k e h = last_or m k h (good m (rows_before m e).1) (λ l. all-good m k (rows_before m e).0 l)

  pub wide-all : (m k : ℕ) → k < m → row_end p k - row_start p k ≤ widest p m
  unfolding widest
  wide-all zero k h = absurd (omega arith)
  wide-all (suc m) k h = go (order m k) (λ l. wide-all m k l)
    where
      go : Or (m ≤ k) (k < m) → (k < m → row_end p k - row_start p k ≤ widest p m) → row_end p k - row_start p k ≤ max (widest p m) (row_end p m - row_start p m)
      go (here l) f = let z : m ≡ k = omega arith in rw z (omega arith)
      go (there l) f = let q = f l in omega arith

  -- bounds that no row lowers rise from any row to any later one
  module _ (m : ℕ) (step : (j : ℕ) → suc j < m → (row_start p j ≤ row_start p (suc j)) × (row_end p j ≤ row_end p (suc j))) where
    climb : (j d : ℕ) → j + d < m → (row_start p j ≤ row_start p (j + d)) × (row_end p j ≤ row_end p (j + d))
    climb j zero h = rw add-zero (le_refl _, le_refl _)
    climb j (suc d) h =
        let i = climb j d (omega arith) in
        let z : j + suc d ≡ suc (j + d) = add-suc j d in
        let g = step (j + d) (omega arith) in
        rw z (le_trans i.0 g.0, le_trans i.1 g.1)

    rise : (j k : ℕ) → j ≤ k → k < m → (row_start p j ≤ row_start p k) × (row_end p j ≤ row_end p k)
    rise j k o h = let z : j + (k - j) ≡ k = omega arith in rw z at (climb j (k - j) (rw z h))

  pub planned : length p.starts ≡ length p.ends → rows_refusal n p (rows p) ≡ 0 → Planned n (widest p (rows p)) p
  planned l e =
      record {
        same = l;
        row = λ k h.
            let g = all-good (rows p) k e h in
            let w = wide-all (rows p) k h in
            let r = g.row in
            (r, g.within, omega arith);
        rising = rise (rows p) (λ j h. let g = all-good (rows p) (suc j) e h in (g.starts, g.ends));
      }

  -- ---- a plan that is in order is not refused
  in_order : (w k : ℕ) → Planned n w p → k < rows p → Row k ≡ 0
  in_order w zero o h =
      let r = o.row zero h in
      unrefused zero (le-ltb _ _ r.0) (le-ltb _ _ r.1) (le-ltb (row_start p zero) 0 (omega arith)) (le-ltb (row_end p zero) 0 (omega arith))
  in_order w (suc k) o h =
      let r = o.row (suc k) h in
      let i = o.rising k (suc k) (omega arith) h in
      unrefused (suc k) (le-ltb _ _ r.0) (le-ltb _ _ r.1) (le-ltb _ _ i.0) (le-ltb _ _ i.1)

  pub rows-in-order : (w k : ℕ) → Planned n w p → k ≤ rows p → rows_refusal n p k ≡ 0
  unfolding rows_refusal
  rows-in-order w zero o h = refl
  rows-in-order w (suc k) o h = rows_more k (rows-in-order w k o (omega arith)) ∙ in_order w k o (omega arith)

  -- a bound on every window's width bounds the widest
  pub widest-under : (w m : ℕ) → ((k : ℕ) → k < m → row_end p k - row_start p k ≤ w) → widest p m ≤ w
  unfolding widest
  widest-under w zero f = omega arith
  widest-under w (suc m) f =
      let i = widest-under w m (λ k h. f k (omega arith)) in
      let o = f m (omega arith) in
      omega arith

  -- no window is wider than the series
  pub widest-le : (m : ℕ) → rows_refusal n p m ≡ 0 → widest p m ≤ n
  unfolding widest
  widest-le zero e = omega arith
  widest-le (suc m) e =
      let i = widest-le m (rows_before m e).0 in
      let g = good m (rows_before m e).1 in
      let w = g.within in
      omega arith

  -- ---- the walk row by row
  -- after k rows, none of which is refused: the widest window, and the bounds of the row before
  pub record Walked (k wide s' e' : ℕ) : Type 0 where
    pub none : 0 ≡ rows_refusal n p k
    pub wide_is : wide ≡ widest p k
    pub start_is : s' ≡ before p.starts k
    pub end_is : e' ≡ before p.ends k

  pub walk-none : Walked 0 0 0 0
  unfolding rows_refusal widest
  walk-none = record { none = refl; wide_is = refl; start_is = refl; end_is = refl }

  -- row k, from s up to e, whose number is c
  module _ (k w s' e' s e c : ℕ) (i : Walked k w s' e') (s-is : s ≡ row_start p k) (e-is : e ≡ row_end p k) (c-is : c ≡ row_refusal n s' e' s e) where
    walk-own : c ≡ Row k
    walk-own = c-is ∙ rw (i.start_is, i.end_is, s-is, e-is)

    pub walk-rises : 0 ≡ c → s ≤ e
    walk-rises z = let g = (good k (sym walk-own ∙ sym z)).row in omega arith

    pub walk-stops : k < rows p → 0 < c → c ≡ rows_refusal n p (rows p)
    walk-stops h f =
        let z : c ≡ rows_refusal n p (suc k) = walk-own ∙ sym (rows_more k (sym i.none)) in
        let q : suc k + (rows p - suc k) ≡ rows p = omega arith in
        z ∙ sym (rows_stay (suc k) (rows p - suc k) (λ o. let a : 0 ≡ c = sym (z ∙ o) in absurd (omega arith))) ∙ ap (rows_refusal n p) q

    pub walk-row : (x : ℕ) → 0 ≡ c → x ≡ max w (e - s) → Walked (k + 1) x s e
    unfolding widest
    walk-row x z f =
        rw add-one
        (record {
          none = sym (rows_more k (sym i.none) ∙ sym walk-own ∙ sym z);
          wide_is = f ∙ rw (i.wide_is, s-is, e-is);
          start_is = s-is;
          end_is = e-is;
        })

  -- ---- the pass that compares each row with the one before it and keeps the widest width, which may have wrapped
  -- the first k rows, none of whose bounds falls: a width that wrapped is near 2 ^ 32
  pub record Passing (wide k : ℕ) : Type 0 where
    pub steps : (j : ℕ) → j < k → (before p.starts j ≤ row_start p j) × (before p.ends j ≤ row_end p j)
    pub wraps : (j : ℕ) → j < k → row_end p j < row_start p j → row_end p j + 4294967296 ≤ row_start p j + wide
    pub wide_is : ((j : ℕ) → j < k → row_start p j ≤ row_end p j) → wide ≡ widest p k

  -- the same while no bound falls, with the bounds of the row before
  pub record Passed (k wide s' e' : ℕ) (falls : Bool) : Type 0 where
    pub passing : falls ≡ false → Passing wide k
    pub start_is : s' ≡ before p.starts k
    pub end_is : e' ≡ before p.ends k

  pub pass-none : Passed 0 0 0 0 false
  unfolding widest
  pass-none =
      record {
        passing = λ _. record { steps = λ j h. absurd (omega arith); wraps = λ j h. absurd (omega arith); wide_is = λ _. refl };
        start_is = refl;
        end_is = refl;
      }

  -- row k, from s up to e, of a width that may wrap
  module _ (k w s' e' s e wide x : ℕ) (falls : Bool) (i : Passed k w s' e' falls) (s-is : s ≡ row_start p k) (e-is : e ≡ row_end p k)
      (width-is : WidthOf s e wide) (x-is : x ≡ max w wide) where
    pass-steps : Passing w k → s' ≤ s → e' ≤ e → (j : ℕ) → j < suc k → (before p.starts j ≤ row_start p j) × (before p.ends j ≤ row_end p j)
    pass-steps was a b =
        below_suc (λ j. (before p.starts j ≤ row_start p j) × (before p.ends j ≤ row_end p j)) k was.steps (let u = i.start_is in let v = i.end_is in (omega arith, omega arith))

    pass-wraps : Passing w k → (j : ℕ) → j < suc k → row_end p j < row_start p j → row_end p j + 4294967296 ≤ row_start p j + x
    pass-wraps was =
        below_suc (λ j. row_end p j < row_start p j → row_end p j + 4294967296 ≤ row_start p j + x) k
        (λ j h f. let a = was.wraps j h f in omega arith) (λ f. let a = width-is.wrapped (omega arith) in omega arith)

    pass-wide : Passing w k → ((j : ℕ) → j < suc k → row_start p j ≤ row_end p j) → x ≡ widest p (suc k)
    unfolding widest
    pass-wide was f =
        let own = f k (omega arith) in
        let q = was.wide_is (λ j h. f j (omega arith)) in
        let a = width-is.plain (omega arith) in
        let r : x ≡ max w (row_end p k - row_start p k) = omega arith in
        r ∙ rw q

    pub pass-row : Passed (k + 1) x s e (falls || (ltb s s' || ltb e e'))
    pass-row =
        rw add-one
        (record {
          passing = λ t.
              let b = neither _ _ t in
              let a = neither _ _ b.1 in
              let was = i.passing b.0 in
              record { steps = pass-steps was (ltb-false _ _ a.0) (ltb-false _ _ a.1); wraps = pass-wraps was; wide_is = pass-wide was };
          start_is = s-is;
          end_is = e-is;
        })

  -- at the end: where the last bounds and the widest width are within the series, no width has wrapped and no row is refused
  module _ (w : ℕ) (l : length p.starts ≡ length p.ends) (few : n ≤ 16777216) (i : Passing w (rows p))
      (s : before p.starts (rows p) ≤ n) (e : before p.ends (rows p) ≤ n) (o : w ≤ n) where
    within : (m k : ℕ) → m ≡ rows p → before p.starts m ≤ n → before p.ends m ≤ n → k < m → (row_start p k ≤ n) × (row_end p k ≤ n)
    within zero k q a b h = absurd (omega arith)
    within (suc last) k q a b h =
        let r = rise (rows p) (λ j h. i.steps (suc j) h) k last (omega arith) (omega arith) in
        (le_trans r.0 a, le_trans r.1 b)

    in-turn : (k : ℕ) → k < rows p → Or (row_start p k ≤ row_end p k) (row_end p k < row_start p k) → row_start p k ≤ row_end p k
    in-turn k h (here f) = f
    in-turn k h (there f) = let a = i.wraps k h f in let b = (within (rows p) k refl s e h).0 in absurd (omega arith)

    turns : (k : ℕ) → k < rows p → row_start p k ≤ row_end p k
    turns k h = in-turn k h (order (row_start p k) (row_end p k))

    ordered : Planned n (widest p (rows p)) p
    ordered =
        record {
          same = l;
          row = λ k h. let w = wide-all (rows p) k h in let f = turns k h in (f, (within (rows p) k refl s e h).1, omega arith);
          rising = rise (rows p) (λ j h. i.steps (suc j) h);
        }

    all-passed : (rows_refusal n p (rows p) ≡ 0) × (w ≡ widest p (rows p))
    all-passed = (rows-in-order (widest p (rows p)) (rows p) ordered (le_refl _), i.wide_is turns)

  pub pass-all : (w s' e' : ℕ) (falls : Bool) → length p.starts ≡ length p.ends → n ≤ 16777216 → Passed (rows p) w s' e' falls →
      (falls || ((ltb n s' || ltb n e') || ltb n w)) ≡ false → (rows_refusal n p (rows p) ≡ 0) × (w ≡ widest p (rows p))
  pass-all w s' e' falls l few i t =
      let a = neither _ _ t in
      let b = neither _ _ a.1 in
      let d = neither _ _ b.0 in
      all-passed w l few (i.passing a.0) (rw i.start_is at (ltb-false n s' d.0)) (rw i.end_is at (ltb-false n e' d.1)) (ltb-false _ _ b.1)
