-- The answers for a trace that is lent with a flag are those for the trace that the flag tells. Assumes nothing.
use Rattle.std.proofs.Common.{◌≡◌, ℕ, Bool, ◌&&◌, List, length, ap, ◌∙◌}
use lib.Ieee.{Float}
use Rattle.trace.specs.Trace.{Trace, trace_of, valid_at, both_at}
use Rattle.trace.specs.Lent.{LentAs}
use Rattle.trace.proofs.Lent.{lent_valid, lent_wrong}
use Rattle.moment.specs.Arrays.{trace_answer, pair_answer, range_answer}

module _ {S : Type 0} {values : List Float} {has : Bool} {map : List ℕ} {t : Trace} (h : LentAs values has map t) where
  pub trace_lent : (whole : List Float → S) → trace_answer whole t ≡ trace_answer whole (trace_of values has map)
  trace_lent whole = rw (lent_valid values has map t h, h.readings_are, lent_wrong (length values) values has map t h)

  pub range_lent : (new : List Float → S) (start len : ℕ)
      → range_answer new t start len ≡ range_answer new (trace_of values has map) start len
  range_lent new start len = rw (lent_valid values has map t h, h.readings_are, lent_wrong (length values) values has map t h)

both_same : (a c : Bool) (b d : List ℕ) (a' c' : Bool) (b' d' : List ℕ) → valid_at a b ≡ valid_at a' b' → valid_at c d ≡ valid_at c' d'
    → both_at a b c d ≡ both_at a' b' c' d'
unfolding both_at
both_same a c b d a' c' b' d' e f =
    ap (λ (v : ℕ → Bool). λ i. v i && valid_at c d i) e ∙ ap (λ (w : ℕ → Bool). λ i. valid_at a' b' i && w i) f

module _ {S : Type 0} {xs ys : List Float} {has has' : Bool} {map map' : List ℕ} {x y : Trace}
    (h : LentAs xs has map x) (k : LentAs ys has' map' y) where
  pub pair_lent : (whole : List (Float × Float) → S)
      → pair_answer whole x y ≡ pair_answer whole (trace_of xs has map) (trace_of ys has' map')
  pair_lent whole =
      let v = lent_valid xs has map x h in
      let w = lent_valid ys has' map' y k in
      let wrong_x = lent_wrong (length xs) xs has map x h in
      let wrong_y = lent_wrong (length ys) ys has' map' y k in
      rw (both_same _ _ _ _ _ _ _ _ v w, h.readings_are, k.readings_are, wrong_x, wrong_y)
