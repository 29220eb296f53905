-- States that count what is inserted: the state of a window's back part counts the entries there, and the state on the top of the front
-- stack those of the front part, so that the two may be combined. Assumes nothing.
use Rattle.std.proofs.Common.{◌≡◌, ℕ, ◌+◌, ◌*◌, ◌^◌, ◌<◌, ◌≤◌, List, [], ◌∷◌, length, refl, subst, arith}
use lib.Ieee.{Float}
use Rattle.moment.specs.declared.Figure.TheVariants.{Missing}
use Rattle.window.specs.Places.{Series}
use Rattle.window.specs.Window.{front, back, rising, falling}
use Rattle.window.specs.Code.Memory.{Layout}
use Rattle.window.specs.Code.Stacks.{account, Held}
use Rattle.window.specs.declared.Window.{Window}
use Rattle.window.proofs.Moves.{front-many, back-many}
use Rattle.window.proofs.Rows.{top-is}
use Rattle.rolling.specs.Code.Ops.{Ops, moment_by, stored_by, CanTotal}

module _ {S A : Type 0} (ops : Ops S A) (counts : S → ℕ → Type 0) (starts : counts ops.empty 0)
    (grows : (s : S) (x : A) (n : ℕ) → n < 2 ^ 53 → counts s n → counts (ops.insert s x) (n + 1)) where
  rising-counts : (l : List A) (s : S) (n m : ℕ) → n + length l ≡ m → m ≤ 2 ^ 53 → counts s n → counts (rising (moment_by ops) s l) m
  rising-counts [] s n m e h c = let f : n ≡ m = omega arith in subst (counts s) f c
  rising-counts (x ∷ l) s n m e h c =
      rising-counts l (ops.insert s x) (n + 1) m (omega arith) h (grows s x n (omega arith) c)

  falling-counts : (l : List A) (m : ℕ) → m ≡ length l → m ≤ 2 ^ 53 → counts (falling (moment_by ops) l) m
  falling-counts [] m e h = rw e starts
  falling-counts (x ∷ l) m e h =
      let f : m ≡ length l + 1 = omega arith in
      rw f (grows (falling (moment_by ops) l) x (length l) (omega arith) (falling-counts l (length l) refl (omega arith)))

  module _ {in_back : Layout Float A} {in_front : Layout Float S} {t : Series A} {base : ℕ} {w : Window} {agg : S} {work : List Float}
      (held : Held (stored_by in_back in_front ops) t base w agg work) where
    pub back-counts : w.back ≤ 2 ^ 53 → counts agg w.back
    back-counts h =
        let e = back-many t w held.numbers in
        rw held.agg_is (rising-counts (back t (account w)) ops.empty 0 w.back (omega arith) h starts)

    pub can-total : in_front.width * w.front ≤ length work → w.front + w.back ≤ 2 ^ 53 → CanTotal in_back in_front ops counts w agg work
    can-total o h =
        let top = top-is (stored_by in_back in_front ops) (λ z. Missing) t base w agg work held in
        record {
          front_in = o;
          few = h;
          counted = back-counts (omega arith);
          front_counted = rw top (falling-counts (front t (account w)) w.front (front-many t w held.numbers) (omega arith));
        }
