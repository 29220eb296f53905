-- The count of one entry is 1.0, and each sum has one term. Assumes nothing.
use Rattle.std.proofs.Common.{◌≡◌, List, [], ◌∷◌, ◌++◌}
use Rattle.std.specs.Prelude.{Float}
use Rattle.float.specs.Operators.{one64}
use Rattle.float.proofs.Counts.{one_is_lem}
use Rattle.moment.specs.Code.States.{mean_by, new_by}
use Rattle.moment.proofs.states.of_one.Goals as goal

one_entry : {E S : Type 0} (about : Float → E → List E → S) (with_entry : S → E → S) (new : List E → S)
    (none : E) (plus : E → E → E) (mean : E → Float → E)
    → ((w : Float) (m : E) (xs : List E) (x : E) → about w m (xs ++ x ∷ []) ≡ with_entry (about w m xs) x)
    → ((xs : List E) → new xs ≡ new_by about none (mean_by none plus mean) xs)
    → (e a b m : E) (s r : S) → a ≡ none → b ≡ plus a e → m ≡ mean b one64 → s ≡ about one64 m [] → r ≡ with_entry s e → r ≡ new (e ∷ [])
one_entry about with_entry new none plus mean about_more new_is e a b m s r a_is b_is m_is s_is r_is =
    rw (new_is (e ∷ []), about_more _ _ [] e, ← one_is_lem, r_is, s_is, m_is, b_is, a_is)

pub returns : goal.returns
returns g c =
    let s = g.S.State in
    let e = g.S.Entry.Entry in
    let law = g.met.S.State in
    one_entry s.about s.with_entry s.new e.none e.plus e.mean law.about_more law.new_is _ _ _ _ _ _
    c.none.ensures c.plus-sum.ensures c.mean.ensures c.about.ensures c.with_entry.ensures
