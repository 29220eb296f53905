-- Document 02, request 5: "any list of inserts and combines from empty", over any moment. Assumes nothing.
use Rattle.window.specs.Window.{Moment}

-- A state that is combined has such a list of its own, so that the whole is a tree.
pub data History (A : Type 0) : Type 0 where
  empty : History A
  inserted : History A → A → History A
  combined : History A → History A → History A

-- the state of a moment after it
unfoldable pub after : {A : Type 0} → (M : Moment A) → History A → M.State
after M empty = M.empty
after M (inserted h x) = M.insert (after M h) x
after M (combined h g) = M.combine (after M h) (after M g)
