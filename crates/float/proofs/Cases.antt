-- What a proof by cases starts from: false is not true, and of two numbers one is the smaller or both are the same. Assumes nothing.
use Prim.Native.Nat.{ℕ, ◌≤◌, ◌<◌}
use mathlib.Core.Path.{◌≡◌}
use mathlib.Core.Bool.{true, false}
use Rattle.std.proofs.Math.Logic.{⊎_swap}
use Rattle.std.proofs.lemmas.Bool.{cases_lt}
pub use mathlib.Core.Logic.{◌⊎◌ as Or, inl as here, inr as there}

-- false is not true
pub apart : {A : Type 0} → false ≡ true → A
apart e = cc

pub order : (a b : ℕ) → Or (a ≤ b) (b < a)
order a b = ⊎_swap (cases_lt b a)
