-- By each check. Assumes nothing.
use Rattle.std.proofs.Common.{◌≡◌, ℕ, Bool, List, refl, ap, ◌∙◌}
use Rattle.std.specs.Prelude.{Option, Some, None, is_some}
use Rattle.std.specs.Borrow.{Bor}
use Rattle.trace.specs.Lent.{mapped}
use Rattle.trace.specs.Refusals.{refusal}
use Rattle.trace.proofs.Checks.{stands, stops, goes_on}
use Rattle.weighted.specs.Weights.{weights_refusal}
use Rattle.weighted.proofs.check_weights.Goals as goal

-- a map is there
has_map : (map : Option (Bor (List ℕ))) → is_some map ≡ mapped map
has_map None = refl
has_map (Some map) = refl

eight : (map : Option (Bor (List ℕ))) {b : Bool} → b ≡ is_some map → refusal 8 b ≡ refusal 8 (mapped map)
eight map e = ap (refusal 8) (e ∙ has_map map)

pub returns-in_err-check : goal.returns-in_err-check
unfolding weights_refusal
returns-in_err-check c = stops _ _ _ _ c.from_residual.ensures.1 (stands _ _ _ (stands _ _ _ (stands _ _ _ c.in_err-check.ensures)))

pub returns-in_err-when : goal.returns-in_err-when
unfolding weights_refusal
returns-in_err-when c =
    stops _ _ _ _ c.from_residual-in_err-when.ensures.1
    (stands _ _ _ (stands _ _ _ (goes_on _ _ _ c.in_ok-check.ensures (c.in_err-when.ensures ∙ eight _ c.is_some.ensures))))

pub returns-in_err-when-2 : goal.returns-in_err-when-2
unfolding weights_refusal
returns-in_err-when-2 c =
    stops _ _ _ _ c.from_residual-in_err-when-2.ensures.1
    (stands _ _ _ (goes_on _ _ _ (goes_on _ _ _ c.in_ok-check.ensures (c.in_ok-when.ensures ∙ eight _ c.is_some.ensures)) c.in_err-when-2.ensures))

pub returns-in_err-when-3 : goal.returns-in_err-when-3
unfolding weights_refusal
returns-in_err-when-3 c =
    stops _ _ _ _ c.from_residual-in_err-when-3.ensures.1
    (goes_on _ _ _ (goes_on _ _ _ (goes_on _ _ _ c.in_ok-check.ensures (c.in_ok-when.ensures ∙ eight _ c.is_some.ensures)) c.in_ok-when-2.ensures)
    c.in_err-when-3.ensures)

pub returns : goal.returns
unfolding weights_refusal
returns c =
    goes_on _ _ _ (goes_on _ _ _ (goes_on _ _ _ (goes_on _ _ _ c.in_ok-check.ensures (c.in_ok-when.ensures ∙ eight _ c.is_some.ensures)) c.in_ok-when-2.ensures)
    c.in_ok-when-3.ensures) (c.when-4.ensures ∙ rw c.len.ensures)
