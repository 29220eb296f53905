-- By each check. Assumes nothing.
use Rattle.trace.proofs.Checks.{stops, goes_on}
use Rattle.std.proofs.Common.{◌∙◌, ap}
use Rattle.trace.specs.Refusals.{refusal}
use Rattle.trace.proofs.check_array.Goals as goal

pub returns-in_err-when : goal.returns-in_err-when
returns-in_err-when c = stops _ _ _ _ c.from_residual.ensures.1 c.in_err-when.ensures

pub returns : goal.returns
returns c = goes_on _ _ _ c.in_ok-when.ensures (c.when-2.ensures ∙ ap (λ t. refusal 3 t) c.is_too_short.ensures)
