-- By each check. Assumes nothing.
use Rattle.std.proofs.Common.{◌∙◌, ap}
use Rattle.trace.proofs.Checks.{stops, goes_on}
use Rattle.trace.specs.Refusals.{refusal}
use Rattle.trace.proofs.check_range.Goals as goal

pub returns-in_err-check_array : goal.returns-in_err-check_array
returns-in_err-check_array c = stops _ _ _ _ c.from_residual.ensures.1 c.in_err-check_array.ensures

pub returns : goal.returns
returns c = goes_on _ _ _ c.in_ok-check_array.ensures (c.when.ensures ∙ ap (λ t. refusal 11 t) c.past.ensures)
