-- By the check. Assumes nothing.
use Rattle.moment.proofs.Answers.{answer_refused, answer_state}
use Rattle.moment.proofs.of_pair.Goals as goal

pub returns-in_err-check : goal.returns-in_err-check
returns-in_err-check g c = answer_refused _ _ _ _ c.from_residual.ensures.1 c.in_err-check.ensures

pub returns : goal.returns
returns g c = answer_state _ _ _ c.in_ok-check.ensures c.whole.ensures
