-- By each check; of two tests, the second counts where the first fails. Assumes nothing.
use Rattle.std.proofs.Common.{◌≡◌, ◌∙◌, sym, ap}
use Rattle.std.specs.Prelude.{◌||◌}
use borrow.Author.Tests.{lt-ltb, le-ltb}
use Rattle.trace.specs.Refusals.{refusal, too_many, wrong_map}
use Rattle.trace.specs.Lent.{mapped, bytes_of}
use Rattle.trace.proofs.Checks.{first_holds, second_tells, stands, stops, goes_on}
use Rattle.trace.proofs.check_pair.Goals as goal
use Rattle.trace.proofs.check_pair.Goals.{then-x_len-gt-MAX_READINGS, else-x_len-gt-MAX_READINGS, then-is_too_short, else-is_too_short}

pub returns-in_err-when : goal.returns-in_err-when
returns-in_err-when c =
    let many : c.if-x_len-gt-MAX_READINGS.when ≡ (too_many c.args.x_len || too_many c.args.y_len) =
    elim c.if-x_len-gt-MAX_READINGS.branch [
      | then-x_len-gt-MAX_READINGS w ↦ first_holds _ _ _ (lt-ltb _ _ w.if-x_len-gt-MAX_READINGS.true) w.when-is
      | else-x_len-gt-MAX_READINGS w ↦ second_tells _ _ _ (le-ltb _ _ w.if-x_len-gt-MAX_READINGS.false) w.when-is
    ] in
    stops _ _ _ _ c.from_residual.ensures.1 (stands _ _ _ (c.in_err-when.ensures ∙ ap (λ t. refusal 1 t) many))

pub returns-in_err-when-2 : goal.returns-in_err-when-2
returns-in_err-when-2 c =
    let many : c.if-x_len-gt-MAX_READINGS.when ≡ (too_many c.args.x_len || too_many c.args.y_len) =
    elim c.if-x_len-gt-MAX_READINGS.branch [
      | then-x_len-gt-MAX_READINGS w ↦ first_holds _ _ _ (lt-ltb _ _ w.if-x_len-gt-MAX_READINGS.true) w.when-is
      | else-x_len-gt-MAX_READINGS w ↦ second_tells _ _ _ (le-ltb _ _ w.if-x_len-gt-MAX_READINGS.false) w.when-is
    ] in
    stops _ _ _ _ c.from_residual-in_err-when-2.ensures.1
    (goes_on _ _ _ (c.in_ok-when.ensures ∙ ap (λ t. refusal 1 t) many) c.in_err-when-2.ensures)

pub returns : goal.returns
returns c =
    let many : c.if-x_len-gt-MAX_READINGS.when ≡ (too_many c.args.x_len || too_many c.args.y_len) =
    elim c.if-x_len-gt-MAX_READINGS.branch [
      | then-x_len-gt-MAX_READINGS w ↦ first_holds _ _ _ (lt-ltb _ _ w.if-x_len-gt-MAX_READINGS.true) w.when-is
      | else-x_len-gt-MAX_READINGS w ↦ second_tells _ _ _ (le-ltb _ _ w.if-x_len-gt-MAX_READINGS.false) w.when-is
    ] in
    let short : c.if-is_too_short.when ≡ (wrong_map c.args.x_len (mapped c.args.x_map) (bytes_of c.args.x_map)
    || wrong_map c.args.y_len (mapped c.args.y_map) (bytes_of c.args.y_map)) =
    elim c.if-is_too_short.branch [
      | then-is_too_short w ↦ first_holds _ _ _ (sym c.is_too_short.ensures ∙ w.if-is_too_short.true) (w.when-is ∙ c.is_too_short.ensures)
      | else-is_too_short w ↦
          second_tells _ _ _ (sym c.is_too_short.ensures ∙ w.if-is_too_short.false) (w.when-is ∙ w.is_too_short-else-is_too_short.ensures)
    ] in
    goes_on _ _ _ (goes_on _ _ _ (c.in_ok-when.ensures ∙ ap (λ t. refusal 1 t) many) c.in_ok-when-2.ensures)
    (c.when-3.ensures ∙ ap (λ t. refusal 3 t) short)
