-- By each test; the bounds of a call that is accepted are a plan in order. Assumes nothing.
use Rattle.std.proofs.Common.{◌≡◌, sym, ◌∙◌}
use Rattle.plan.specs.Refusals.{fixed_refusal}
use Rattle.plan.proofs.FixedWindows.{fixed-accepted}
use Rattle.plan.proofs.fixed_refusal.Goals as goal

pub returns : goal.returns
unfolding fixed_refusal
returns c =
    let is : c.first-2.result ≡ fixed_refusal c.args.given c.args.n c.args.windows.window_size c.args.outputs c.args.width c.args.work =
    c.first-2.ensures ∙ rw (c.first.ensures, c.refuse-outputs.ensures, c.refuse-work.ensures, c.is_too_little.ensures, c.min-widest.ensures) in
    record {
      number_is = is;
      wide_is = c.min-widest.ensures;
      accepted = λ z center. rw c.min-widest.ensures (fixed-accepted center _ _ _ _ _ _ (sym is ∙ z));
    }
