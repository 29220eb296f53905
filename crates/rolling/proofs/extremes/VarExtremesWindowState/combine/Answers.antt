-- The count tells whether the other weight is zero. Assumes nothing.
use Rattle.std.proofs.Common.{◌≡◌, sym, ◌∙◌, ne_eqb}
use Rattle.moment.specs.Var.{var_combine}
use Rattle.moment.proofs.Weights.{var_by_counts}
use Rattle.rolling.proofs.extremes.VarExtremesWindowState.combine.Goals.{then-m-eq0, else-m-eq0}
use Rattle.rolling.proofs.extremes.VarExtremesWindowState.combine.Goals as goal

pub returns : goal.returns
returns c =
    let q = c.requires in
    let by = var_by_counts c.args.self.var c.args.other.var _ c.args.m q.few q.counted q.other_counted in
    let e : c.if-m-eq0.result ≡ var_combine c.args.self.var c.args.other.var =
    elim c.if-m-eq0.branch [
      | then-m-eq0 w ↦ w.result-is ∙ sym (by ∙ rw w.if-m-eq0.true)
      | else-m-eq0 w ↦ w.result-is ∙ w.merged.ensures ∙ sym (by ∙ rw (ne_eqb _ _ w.if-m-eq0.false))
    ] in
    rw (e, c.lower_of.ensures, c.higher_of.ensures)
