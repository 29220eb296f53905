-- The counts tell which weights are zero. Assumes nothing.
use Rattle.std.proofs.Common.{◌≡◌, ℕ, cond, eqb, ◌∙◌, arith, ne_eqb}
use Rattle.float.specs.Operators.{of_nat64}
use Rattle.moment.specs.declared.skew_state.SkewState.{SkewState}
use Rattle.moment.specs.Skew.{skew_merge, skew_combine}
use Rattle.moment.proofs.Weights.{skew_by_counts, skew_merged_lem}
use Rattle.rolling.specs.Code.Ops.{CanMerge}
use Rattle.rolling.proofs.skew.SkewStateWindowState.combine.Goals as goal

told : (s o : SkewState) (n m : ℕ) → CanMerge (λ z k. z.weight ≡ of_nat64 k) s n o m
    → skew_combine s o ≡ cond (eqb m 0) s (cond (eqb n 0) o (skew_merge s o))
told s o n m q = let h = q.few in skew_by_counts s o n m (omega arith) (omega arith) q.counted q.other_counted

pub returns-then-m-eq0 : goal.returns-then-m-eq0
returns-then-m-eq0 c = rw (told _ _ _ _ c.requires, c.if-m-eq0.true)

pub returns-then-n-eq0 : goal.returns-then-n-eq0
returns-then-n-eq0 c = rw (told _ _ _ _ c.requires, ne_eqb _ _ c.if-m-eq0.false, c.if-n-eq0.true)

pub returns : goal.returns
returns c =
    let q = c.requires in
    let h = q.few in
    let f = c.if-m-eq0.false in
    let e = skew_merged_lem _ _ c.args.n c.args.m (omega arith) (omega arith) q.few (omega arith) q.counted q.other_counted in
    rw (told _ _ _ _ q, ne_eqb _ _ f, ne_eqb _ _ c.if-n-eq0.false) (c.merged.ensures ∙ e)
