-- By the three ends of the places that leave. Assumes nothing.
use Rattle.std.proofs.Common.{arith}
use Rattle.window.proofs.Moves.{trim-reset, trim-stay, trim-flip}
use Rattle.rolling.proofs.leaving.trimmed.Goals as goal

pub returns-then-end-start : goal.returns-then-end-start
returns-then-end-start c = λ t n h f. rw c.empty_at.ensures (trim-reset t _ _ c.if-end-start.true)

pub overflow_sub-result-then-leaving-w : goal.overflow_sub-result-then-leaving-w
overflow_sub-result-then-leaving-w c = (c.requires c.if-end-start.false).1

pub returns-then-leaving-w : goal.returns-then-leaving-w
returns-then-leaving-w c =
    let g = c.if-end-start.false in
    λ t n h f. trim-stay t _ _ n h g _ _ (f g).valid-is (f g).nonfinite_is c.if-leaving-w.true

pub overflow_add-result : goal.overflow_add-result
overflow_add-result c =
    let p = c.requires c.if-end-start.false in
    omega (arith, c)

pub overflow_sub-result-2 : goal.overflow_sub-result-2
overflow_sub-result-2 c = (c.requires c.if-end-start.false).0

pub overflow_sub-result-3 : goal.overflow_sub-result-3
overflow_sub-result-3 c = (c.requires c.if-end-start.false).1

pub returns : goal.returns
returns c =
    let g = c.if-end-start.false in
    λ t n h f. trim-flip t _ _ n h g _ _ (f g).valid-is (f g).nonfinite_is c.if-leaving-w.false
