-- How means and sums of products move, as variance, covariance and correlation share it: (17) and (23) of Schubert and Gertz, every
-- operation rounded once in the source's order. Assumes nothing.
use Rattle.std.specs.Prelude.{Float}
use Rattle.float.specs.Operators.{◌⊕◌, ◌⊖◌, ◌⊗◌, ◌⊘◌}

-- the mean of a part of weight w and another of weight v and mean x: it moves towards x by the other's share of the weight
abbrev pub mean_with : Float → Float → Float → Float → Float
mean_with w mean v x = mean ⊕ (x ⊖ mean) ⊗ (v ⊘ (w ⊕ v))

-- the sum of products of both parts: dx is how far the other's mean is from the new one, dy how far from the old
abbrev pub products_with : Float → Float → Float → Float → Float → Float
products_with dp other v dx dy = dp ⊕ (other ⊕ v ⊗ dx ⊗ dy)
