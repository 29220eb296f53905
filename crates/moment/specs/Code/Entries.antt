-- Readings and pairs as entries of a list: the sums and means of pairs, member by member. Assumes nothing.
use Rattle.std.specs.Prelude.{Float}
use Rattle.float.specs.Operators.{◌⊕◌, ◌⊗◌, ◌⊘◌, one64}

-- the sum of two pairs
abbrev pub pair_sum : Float × Float → Float × Float → Float × Float
pair_sum p q = (p.0 ⊕ q.0, p.1 ⊕ q.1)

-- the means of pairs with a sum and a weight: the sum of each member, times one over the weight
abbrev pub pair_means : Float × Float → Float → Float × Float
pair_means sum weight = (sum.0 ⊗ (one64 ⊘ weight), sum.1 ⊗ (one64 ⊘ weight))
