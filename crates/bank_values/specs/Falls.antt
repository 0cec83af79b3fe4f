-- What makes recursion down a forest end: each node has more nodes than one under it.
use Rattle.std.specs.Prelude.{◌+◌, ◌≤◌, List, [], ◌∷◌}
use Rattle.std.proofs.Common.{arith}
use denote.Param.Weighed.{most}
use Rattle.bank_values.specs.Numbered.{NumberNode, level, count}

-- a level has at least the nodes of its largest node
pub most_le-count : (cs : List NumberNode) → most (λ c. (count c.under + 1) + 1) cs ≤ count (level cs) + 1
most_le-count [] = omega arith
most_le-count (c ∷ cs) = omega (arith, most_le-count cs)
