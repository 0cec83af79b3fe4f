use Rattle.std.proofs.Common.{◌≡◌, map, take}
use Rattle.bank_values.specs.ReadBack.{node_at}
use Rattle.bank_values.proofs.reading.+reading.Given as goal

abbrev pub invariant-read_nodes-loop-node : goal.invariant-read_nodes-loop-node
invariant-read_nodes-loop-node g l = l.out.items ≡ map (node_at (g.B.Bank.terms l.bank)) (take l.node-index l.nodes)
