use Rattle.std.proofs.Common.{◌≡◌, take}
use Rattle.bank_values.proofs.node.+copying.Given as goal

abbrev pub invariant-copy_nodes-loop-node : goal.invariant-copy_nodes-loop-node
invariant-copy_nodes-loop-node l = l.copies.items ≡ take l.node-index l.nodes
