use Rattle.std.proofs.Common.{take}
use Rattle.bank_values.specs.ReadBack.{node_at, IsNodeBelow}
use Rattle.bank_values.proofs.GrowLemmas.{Put}
use Rattle.bank_values.proofs.putting.+putting.Given as goal

abbrev pub invariant-put_nodes-loop-node : goal.invariant-put_nodes-loop-node
invariant-put_nodes-loop-node g l =
    Put node_at IsNodeBelow (g.B.Bank.terms l.initial.bank) (g.B.Bank.terms l.bank) l.out.items (take l.node-index l.nodes)
