use Rattle.std.proofs.Common.{◌≡◌, drop}
use Rattle.bank_values.specs.Numbered.{level}
use Rattle.bank_values.specs.Weaken.{number_sibling}
use Rattle.bank_values.proofs.weakening.find_sibling.Given as goal

abbrev pub invariant-loop-node : goal.invariant-loop-node
invariant-loop-node l = number_sibling l.at l.bytes (level (drop l.node-index l.nodes)) ≡ number_sibling l.at l.bytes (level l.nodes)
