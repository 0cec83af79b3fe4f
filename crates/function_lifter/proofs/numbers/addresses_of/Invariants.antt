use Rattle.std.proofs.Common.{◌≡◌}
use Rattle.function_lifter.proofs.AddressLemmas.{addresses_below}
use Rattle.function_lifter.proofs.numbers.addresses_of.Given as goal

abbrev pub invariant-loop-vertex : goal.invariant-loop-vertex
invariant-loop-vertex l = l.addresses.items ≡ addresses_below l.graph.keys.items l.vertex
