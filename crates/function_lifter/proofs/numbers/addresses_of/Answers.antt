use Rattle.std.proofs.Common.{◌≡◌, ◌∙◌, arith, length}
use Rattle.function_lifter.proofs.AddressLemmas.{are_addresses}
use Rattle.function_lifter.proofs.numbers.addresses_of.Goals as goal

pub returns : goal.returns
returns c =
    let end = c.loop-vertex.auto.vertex-end in
    let past = c.loop-vertex-test.false in
    let long = c.len-vertex-end.ensures in
    are_addresses c.args.graph.now c.loop-vertex.vertex c.loop-vertex.addresses.items c.sort_unstable.new.self.items c.dedup.new.self.items
    (omega (arith, end, past, long)) c.loop-vertex.invariant c.sort_unstable.ensures.permutation c.sort_unstable.ensures.sorted c.dedup.ensures.filtered
