use Rattle.std.proofs.Common.{◌≡◌, ◌<◌, ◌+◌, ◌^◌, ◌++◌, drop}
use Rattle.std.specs.List.{All}
use Rattle.lift_graph.specs.Links.{keys_after}
use Rattle.lift_graph.proofs.links.keys_of.Given as goal

abbrev pub invariant-loop-case : goal.invariant-loop-case
invariant-loop-case l =
    record {
      keys : l.keys.items ++ keys_after l.forks l.tag l.case (drop l.case l.addresses) ≡ keys_after l.forks l.tag 0 l.addresses;
      tagged : All (λ k. (0 < k.tag) × (k.tag + 1 < 2 ^ 64)) l.keys.items;
    }
