use Rattle.decode_bench.proofs.SweepLemmas.{Swept}
use Rattle.decode_bench.proofs.listing.count_instructions.Given as goal

abbrev pub invariant-loop-at : goal.invariant-loop-at
invariant-loop-at l = Swept l.code l.at l.next l.count
