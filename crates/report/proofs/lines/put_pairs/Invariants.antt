-- The lines of the pairs so far are written.
use Rattle.std.proofs.Common.{◌≡◌, ◌++◌, take}
use Rattle.std.specs.List.{flat_map}
use Rattle.report.specs.Text.{pair_line}
use Rattle.report.proofs.lines.put_pairs.Given as goal

abbrev pub invariant-loop-pair : goal.invariant-loop-pair
invariant-loop-pair l =
    l.out.items ≡ l.initial.out.items ++ flat_map (pair_line l.word l.addr) (take l.pair-index l.pairs)
