use Rattle.std.proofs.Common.{◌≡◌, ◌+◌, ◌-◌}
use Rattle.jump_tables.specs.Table.{entries}
use Rattle.jump_tables.proofs.EntryLemmas.{after}
use Rattle.jump_tables.proofs.table.Table.entries.Given as goal

-- the entries are those so far, and the rest after them
abbrev pub invariant-loop-k : goal.invariant-loop-k
invariant-loop-k l =
    entries l.image l.self l.low (l.high + 1 - l.low)
    ≡ after l.numbers.items (entries l.image l.self (l.low + l.k) (l.high + 1 - l.low - l.k))
