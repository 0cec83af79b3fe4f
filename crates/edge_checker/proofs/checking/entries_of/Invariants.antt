use Rattle.std.proofs.Common.{◌≡◌, ◌++◌, drop}
use Rattle.edge_checker.specs.Decisions.{entries_in, entries_of}
use Rattle.edge_checker.proofs.checking.entries_of.Given as goal

abbrev pub invariant-loop-function : goal.invariant-loop-function
invariant-loop-function l = l.entries.items ++ entries_in (drop l.function-index l.g.functions) ≡ entries_of l.g
