use Rattle.std.proofs.Common.{◌≡◌, ◌++◌, drop}
use Rattle.lift_rounds_tests.specs.Toy.{cases_after}
use Rattle.lift_rounds_tests.proofs.toy.cases_of_ways.Given as goal

abbrev pub invariant-loop-way : goal.invariant-loop-way
invariant-loop-way l = l.cases.items ++ cases_after (drop l.way-index l.ways) l.address l.pred ≡ cases_after l.ways l.address l.pred
