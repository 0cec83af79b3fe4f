use Rattle.std.proofs.Common.{◌≡◌, drop}
use Rattle.predicates.specs.Holding.{holds_bound}
use Rattle.predicates.specs.Missing.{missing_from, missing_bound}
use Rattle.predicates.proofs.entail.missing_bound.Given as goal

abbrev pub invariant-loop-bound : goal.invariant-loop-bound
invariant-loop-bound l = record {
  at : l.place ≡ l.bound-index;
  rest : missing_from (holds_bound l.held) l.place (drop l.bound-index l.wanted) ≡ missing_bound l.held l.wanted;
}
