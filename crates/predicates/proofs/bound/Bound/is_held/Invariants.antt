use Rattle.std.proofs.Common.{◌≡◌, drop}
use Rattle.predicates.specs.Holding.{holds_bound}
use Rattle.predicates.proofs.bound.Bound.is_held.Given as goal

abbrev pub invariant-loop-bound : goal.invariant-loop-bound
invariant-loop-bound l = holds_bound (drop l.bound-index l.held) l.self ≡ holds_bound l.held l.self
