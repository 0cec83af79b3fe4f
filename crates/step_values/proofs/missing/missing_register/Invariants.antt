use Rattle.std.proofs.Common.{◌≡◌, drop, zip}
use Rattle.predicates.specs.Holding.{holds_term}
use Rattle.predicates.specs.Missing.{missing_from, missing_register}
use Rattle.step_values.proofs.missing.missing_register.Given as goal

abbrev pub invariant-loop-number : goal.invariant-loop-number
invariant-loop-number l =
    missing_from (λ x. holds_term x.0 x.1) l.number (zip (drop l.number l.held) (drop l.number l.wanted)) ≡ missing_register l.held l.wanted
