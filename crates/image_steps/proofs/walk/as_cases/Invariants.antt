use Rattle.std.proofs.Common.{◌≡◌, map}
use Rattle.image_steps.proofs.CaseLemmas.{as_case}
use Rattle.image_steps.proofs.walk.as_cases.Given as goal

abbrev pub invariant-loop-address : goal.invariant-loop-address
invariant-loop-address l = l.cases.items ≡ map as_case l.yielded
