-- The name is one of a table's numbers, and the jump leads to it.
use Rattle.std.proofs.Common.{Some, ap}
use Rattle.std.specs.Option.{option_map}
use Rattle.std.specs.Vec.{vec_items}
use Rattle.step_values.specs.Views.{view_of}
use Rattle.sym_step.proofs.JumpLemmas.{by_targets}
use Rattle.sym_step.proofs.jumps.jumped.Goals as goal

pub returns-in_ok-name-in-Some : goal.returns-in_ok-name-in-Some
returns-in_ok-name-in-Some c =
    rw c.in-Some.is
    (by_targets (option_map vec_items) _ (view_of c.args.v.now) _ _ _ _ c.in_ok-with_values-in-Some.ensures (ap (λ t. Some t) c.in_ok-name-in-Some.ensures) c.jump_targets.ensures)
