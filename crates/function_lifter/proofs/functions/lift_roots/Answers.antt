use Rattle.std.proofs.Common.{◌≡◌, ◌∙◌, ap, [], List, ℕ}
use Rattle.std.specs.BTreeMap.{BTreeMap}
use Rattle.graph_data.specs.declared.graph.Function.{Function}
use Rattle.function_lifter.proofs.TaskLemmas.{none_done}
use Rattle.function_lifter.proofs.functions.lift_roots.Goals as goal

pub returns-clause-task : goal.returns-clause-task
returns-clause-task c =
    let empty : c.add_roots.new.task.done.entries ≡ [] = ap {A = BTreeMap ℕ Function} (λ m. m.entries) c.in_ok-add_roots.ensures.done ∙ c.new.ensures.empty in
    c.in_ok-lift_waiting.ensures.task (none_done c.args.image.now c.args.externs.now c.add_roots.new.task empty)
