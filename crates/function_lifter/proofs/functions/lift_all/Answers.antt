use Rattle.std.proofs.Common.{subst, All}
use Rattle.std.specs.Prelude.{IsSome}
use Rattle.graph_data.specs.Lookup.{function_at}
use Rattle.function_lifter.proofs.WholeLemmas.{whole_formed, whole_valid, whole_roots, whole_of_entry, whole_exact}
use Rattle.function_lifter.proofs.functions.lift_all.Goals as goal

pub returns-clause-formed : goal.returns-clause-formed
returns-clause-formed c =
    let t = c.in_ok-task.ensures in
    whole_formed c.args.image.now _ c.in_ok-task.task t.task t.none c.in_ok-graph.ensures.ordered c.in_ok-graph.graph c.in_ok-graph.ensures.functions

pub returns-clause-valid : goal.returns-clause-valid
returns-clause-valid c =
    let t = c.in_ok-task.ensures in
    whole_valid c.args.image.now _ c.in_ok-task.task t.task t.none c.in_ok-graph.ensures.ordered c.in_ok-graph.graph c.in_ok-graph.ensures.functions

pub returns-clause-roots : goal.returns-clause-roots
returns-clause-roots c =
    let t = c.in_ok-task.ensures in
    subst (λ roots. All (λ root. IsSome (function_at c.in_ok-graph.graph root)) roots) c.as_slice-2.ensures
    (whole_roots c.args.image.now _ c.in_ok-task.task t.task t.none c.in_ok-graph.ensures.ordered c.in_ok-graph.graph c.in_ok-graph.ensures.functions c.as_slice-2.result.now t.pending)

pub returns-clause-refused : goal.returns-clause-refused
returns-clause-refused c =
    let t = c.in_ok-task.ensures in
    whole_of_entry c.args.image.now _ c.in_ok-task.task t.task t.none c.in_ok-graph.ensures.ordered c.in_ok-graph.graph c.in_ok-graph.ensures.functions

pub returns-clause-exact : goal.returns-clause-exact
returns-clause-exact c =
    let t = c.in_ok-task.ensures in
    whole_exact c.args.image.now _ c.in_ok-task.task t.task t.none c.in_ok-graph.ensures.ordered c.in_ok-graph.graph c.in_ok-graph.ensures.functions
