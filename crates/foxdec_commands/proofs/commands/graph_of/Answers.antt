use Rattle.foxdec_commands.proofs.FileLemmas.{true_not_false}
use Rattle.foxdec_commands.proofs.GraphLemmas.{read_graph, read_refused}
use Rattle.foxdec_commands.proofs.commands.graph_of.Goals as goal

pub returns-in-Ok-clause-found : goal.returns-in-Ok-clause-found
returns-in-Ok-clause-found c =
    read_graph c.args.name.now c.args.bytes.now c.requires c.in-Ok.g c.in-Ok.ensures.found c.in-Ok.ensures.only c.in-Ok.ensures.exact

pub returns-in-Err-2-clause-err : goal.returns-in-Err-2-clause-err
returns-in-Err-2-clause-err c =
    read_refused c.args.name.now c.args.bytes.now c.requires c.in-Err.refusal
    (λ none. true_not_false c.eq.result (rw none at c.eq.ensures) c.if-eq.false) c.in-Err.ensures.only c.in-Err.ensures.exact
