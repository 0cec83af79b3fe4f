use Rattle.std.proofs.Common.{◌≡◌, Some, Err, rules}
use Rattle.graph_lines.specs.Words.{split_at}
use Rattle.graph_text.proofs.RunLemmas.{headless_refused, head_refused, head_read, found_whole}
use Rattle.graph_text.proofs.TextLemmas.{graph_only}
use Rattle.graph_text.proofs.read.read_graph.Goals as goal

pub returns-in_default-clause-exact : goal.returns-in_default-clause-exact
returns-in_default-clause-exact c = search (rules, headless_refused)

pub returns-in-Ok-clause-exact : goal.returns-in-Ok-clause-exact
returns-in-Ok-clause-exact c =
    let parted : split_at 10 c.args.text.now ≡ Some (c.in-Some.head.now, c.in-Some.rest.now) = search rules in
    head_read c.read_lines.result c.args.text.now c.in-Some.head.now c.in-Some.rest.now parted c.in-Ok.ensures.exact c.read_lines.ensures.exact

pub returns-in-Ok-clause-found : goal.returns-in-Ok-clause-found
returns-in-Ok-clause-found c =
    let parted : split_at 10 c.args.text.now ≡ Some (c.in-Some.head.now, c.in-Some.rest.now) = search rules in
    found_whole c.read_lines.result c.args.text.now c.in-Some.head.now c.in-Some.rest.now parted c.in-Ok.ensures.found c.read_lines.ensures.found

pub returns-in-Ok-clause-only : goal.returns-in-Ok-clause-only
returns-in-Ok-clause-only c =
    graph_only c.builder_laws.ensures.builds c.builder_laws.ensures.short c.read_lines.result c.args.text.now (returns-in-Ok-clause-exact c)

pub returns-in-Err-clause-exact : goal.returns-in-Err-clause-exact
returns-in-Err-clause-exact c = search (rules, head_refused)

pub returns-in-Err-clause-only : goal.returns-in-Err-clause-only
returns-in-Err-clause-only c =
    graph_only c.builder_laws.ensures.builds c.builder_laws.ensures.short (Err c.refusal_at-in-Err.result) c.args.text.now (returns-in-Err-clause-exact c)
