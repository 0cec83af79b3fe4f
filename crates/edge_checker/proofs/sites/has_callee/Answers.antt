use Rattle.std.proofs.Common.{sym, ◌∙◌, ap}
use Rattle.graph_verdict.specs.declared.verdict.Rule.{Rule}
use Rattle.edge_checker.specs.Breaks.{unless, callee_rules}
use Rattle.edge_checker.proofs.CalleeLemmas.{searched}
use Rattle.edge_checker.proofs.sites.has_callee.Goals as goal

pub returns-in-Call : goal.returns-in-Call
returns-in-Call c =
    let found = searched c.in-Call.target c.args.entries.now c.binary_search.result c.requires c.binary_search.ensures.bound c.binary_search.ensures.position in
    ap (callee_rules c.args.entries.now) c.in-Call.is ∙ ap (λ b. unless b Rule.Callee) (found ∙ sym c.is_ok.ensures.value)
