use Rattle.std.proofs.Common.{◌∙◌, ap}
use Rattle.edge_checker.specs.Breaks.{verdict_from}
use Rattle.edge_checker.proofs.VerdictLemmas.{exact, valid, safe}
use Rattle.edge_checker.proofs.checking.check.Goals as goal

pub returns-clause-exact : goal.returns-clause-exact
returns-clause-exact c =
    exact c.instr_at_laws.ensures.found c.args.image.now c.verdict_from.result c.args.g.now c.requires.graph (c.verdict_from.ensures ∙ ap verdict_from c.in_ok-first_break.ensures)

pub returns-clause-valid : goal.returns-clause-valid
returns-clause-valid c =
    valid c.instr_at_laws.ensures.found c.args.image.now c.verdict_from.result c.args.g.now c.requires.graph (c.verdict_from.ensures ∙ ap verdict_from c.in_ok-first_break.ensures)

pub returns-clause-safe : goal.returns-clause-safe
returns-clause-safe c =
    safe c.instr_at_laws.ensures.found c.args.image.now c.verdict_from.result c.args.g.now c.requires.graph (c.verdict_from.ensures ∙ ap verdict_from c.in_ok-first_break.ensures)
    c.runs_are_safe.ensures c.segments.ensures.ascending
