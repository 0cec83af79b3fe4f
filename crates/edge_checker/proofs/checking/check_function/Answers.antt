use Rattle.std.proofs.Common.{◌∙◌, ap}
use Rattle.edge_checker.specs.Breaks.{verdict_from}
use Rattle.edge_checker.proofs.VerdictLemmas.{function_exact, function_valid, function_safe}
use Rattle.edge_checker.proofs.checking.check_function.Goals as goal

pub returns-clause-exact : goal.returns-clause-exact
returns-clause-exact c =
    function_exact c.instr_at_laws.ensures.found c.args.image.now c.verdict_from.result c.args.f.now c.requires.function c.args.entries.now
    (c.verdict_from.ensures ∙ ap verdict_from c.in_ok-function_break.ensures)

pub returns-clause-valid : goal.returns-clause-valid
returns-clause-valid c =
    function_valid c.instr_at_laws.ensures.found c.args.image.now c.verdict_from.result c.args.f.now c.requires.function c.args.entries.now
    (c.verdict_from.ensures ∙ ap verdict_from c.in_ok-function_break.ensures)

pub returns-clause-safe : goal.returns-clause-safe
returns-clause-safe c =
    function_safe c.instr_at_laws.ensures.found c.args.image.now c.verdict_from.result c.args.f.now c.requires.function c.args.entries.now
    (c.verdict_from.ensures ∙ ap verdict_from c.in_ok-function_break.ensures) c.runs_are_safe.ensures c.segments.ensures.ascending
