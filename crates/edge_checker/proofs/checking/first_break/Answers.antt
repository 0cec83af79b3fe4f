use Rattle.std.proofs.Common.{List, ℕ, sym, ◌∙◌, ap, subst}
use Rattle.instr_at.specs.At.{instr_at}
use Rattle.graph_data.specs.Parts.{Ascends}
use Rattle.edge_checker.specs.Decisions.{entries_of}
use Rattle.edge_checker.specs.Breaks.{first, function_breaks}
use Rattle.edge_checker.proofs.CalleeLemmas.{entries_ascend}
use Rattle.edge_checker.proofs.FirstLemmas.{starts, stops, goes_on, ends}
use Rattle.edge_checker.proofs.checking.first_break.Goals as goal

pub loop-function-init : goal.loop-function-init
loop-function-init c = starts (function_breaks c.args.image.now (instr_at c.args.image.now) (entries_of c.args.g.now)) c.args.g.now.functions

pub function_break-requires-clause-entries : goal.function_break-requires-clause-entries
function_break-requires-clause-entries c = subst Ascends (sym (c.as_slice.ensures.value ∙ c.in_ok-entries.ensures)) (entries_ascend c.args.g.now c.requires)

pub returns-then-is_some : goal.returns-then-is_some
returns-then-is_some c =
    let same = c.as_slice.ensures.value ∙ c.in_ok-entries.ensures in
    stops c.loop-function.invariant c.as_slice-function-items.ensures c.loop-function-test.true c.function-item.is
    (c.in_ok-broken.ensures ∙ ap (λ (es : List ℕ). first (function_breaks c.args.image.now (instr_at c.args.image.now) es c.function-item.result)) same) c.is_some.ensures c.if-is_some.true

pub loop-function-preserved : goal.loop-function-preserved
loop-function-preserved c =
    let same = c.as_slice.ensures.value ∙ c.in_ok-entries.ensures in
    goes_on c.loop-function.invariant c.as_slice-function-items.ensures c.loop-function-test.true c.function-item.is
    (c.in_ok-broken.ensures ∙ ap (λ (es : List ℕ). first (function_breaks c.args.image.now (instr_at c.args.image.now) es c.function-item.result)) same) c.is_some.ensures c.if-is_some.false

pub returns : goal.returns
returns c = ends c.loop-function.invariant c.as_slice-function-items.ensures c.loop-function-test.false
