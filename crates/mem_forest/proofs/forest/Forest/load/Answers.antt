use Rattle.std.proofs.Common.{◌≡◌, Some, sym, ap, ap₂, subst, ◌∙◌}
use Rattle.std.specs.Prelude.{is_some}
use Rattle.memory_regions.specs.Relate.{relate}
use Rattle.memory_regions.specs.Context.{known}
use Rattle.mem_forest.specs.Plain.{PlainForest, cells}
use Rattle.mem_forest.specs.Search.{find, found, value_at}
use Rattle.mem_forest.specs.Shape.{IsForest}
use Rattle.mem_forest.specs.Levels.{value_if}
use Rattle.mem_forest.specs.Load.{named}
use Rattle.mem_forest.proofs.SearchLemmas.{copied_some}
use Rattle.mem_forest.proofs.LoadLemmas.{named_forest, named_value, is_some-find}
use Rattle.mem_forest.proofs.forest.Forest.load.Goals as goal

pub invariant_of-self-2 : goal.invariant_of-self-2
invariant_of-self-2 c =
    let P : PlainForest → Type 0 = λ f. IsForest f in
    let at = c.args.region.now.at in
    let a = c.args.region.now.bytes in
    subst P (sym c.in_ok-name_value.ensures.ok) (named_forest (relate (known c.args.context.now) at a) at a c.in-Some-name.name.now (cells c.self.inside.nodes.items) c.requires c.self.invariant)

pub returns-clause-value : goal.returns-clause-value
returns-clause-value c =
    let at = c.args.region.now.at in
    let a = c.args.region.now.bytes in
    let rel = relate (known c.args.context.now) at a in
    let name = c.in-Some-name.name.now in
    let g = cells c.name_value.new.nodes.items in
    let is_answer : c.answer_if.result ≡ value_if c.is_some-is_named.result (Some c.in_ok-answer.answer) = c.answer_if.ensures in
    let is_name : c.in_ok-answer.answer ≡ name = c.in_ok-answer.ensures in
    let there : c.is_some-is_named.result ≡ found at a g =
    c.is_some-is_named.ensures ∙ copied_some c.find_node.result _ c.find_node.ensures ∙ ap (λ ns. is_some (find at a (cells ns))) c.as_slice-2.ensures.value ∙ is_some-find at a g in
    let is_named : g ≡ named rel at a name (cells c.self.inside.nodes.items) = c.in_ok-name_value.ensures.ok in
    let Q : PlainForest → Type 0 = λ f. value_at at a f ≡ value_if (found at a f) (Some name) in
    let value = subst Q (sym is_named) (named_value at a rel name (cells c.self.inside.nodes.items)) in
    is_answer ∙ ap₂ value_if there (ap Some is_name) ∙ sym value
