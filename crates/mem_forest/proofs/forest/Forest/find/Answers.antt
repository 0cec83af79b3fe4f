use Rattle.std.proofs.Common.{sym, ap, ◌∙◌}
use Rattle.std.specs.Prelude.{is_some}
use Rattle.mem_forest.specs.Plain.{cells}
use Rattle.mem_forest.specs.Search.{find}
use Rattle.mem_forest.proofs.SearchLemmas.{IsHere, find_here, find_none, copied_if, copied_some}
use Rattle.mem_forest.proofs.forest.Forest.find.Goals as goal

pub returns-clause-found : goal.returns-clause-found
returns-clause-found c =
    let at = c.args.region.now.at in
    let bytes = c.args.region.now.bytes in
    copied_if c.find_node.result _ (IsHere at bytes) c.find_node.ensures (find_here at bytes (cells c.as_slice.result.now))

pub returns-clause-absent : goal.returns-clause-absent
returns-clause-absent c =
    let at = c.args.region.now.at in
    let bytes = c.args.region.now.bytes in
    let e = copied_some c.find_node.result _ c.find_node.ensures ∙ ap (λ ns. is_some (find at bytes (cells ns))) c.as_slice.ensures.value ∙ ap (λ f. is_some (find at bytes f)) c.self.view_is in
    let both = find_none at bytes c.args.self.now in
    (λ q. both.0 (sym e ∙ q), λ q. e ∙ both.1 q)
