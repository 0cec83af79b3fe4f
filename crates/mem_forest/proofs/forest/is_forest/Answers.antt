use Rattle.std.proofs.Common.{sym, ◌∙◌, arith}
use Rattle.mem_forest.specs.Plain.{cells}
use Rattle.mem_forest.proofs.SingleLemmas.{forest_from, forest_alone}
use Rattle.mem_forest.proofs.forest.is_forest.Goals as goal

pub returns : goal.returns
returns c =
    let f = cells c.args.nodes.now in
    (λ e. forest_from f (grind (arith, c.remaining_after.ensures, c.is_none.ensures, c.if-is_none.false)) (sym c.are_shaped.ensures ∙ c.if-not-are_shaped.false) (sym c.are_alone.ensures ∙ e), λ h. c.are_alone.ensures ∙ forest_alone f h)
