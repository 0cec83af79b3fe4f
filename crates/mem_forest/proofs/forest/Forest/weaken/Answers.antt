use Rattle.std.proofs.Common.{sym, subst}
use Rattle.mem_forest.specs.Plain.{PlainForest, cells}
use Rattle.mem_forest.specs.Shape.{IsForest}
use Rattle.mem_forest.proofs.WeakenLemmas.{weakened_forest}
use Rattle.mem_forest.proofs.forest.Forest.weaken.Goals as goal

pub invariant_of-self : goal.invariant_of-self
invariant_of-self c =
    let P : PlainForest → Type 0 = λ f. IsForest f in
    subst P (sym c.weaken_nodes.ensures) (weakened_forest (cells c.as_slice.result.now) (cells c.self.inside.nodes.items) c.self.invariant)
