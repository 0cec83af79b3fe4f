use Rattle.std.proofs.Common.{sym, subst}
use Rattle.mem_forest.specs.Plain.{PlainForest, cells}
use Rattle.mem_forest.specs.Shape.{IsForest}
use Rattle.mem_forest.proofs.ForgetFormLemmas.{forget_forest}
use Rattle.mem_forest.proofs.forest.Forest.forget.Goals as goal

pub invariant_of-self : goal.invariant_of-self
invariant_of-self c =
    let P : PlainForest → Type 0 = λ f. IsForest f in
    subst P (sym c.forget_nodes.ensures) (forget_forest c.args.s (cells c.self.inside.nodes.items) c.self.invariant)
