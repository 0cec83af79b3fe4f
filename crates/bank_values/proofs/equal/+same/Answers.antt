use Rattle.std.proofs.Common.{◌∙◌, sym, ap, subst, ◌≡◌}
use Rattle.bank_values.specs.Numbered.{NumberNode, level}
use Rattle.bank_values.specs.Same.{HasSameSpot}
use Rattle.bank_values.proofs.SameLemmas.{node_exactly}
use Rattle.bank_values.proofs.equal.+same.Goals as goal

pub is_same_node-returns-then-is_same_spot : goal.is_same_node-returns-then-is_same_spot
is_same_node-returns-then-is_same_spot t c =
    let c0 = c.args.left.now in
    let d0 = c.args.right.now in
    let p = ap {A = NumberNode} (λ x. x.under) (sym c.left.view_is) ∙ ap level (sym c.as_slice.ensures.value) in
    let q = ap {A = NumberNode} (λ x. x.under) (sym c.right.view_is) ∙ ap level (sym c.as_slice-then-is_same_spot.ensures.value) in
    let e = node_exactly c0 d0 _ _ (c.is_same_spot.ensures.0 c.if-is_same_spot.true) p q in
    (λ r. e.0 (c.are_same_nodes.ensures.0 r), λ r. c.are_same_nodes.ensures.1 (e.1 r))
