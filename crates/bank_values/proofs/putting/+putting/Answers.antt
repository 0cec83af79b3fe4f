use Rattle.std.proofs.Common.{◌∙◌}
use Rattle.bank_values.specs.ReadBack.{node_at, IsNodeBelow}
use Rattle.bank_values.proofs.GrowLemmas.{put_next}
use Rattle.bank_values.proofs.StableLemmas.{stable_node, node_put}
use Rattle.bank_values.proofs.putting.+putting.Goals as goal

pub put_node-returns-clause-within : goal.put_node-returns-clause-within
put_node-returns-clause-within g t c =
    (node_put _ _ _ c.in_ok-value.ensures.grows c.in_ok-under.ensures.grows c.in_ok-names.names.items c.node.inside.bytes c.in_ok-value.value c.in_ok-under.under.items _ _ _
    c.in_ok-names.ensures.within c.in_ok-names.ensures.value c.in_ok-value.ensures.within c.in_ok-value.ensures.value c.in_ok-under.ensures.within c.in_ok-under.ensures.value).0

pub put_node-returns-clause-value : goal.put_node-returns-clause-value
put_node-returns-clause-value g t c =
    (node_put _ _ _ c.in_ok-value.ensures.grows c.in_ok-under.ensures.grows c.in_ok-names.names.items c.node.inside.bytes c.in_ok-value.value c.in_ok-under.under.items c.node.inside.names.items c.node.inside.value c.node.inside.under.items
    c.in_ok-names.ensures.within (c.in_ok-names.ensures.value ∙ c.as_slice.ensures.value) c.in_ok-value.ensures.within (c.in_ok-value.ensures.value ∙ c.as_ref.ensures.value) c.in_ok-under.ensures.within (c.in_ok-under.ensures.value ∙ c.as_slice-2.ensures.value)).1 ∙ c.node.view_is

pub put_nodes-loop-node-preserved : goal.put_nodes-loop-node-preserved
put_nodes-loop-node-preserved g t c =
    let T = g.B.Bank.terms in
    put_next node_at IsNodeBelow stable_node (T c.args.bank.now) (T c.loop-node.bank) (T c.put_node.new.bank) c.loop-node.out.items _ c.args.nodes.now c.loop-node.node-index c.node-item.result
    c.loop-node.invariant c.loop-node-test.true c.in_ok-put_node.ensures.grows c.in_ok-put_node.field-0 c.in_ok-put_node.ensures.within (c.in_ok-put_node.ensures.value ∙ c.node-item.is) c.in_ok-push.ensures
