use Rattle.std.proofs.Common.{◌∙◌, ap, length}
use Rattle.std.specs.Prelude.{unwrap_or}
use Rattle.mem_forest.specs.Plain.{PlainNode}
use Rattle.mem_forest.specs.Shape.{comes_before}
use Rattle.mem_forest.proofs.PlaceLemmas.{position_unwrapped}
use Rattle.mem_forest.proofs.levels.place_of.Goals as goal

pub returns : goal.returns
returns c =
    let before = λ (m : PlainNode). comes_before c.args.node.now.names c.args.node.now.bytes m.names m.bytes in
    c.unwrap_or.ensures ∙ ap (λ o. unwrap_or o (length c.args.nodes.now)) c.first_behind.ensures ∙ position_unwrapped before c.args.nodes.now
