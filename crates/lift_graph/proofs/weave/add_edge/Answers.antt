use Rattle.std.proofs.Common.{◌++◌, ◌∷◌, [], sym, ap, ◌∙◌, arith}
use Rattle.lift_graph.proofs.WeaveLemmas.{add_edge_at}
use Rattle.lift_graph.proofs.RowLemmas.{items_at_read}
use Rattle.lift_graph.proofs.weave.add_edge.Goals as goal

pub returns-in_ok-push-clause-value : goal.returns-in_ok-push-clause-value
returns-in_ok-push-clause-value c = λ v l. add_edge_at c.args.rows.now.items c.args.target v c.push.new.self c.args.place (omega arith) (c.in_ok-push.ensures.items ∙ ap (λ s. s ++ c.args.place ∷ []) (sym (items_at_read c.args.rows.now.items c.args.target c.index_mut.result.now (omega arith) c.index_mut.ensures.value)))
