use Rattle.edge_checker.proofs.LevelLemmas.{some_node}
use Rattle.edge_checker.proofs.entry.has_no_node.Goals as goal

pub returns-in_default : goal.returns-in_default
returns-in_default c = some_node c.args.nodes.now c.in_default.len_at_least
