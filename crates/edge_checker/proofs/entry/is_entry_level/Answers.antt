use Rattle.std.proofs.Common.{◌∙◌}
use Rattle.edge_checker.proofs.LevelLemmas.{one_entry, two_entry}
use Rattle.edge_checker.proofs.entry.is_entry_level.Goals as goal

pub returns-in-len1 : goal.returns-in-len1
returns-in-len1 c = c.is_entry_node.ensures ∙ one_entry c.args.nodes.now c.node-item.result c.in-len1.len_at_least c.in-len1.len_below c.node-item.is

pub returns-in_default-2 : goal.returns-in_default-2
returns-in_default-2 c = two_entry c.args.nodes.now c.in_default.len_at_least
