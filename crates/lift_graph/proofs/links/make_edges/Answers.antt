use Rattle.lift_graph.proofs.LinkLemmas.{row_above, linked_graph, linked_row}
use Rattle.lift_graph.proofs.links.make_edges.Goals as goal

pub put_row-requires-clause-within : goal.put_row-requires-clause-within
put_row-requires-clause-within c = let first = c.requires.graph.entry in row_above c.row_of.new.graph.keys.items first.0 c.in_ok-row.row.items c.args.keys.now (c.in_ok-row.ensures.row.extended.keys 0 (record { address = first.0; tag = 0 }) first.1) c.requires.tagged c.in_ok-row.ensures.row.found

pub returns-clause-graph : goal.returns-clause-graph
returns-clause-graph c = linked_graph c.args.graph.now c.row_of.new.graph c.put_row.new.graph c.args.vertex c.args.keys.now c.in_ok-row.row.items c.requires.vertex c.requires.graph c.requires.kept c.requires.tagged c.in_ok-row.ensures.listed c.in_ok-row.ensures.row c.in_ok-put_row.ensures.targets c.in_ok-put_row.ensures.square

pub returns-clause-linked : goal.returns-clause-linked
returns-clause-linked c = linked_row c.args.graph.now c.row_of.new.graph c.put_row.new.graph c.args.vertex c.args.keys.now c.in_ok-row.row.items c.in_ok-row.ensures.row c.in_ok-put_row.ensures.targets
