use Rattle.lift_graph.proofs.FirstLemmas.{first_is, first_edges, first_graph}
use Rattle.lift_graph.proofs.graph.Graph.new.Goals as goal

pub returns-clause-graph : goal.returns-clause-graph
returns-clause-graph c =
    let is = first_is c.no_graph-graph.result c.find_or_add.new.graph c.in_ok-first.first _ c.no_graph-graph.ensures.keys c.in_ok-first.ensures.found c.in_ok-first.ensures.fresh in
    first_graph c.find_or_add.new.graph c.args.entry c.in_ok-first.ensures.listed is.0 is.1 (first_edges c.no_graph-graph.result c.find_or_add.new.graph c.no_graph-graph.ensures.targets c.in_ok-first.ensures.extended)

pub returns-clause-entry : goal.returns-clause-entry
returns-clause-entry c = (first_is c.no_graph-graph.result c.find_or_add.new.graph c.in_ok-first.first _ c.no_graph-graph.ensures.keys c.in_ok-first.ensures.found c.in_ok-first.ensures.fresh).0

pub returns-clause-alone : goal.returns-clause-alone
returns-clause-alone c = (first_is c.no_graph-graph.result c.find_or_add.new.graph c.in_ok-first.first _ c.no_graph-graph.ensures.keys c.in_ok-first.ensures.found c.in_ok-first.ensures.fresh).1

pub returns-clause-edges : goal.returns-clause-edges
returns-clause-edges c = first_edges c.no_graph-graph.result c.find_or_add.new.graph c.no_graph-graph.ensures.targets c.in_ok-first.ensures.extended
