use Rattle.lift_graph.specs.Graph.{IsGraph}
use Rattle.lift_graph_tests.proofs.graphs.chain_of.Given as goal

abbrev pub invariant-loop-at : goal.invariant-loop-at
invariant-loop-at l = IsGraph l.graph
