use Rattle.lift_graph.specs.Graph.{IsGraph}
use Rattle.lift_graph_tests.proofs.graphs.graph_of.Given as goal

abbrev pub invariant-loop-vertex : goal.invariant-loop-vertex
invariant-loop-vertex l = IsGraph l.graph
