use Rattle.std.proofs.Common.{◌≡◌, ◌++◌, ◌+◌, ◌<◌, ◌^◌, drop}
use Rattle.mem_forest.specs.Plain.{cells, count}
use Rattle.graph_builder.specs.Lines.{node_lines}
use Rattle.graph_text.specs.Text.{lines_text}
use Rattle.graph_text.proofs.write.+nodes.Given as goal

abbrev pub invariant-loop-node : goal.invariant-loop-node
invariant-loop-node l = record {
  text : l.out.items ++ lines_text (node_lines l.level (cells (drop l.node-index l.nodes))) ≡ l.initial.out.items ++ lines_text (node_lines l.level (cells l.nodes));
  room : l.level + count (cells (drop l.node-index l.nodes)) < 2 ^ 32;
}
