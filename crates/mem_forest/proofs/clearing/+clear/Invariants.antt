use Rattle.std.proofs.Common.{◌≡◌, take, drop, vec_len}
use Rattle.mem_forest.specs.Plain.{cells, count}
use Rattle.mem_forest.specs.Clear.{clear_values}
use Rattle.mem_forest.proofs.FrontLemmas.{front}
use Rattle.mem_forest.proofs.clearing.+clear.Given as goal

abbrev pub invariant-loop-i : goal.invariant-loop-i
invariant-loop-i l = record {
  len : vec_len l.nodes ≡ vec_len l.initial.nodes;
  nodes : count (cells l.nodes.items) ≡ count (cells l.initial.nodes.items);
  changed : front (take l.i l.nodes.items) (clear_values l.keeps (cells (drop l.i l.nodes.items))) ≡ clear_values l.keeps (cells l.initial.nodes.items);
}

abbrev pub decreases-clear_nodes : goal.decreases-clear_nodes
decreases-clear_nodes l = count (cells l.nodes.now.items)
