use Rattle.std.proofs.Common.{◌≡◌, ◌++◌, drop}
use Rattle.mem_forest.specs.Plain.{cells}
use Rattle.site_lines.specs.Critical.{critical_cells}
use Rattle.site_lines.proofs.critical.+critical.Given as goal

abbrev pub invariant-add_nodes-loop-node : goal.invariant-add_nodes-loop-node
invariant-add_nodes-loop-node l =
    l.found.items ++ critical_cells (cells (drop l.node-index l.nodes)) ≡ l.initial.found.items ++ critical_cells (cells l.nodes)
