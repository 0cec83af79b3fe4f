use Rattle.std.proofs.Common.{◌≡◌, take, drop}
use Rattle.mem_forest.specs.Plain.{cells}
use Rattle.mem_forest.specs.Search.{found}
use Rattle.mem_forest.specs.Levels.{inserted}
use Rattle.mem_forest.specs.Alias.{renamed}
use Rattle.mem_forest.proofs.naming.+rename.Given as goal

abbrev pub invariant-loop-i : goal.invariant-loop-i
invariant-loop-i l = record {
  nodes : l.nodes.items ≡ l.initial.nodes.items;
  searched : found l.region.at l.region.bytes (cells (drop l.i l.nodes.items)) ≡ found l.region.at l.region.bytes (cells l.initial.nodes.items);
  changed : inserted (take l.i l.nodes.items) (renamed l.name l.region.at l.region.bytes (cells (drop l.i l.nodes.items)))
      ≡ renamed l.name l.region.at l.region.bytes (cells l.initial.nodes.items);
}
