use Rattle.std.proofs.Common.{◌≡◌, take, drop}
use Rattle.mem_forest.specs.Plain.{cells}
use Rattle.mem_forest.specs.Search.{found}
use Rattle.mem_forest.specs.Levels.{written}
use Rattle.mem_forest.proofs.FrontLemmas.{front}
use Rattle.mem_forest.proofs.storing.+write.Given as goal

abbrev pub invariant-loop-i : goal.invariant-loop-i
invariant-loop-i l = record {
  nodes : l.nodes.items ≡ l.initial.nodes.items;
  value : l.value ≡ l.initial.value;
  searched : found l.region.at l.region.bytes (cells (drop l.i l.nodes.items)) ≡ found l.region.at l.region.bytes (cells l.initial.nodes.items);
  changed : front (take l.i l.nodes.items) (written l.keep l.region.at l.region.bytes l.value (cells (drop l.i l.nodes.items)))
      ≡ written l.keep l.region.at l.region.bytes l.initial.value (cells l.initial.nodes.items);
}
