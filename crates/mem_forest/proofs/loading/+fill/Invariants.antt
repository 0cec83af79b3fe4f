use Rattle.mem_forest.specs.Plain.{cells, count}
use Rattle.mem_forest.proofs.loading.+fill.Given as goal

abbrev pub decreases-fill : goal.decreases-fill
decreases-fill l = count (cells l.nodes.now.items)
