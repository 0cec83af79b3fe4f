use Rattle.mem_forest.specs.Plain.{cells, count}
use Rattle.mem_forest.proofs.storing.+place.Given as goal

abbrev pub decreases-place : goal.decreases-place
decreases-place l = count (cells l.nodes.now.items)
