use Rattle.std.proofs.Common.{◌∙◌}
use Rattle.mem_forest.specs.Plain.{cells}
use Rattle.mem_forest.proofs.SearchLemmas.{copied_some}
use Rattle.mem_forest.proofs.LoadLemmas.{is_some-find}
use Rattle.mem_forest.proofs.naming.is_found.Goals as goal

pub returns : goal.returns
returns c = c.is_some.ensures ∙ copied_some c.find_node.result _ c.find_node.ensures ∙ is_some-find c.args.region.now.at c.args.region.now.bytes (cells c.args.nodes.now)
