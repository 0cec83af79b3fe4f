use Rattle.std.proofs.Common.{arith}
use Rattle.lift_graph.proofs.WeaveLemmas.{no_edges}
use Rattle.lift_graph.specs.Rows.{items_at}
use Rattle.lift_graph.proofs.weave.add_source.Goals as goal

pub returns-then-targets-source-clause-value : goal.returns-then-targets-source-clause-value
returns-then-targets-source-clause-value c = λ v l. no_edges (items_at c.args.rows.now.items v) c.args.targets.now c.args.source v (omega arith)
