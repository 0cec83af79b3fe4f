use Rattle.graph_builder.proofs.BuildLemmas.{lines_build}
use Rattle.graph_builder.proofs.BuildsWritten.{graph_written}
use Rattle.graph_text.proofs.TextLemmas.{graph_read, graph_text_one}
use Rattle.text_laws.proofs.graphs.graph_text_laws.Goals as goal

pub returns-clause-again : goal.returns-clause-again
returns-clause-again c = graph_read lines_build graph_written

pub returns-clause-one_text : goal.returns-clause-one_text
returns-clause-one_text c = graph_text_one lines_build graph_written
