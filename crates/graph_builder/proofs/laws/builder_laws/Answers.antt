use Rattle.graph_builder.proofs.BuildLemmas.{lines_build, built_has_lines}
use Rattle.graph_builder.proofs.BuildsWritten.{graph_written}
use Rattle.graph_builder.proofs.laws.builder_laws.Goals as goal

pub returns-clause-builds : goal.returns-clause-builds
returns-clause-builds c = lines_build

pub returns-clause-has_lines : goal.returns-clause-has_lines
returns-clause-has_lines c = built_has_lines

pub returns-clause-short : goal.returns-clause-short
returns-clause-short c = graph_written
