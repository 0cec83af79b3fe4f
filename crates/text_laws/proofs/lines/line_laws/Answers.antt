use Rattle.graph_lines.proofs.LineLemmas.{line_reads, line_text_one}
use Rattle.graph_lines.proofs.LengthLemmas.{line_short}
use Rattle.graph_lines.proofs.LineLawLemmas.{line_of_kind_law}
use Rattle.text_laws.proofs.lines.line_laws.Goals as goal

pub returns-clause-reading : goal.returns-clause-reading
returns-clause-reading c = line_of_kind_law

pub returns-clause-again : goal.returns-clause-again
returns-clause-again c = line_reads

pub returns-clause-one_text : goal.returns-clause-one_text
returns-clause-one_text c = line_text_one

pub returns-clause-short : goal.returns-clause-short
returns-clause-short c = line_short
