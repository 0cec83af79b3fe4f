use Rattle.graph_lines.proofs.ReadLemmas.{givens_are}
use Rattle.graph_lines.proofs.term_reading.read_registers.Goals as goal

pub returns-clause-line : goal.returns-clause-line
returns-clause-line c = λ none. (givens_are _ c.in_ok-given.ensures.entries.0 none, c.in_ok-given.ensures.entries.1)
