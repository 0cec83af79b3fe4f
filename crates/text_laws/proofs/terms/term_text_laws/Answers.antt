use Rattle.text_laws.proofs.LawLemmas.{number_laws, reading_laws, byte_laws}
use Rattle.text_laws.proofs.terms.term_text_laws.Goals as goal

pub returns-clause-numbers : goal.returns-clause-numbers
returns-clause-numbers c = number_laws

pub returns-clause-reading : goal.returns-clause-reading
returns-clause-reading c = reading_laws

pub returns-clause-bytes : goal.returns-clause-bytes
returns-clause-bytes c = byte_laws
