use Rattle.table_laws.proofs.TableLemmas as lemmas
use Rattle.table_laws.proofs.laws.table_laws.Goals as goal

pub returns : goal.returns
returns c = record { tables = lemmas.table_laws; jumps = lemmas.target_laws }
