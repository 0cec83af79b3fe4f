use Rattle.std.proofs.lemmas.List.Elements.{All-from_recursion}
use Rattle.term_text.specs.Names.{IsKnown, keywords}
use Rattle.term_text.proofs.BuildLemmas.{all_known}
use Rattle.term_text.proofs.names.find_keyword.Goals as goal

pub returns-clause-known : goal.returns-clause-known
returns-clause-known c = c.first_named.ensures.known (All-from_recursion IsKnown keywords all_known)
