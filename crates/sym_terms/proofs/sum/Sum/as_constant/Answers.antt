use Rattle.sym_terms.proofs.PieceLemmas.{not_alone}
use Rattle.sym_terms.proofs.sum.Sum.as_constant.Goals as goal

pub returns-else-is_empty : goal.returns-else-is_empty
returns-else-is_empty c = rw (← c.self.view_is) (not_alone _ c.self.inside.atoms c.if-is_empty.ensures.1)
