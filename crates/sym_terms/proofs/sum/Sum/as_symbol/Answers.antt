use Rattle.std.proofs.Common.{◌≤◌, length}
use Rattle.sym_terms.proofs.PieceLemmas.{two_atoms}
use Rattle.sym_terms.proofs.sum.Sum.as_symbol.Goals as goal

pub returns-in_default-4 : goal.returns-in_default-4
returns-in_default-4 c =
    let long : 2 ≤ length c.self.inside.atoms = rw c.as_slice.ensures at c.in_default.len_at_least in
    rw (← c.self.view_is) (two_atoms c.self.inside.constant c.self.inside.atoms long)
