use Rattle.std.proofs.Common.{◌≤◌, length}
use Rattle.sym_terms.proofs.PieceLemmas.{two_pieces}
use Rattle.sym_terms.proofs.atoms.is_kept.Goals as goal

pub returns-in_default-2 : goal.returns-in_default-2
returns-in_default-2 c =
    let long : 2 ≤ length c.argument.inside.atoms = rw c.as_slice.ensures at c.in_default.len_at_least in
    rw (← c.argument.view_is) (two_pieces c.args.kind c.argument.inside.constant c.argument.inside.atoms long)
