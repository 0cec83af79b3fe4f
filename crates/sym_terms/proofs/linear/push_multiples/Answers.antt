use Rattle.std.proofs.Common.{sym, ◌∙◌, append-nil, arith}
use Rattle.std.proofs.lemmas.List.{drop_all}
use Rattle.sym_terms.proofs.MergeLemmas.{multiples_at}
use Rattle.sym_terms.proofs.linear.push_multiples.Goals as goal

pub loop-atom-preserved : goal.loop-atom-preserved
loop-atom-preserved c =
    rw c.in_ok-out.ensures (multiples_at _ _ _ _ _ c.loop-atom-item.is c.loop-atom-test.true ∙ c.loop-atom.invariant)

pub returns : goal.returns
returns c =
    sym (append-nil c.loop-atom.out) ∙ rw (drop_all c.loop-atom.atom-index c.args.atoms.now (omega arith)) at c.loop-atom.invariant
