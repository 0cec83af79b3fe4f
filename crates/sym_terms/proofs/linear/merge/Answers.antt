use Rattle.std.proofs.Common.{◌≤◌, ◌⊎◌, inl, inr, length, sym, ◌∙◌, arith}
use Rattle.sym_terms.proofs.MergeLemmas.{less_at, equal_at, greater_at, written}
use Rattle.sym_terms.proofs.linear.merge.Goals.{then-loop-i-test+else-j-right, else-loop-i-test}
use Rattle.sym_terms.proofs.linear.merge.Goals as goal

pub loop-i-preserved-in-Less : goal.loop-i-preserved-in-Less
loop-i-preserved-in-Less c =
    let new = rw c.in_ok-copy-in-Less.ensures at c.in_ok-out-in-Less.ensures in (
      omega arith,
      omega arith,
      rw new (less_at _ _ _ _ _ _ _ c.index-left-i.is c.loop-i-test.true c.index-right-j.is c.if-j-right.true _ (sym c.compare.ensures ∙ c.in-Less.is) ∙ c.loop-i.invariant.2),
    )

pub loop-i-preserved-in-Equal : goal.loop-i-preserved-in-Equal
loop-i-preserved-in-Equal c = (
  omega arith,
  omega arith,
  rw c.in_ok-out-in-Equal.ensures (equal_at _ _ _ _ _ _ _ c.index-left-i.is c.loop-i-test.true c.index-right-j.is c.if-j-right.true _ (sym c.compare.ensures ∙ c.in-Equal.is) ∙ c.loop-i.invariant.2),
)

pub loop-i-preserved : goal.loop-i-preserved
loop-i-preserved c = (
  omega arith,
  omega arith,
  rw c.in_ok-out-in-Greater.ensures (greater_at _ _ _ _ _ _ _ c.index-left-i.is c.loop-i-test.true c.index-right-j.is c.if-j-right.true _ (sym c.compare.ensures ∙ c.in-Greater.is) ∙ c.loop-i.invariant.2),
)

pub returns : goal.returns
returns c =
    let over : (length c.args.left.now ≤ c.loop-i.i) ⊎ (length c.args.right.now ≤ c.loop-i.j) =
    elim c.loop-i-test.branch [ then-loop-i-test+else-j-right w ↦ inr w.if-j-right.false | else-loop-i-test w ↦ inl w.loop-i-test.false ] in
    written c.args.factor c.args.left.now c.args.right.now _ _ _ c.loop-i.i c.loop-i.j c.in_ok-kept.ensures c.in_ok-all.ensures over ∙ c.loop-i.invariant.2
