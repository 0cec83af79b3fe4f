use Rattle.std.proofs.Common.{arith}
use Rattle.lift_rounds.proofs.AddressLemmas.{addresses_more, addresses_differ}
use Rattle.lift_rounds.proofs.compare.have_same_addresses.Goals as goal

pub returns-then-before-after : goal.returns-then-before-after
returns-then-before-after g c =
    (λ t. absurd (let e : ⊥ = cc in e), λ e. absurd (addresses_differ c.args.left.now c.args.right.now c.loop-i.i c.index-left-i.result c.index-right-i.result c.loop-i-test.true (omega arith) c.if-before-after.true e))

pub loop-i-preserved : goal.loop-i-preserved
loop-i-preserved g c =
    addresses_more c.args.left.now c.args.right.now c.loop-i.i c.index-left-i.result c.index-right-i.result c.loop-i-test.true (omega arith) c.if-before-after.false c.loop-i.invariant
