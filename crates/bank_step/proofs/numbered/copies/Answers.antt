use Rattle.bank_step.proofs.CaseLemmas.{alike_next}
use Rattle.bank_step.proofs.numbered.copies.Goals as goal

pub loop-address-preserved : goal.loop-address-preserved
loop-address-preserved c =
    let copy = c.in_ok-same.ensures in
    alike_next c.args.p.now c.in_ok-same.same copy.regs copy.flags copy.bounds copy.nodes c.args.addresses.now c.loop-address.out.items _ c.loop-address.address-index
    c.loop-address.invariant c.loop-address-test.true c.in_ok-push.ensures
