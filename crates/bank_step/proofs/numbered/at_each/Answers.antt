use Rattle.bank_step.proofs.CaseLemmas.{alike_all}
use Rattle.bank_step.proofs.numbered.at_each.Goals as goal

pub returns : goal.returns
returns c =
    alike_all c.args.p c.args.addresses.now c.in-Some.others.now c.in-Some.last.now c.in_ok-out.out.items _ c.in-Some.ensures.cases.0 c.in_ok-out.ensures c.in_ok-push.ensures
