use Rattle.std.proofs.lemmas.List.Elements.{All-nil}
use Rattle.bank_values.specs.ReadBack.{IsPred}
use Rattle.bank_values.proofs.GrowLemmas.{put_none}
use Rattle.bank_step.specs.CasesAt.{pair_at, IsCaseBelow}
use Rattle.bank_step.proofs.CaseLemmas.{apart_next}
use Rattle.bank_step.proofs.numbered.put_apart.Goals as goal

pub loop-address-init : goal.loop-address-init
loop-address-init g c = rw c.in_ok-out.ensures.items (record { put = put_none pair_at IsCaseBelow _; formed = All-nil (λ c. IsPred c.1) })

pub loop-address-preserved : goal.loop-address-preserved
loop-address-preserved g c =
    let T = g.B.Bank.terms in
    let inv = c.loop-address.invariant in
    let more = apart_next (T c.args.bank.now) (T c.loop-address.bank) (T c.renumber.new.bank) c.loop-address.out.items _ c.args.cases.now c.loop-address.address-index c.loop-address-item.result c.in_ok-numbered.numbered
    inv.put inv.formed c.loop-address-test.true c.loop-address-item.is c.in_ok-numbered.ensures.grows c.in_ok-numbered.ensures.within c.in_ok-numbered.ensures.value c.in_ok-numbered.ensures.formed c.in_ok-push.ensures in
    record { put = more.0; formed = more.1 }
