use Rattle.std.proofs.Common.{◌∙◌}
use Rattle.bank_values.specs.ReadBack.{known_at, IsKnownBelow}
use Rattle.bank_values.proofs.GrowLemmas.{put_next}
use Rattle.bank_values.proofs.StableLemmas.{stable_known}
use Rattle.bank_values.proofs.putting.put_registers.Goals as goal

pub loop-term-preserved : goal.loop-term-preserved
loop-term-preserved g c =
    let T = g.B.Bank.terms in
    put_next known_at IsKnownBelow stable_known (T c.args.bank.now) (T c.loop-term.bank) (T c.put_held.new.bank) c.loop-term.out.items _ c.args.regs.now c.loop-term.term-index c.term-item.result
    c.loop-term.invariant c.loop-term-test.true c.in_ok-put_held.ensures.grows c.in_ok-put_held.field-0 c.in_ok-put_held.ensures.within (c.in_ok-put_held.ensures.value ∙ c.as_ref.ensures.value ∙ c.term-item.is) c.in_ok-push.ensures
