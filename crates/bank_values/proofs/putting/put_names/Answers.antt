use Rattle.std.proofs.Common.{◌<◌, ◌∙◌}
use Rattle.term_bank.specs.Terms.{term_at}
use Rattle.bank_values.proofs.GrowLemmas.{put_next}
use Rattle.bank_values.proofs.StableLemmas.{stable_term}
use Rattle.bank_values.proofs.putting.put_names.Goals as goal

pub loop-name-preserved : goal.loop-name-preserved
loop-name-preserved g c =
    let T = g.B.Bank.terms in
    put_next term_at (λ n m. m < n) stable_term (T c.args.bank.now) (T c.loop-name.bank) (T c.put_term.new.bank) c.loop-name.out.items _ c.args.names.now c.loop-name.name-index c.name-item.result
    c.loop-name.invariant c.loop-name-test.true c.in_ok-put_term.ensures.grows c.in_ok-put_term.field-0 c.in_ok-put_term.ensures.within (c.in_ok-put_term.ensures.value ∙ c.name-item.is) c.in_ok-push.ensures
