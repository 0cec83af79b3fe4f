use Rattle.std.proofs.Common.{◌<◌, ◌∙◌}
use Rattle.bank_values.specs.ReadBack.{bound_at}
use Rattle.bank_values.proofs.GrowLemmas.{put_next}
use Rattle.bank_values.proofs.StableLemmas.{stable_bound}
use Rattle.bank_values.proofs.putting.put_bounds.Goals as goal

pub loop-bound-preserved : goal.loop-bound-preserved
loop-bound-preserved g c =
    let T = g.B.Bank.terms in
    put_next bound_at (λ n b. b.0 < n) stable_bound (T c.args.bank.now) (T c.loop-bound.bank) (T c.put_bound.new.bank) c.loop-bound.out.items _ c.args.bounds.now c.loop-bound.bound-index c.bound-item.result
    c.loop-bound.invariant c.loop-bound-test.true c.in_ok-put_bound.ensures.grows c.in_ok-put_bound.field-0 c.in_ok-put_bound.ensures.within (c.in_ok-put_bound.ensures.value ∙ c.bound-item.is) c.in_ok-push.ensures
