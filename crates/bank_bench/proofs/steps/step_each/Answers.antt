use Rattle.bank_values.proofs.StableLemmas.{below_after, formed_after}
use Rattle.bank_bench.proofs.steps.step_each.Goals as goal

pub step-requires : goal.step-requires
step-requires g c =
    let T = g.B.Bank.terms in
    let grows = c.loop-i.invariant in
    record {
      within = below_after (T c.args.bank.now) (T c.loop-i.bank) grows c.args.p.now c.requires.within;
      formed = formed_after (T c.args.bank.now) (T c.loop-i.bank) grows c.args.p.now c.requires.within c.requires.formed;
    }
