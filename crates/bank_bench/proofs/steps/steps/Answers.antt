use Rattle.bank_values.proofs.StableLemmas.{below_after, formed_after}
use Rattle.bank_bench.proofs.steps.steps.Goals as goal

pub step_each-requires : goal.step_each-requires
step_each-requires g c =
    let T = g.B.Bank.terms in
    let grows = c.turns.invariant in
    record {
      within = below_after (T c.args.bank.now) (T c.turns.bank) grows c.args.p.now c.requires.within;
      formed = formed_after (T c.args.bank.now) (T c.turns.bank) grows c.args.p.now c.requires.within c.requires.formed;
    }
