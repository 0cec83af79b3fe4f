use Rattle.image_steps.proofs.FormedLemmas.{weakened_read, weakened_numbered}
use Rattle.image_steps.proofs.walk.WalkSteps.weaken.Goals as goal

pub returns-clause-value : goal.returns-clause-value
returns-clause-value g c =
    let bank = c.args.self.now.bank.now in
    let terms = g.B.Bank.terms bank in
    let p = c.requires.pred in
    let q = c.requires.other in
    weakened_read terms c.args.pred.now c.args.other.now c.weaken.new.self p q
    (c.weaken.ensures.value terms (g.met.B.Bank.apart bank) p.below q.below p.formed q.formed)

pub returns-clause-inside : goal.returns-clause-inside
returns-clause-inside g c =
    let bank = c.args.self.now.bank.now in
    let terms = g.B.Bank.terms bank in
    let p = c.requires.pred in
    let q = c.requires.other in
    weakened_numbered terms c.args.pred.now c.args.other.now c.weaken.new.self p
    (c.weaken.ensures.value terms (g.met.B.Bank.apart bank) p.below q.below p.formed q.formed)
    (c.weaken.ensures.within terms p.below p.formed q.formed)
