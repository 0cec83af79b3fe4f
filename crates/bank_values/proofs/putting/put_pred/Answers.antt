use Rattle.std.proofs.Common.{ap, sym, subst, ◌∙◌}
use Rattle.mem_forest.specs.Plain.{cells}
use Rattle.predicates.specs.Predicate.{Predicate}
use Rattle.bank_values.specs.ReadBack.{IsPred}
use Rattle.bank_values.specs.declared.pred.BankPred.{BankPred}
use Rattle.bank_values.proofs.GrowLemmas.{grows_trans}
use Rattle.bank_values.proofs.LevelLemmas.{level_at, level_below}
use Rattle.bank_values.proofs.StableLemmas.{predicate_put}
use Rattle.bank_values.proofs.putting.put_pred.Goals as goal

pub returns : goal.returns
returns g c =
    let T = g.B.Bank.terms in
    let a = T c.put_registers.new.bank in
    let b = T c.put_fact.new.bank in
    let k = T c.put_bounds.new.bank in
    let d = T c.put_nodes.new.bank in
    let cs = c.in_ok-nodes.nodes.items in
    let q : BankPred = record { regs = c.in_ok-regs.regs; flags = c.in_ok-flags.flags; bounds = c.in_ok-bounds.bounds; nodes = c.in_ok-nodes.nodes } in
    let p : Predicate = record { regs = c.p.inside.regs; flags = c.p.inside.flags; bounds = c.p.inside.bounds; forest = c.p.inside.forest } in
    let both = predicate_put a b k d c.in_ok-flags.ensures.grows c.in_ok-bounds.ensures.grows c.in_ok-nodes.ensures.grows q p
    c.in_ok-regs.ensures.within (c.in_ok-regs.ensures.value ∙ c.as_slice.ensures)
    c.in_ok-flags.ensures.within (c.in_ok-flags.ensures.value ∙ c.as_ref.ensures.value)
    c.in_ok-bounds.ensures.within (c.in_ok-bounds.ensures.value ∙ c.as_slice-2.ensures)
    (level_below _ cs c.in_ok-nodes.ensures.within) (sym (level_at d cs) ∙ ap cells c.in_ok-nodes.ensures.value ∙ c.nodes.ensures.value) in
    let same = both.1 ∙ c.p.view_is in
    record {
      grows = grows_trans _ _ _ c.in_ok-regs.ensures.grows (grows_trans _ _ _ c.in_ok-flags.ensures.grows (grows_trans _ _ _ c.in_ok-bounds.ensures.grows c.in_ok-nodes.ensures.grows));
      within = both.0;
      value = same;
      formed = subst IsPred (sym both.1) (record { formed = c.p.invariant; forest = c.nodes.ensures.forest });
    }
