use Rattle.std.proofs.Common.{map, length, filter, sym, ap, ◌∙◌}
use Rattle.std.specs.Option.{option_map}
use Rattle.bank_values.specs.Numbered.{level}
use Rattle.bank_values.specs.Weaken.{weaker_numbers, holds_limit, weaker_forest}
use Rattle.bank_values.specs.ReadBack.{known_at, fact_at, bound_at, forest_at}
use Rattle.bank_values.proofs.BelowLemmas.{left_below}
use Rattle.bank_values.proofs.CommuteLemmas.{regs_at, fact_at_weaker, limits_at, forest_weaker, as_many, in_order_of}
use Rattle.bank_values.proofs.pred.BankPred.weaken.Goals as goal

pub returns : goal.returns
returns c = record {
  value = λ ts apart l k h j.
      let p = c.args.self.now in
      let q = c.args.other.now in
      let regs = ap (map (known_at ts)) (c.weaken_registers.ensures (ap length c.as_slice.ensures.value ∙ as_many ts p q h j) ∙ ap (λ hs. weaker_numbers hs p.regs.items) c.as_slice.ensures.value) ∙ sym (regs_at ts apart q.regs.items p.regs.items k.regs l.regs) in
      let flags = ap (option_map (fact_at ts)) c.weaken_fact.ensures ∙ sym (fact_at_weaker ts apart q.flags p.flags k.flags l.flags) in
      let bounds = ap (map (bound_at ts)) (c.weaken_limits.ensures (in_order_of ts p h) ∙ ap (λ hs. filter (holds_limit hs) p.bounds.items) c.as_slice-2.ensures.value) ∙ sym (limits_at ts apart q.bounds.items p.bounds.items k.bounds l.bounds) in
      let forest = ap (forest_at ts) (c.weaken_nodes.ensures ∙ ap (λ hs. weaker_forest (level hs) (level p.nodes.items)) c.as_slice-3.ensures.value) ∙ sym (forest_weaker ts apart (level q.nodes.items) (level p.nodes.items) k.nodes l.nodes) in
      λ i. record { regs = regs i; flags = flags i; bounds = bounds i; forest = forest i };
  within = λ ts l h j.
      let p = c.args.self.now in
      let q = c.args.other.now in
      left_below (length ts) p q _ l
      (c.weaken_registers.ensures (ap length c.as_slice.ensures.value ∙ as_many ts p q h j) ∙ ap (λ hs. weaker_numbers hs p.regs.items) c.as_slice.ensures.value)
      c.weaken_fact.ensures
      (c.weaken_limits.ensures (in_order_of ts p h) ∙ ap (λ hs. filter (holds_limit hs) p.bounds.items) c.as_slice-2.ensures.value)
      (c.weaken_nodes.ensures ∙ ap (λ hs. weaker_forest (level hs) (level p.nodes.items)) c.as_slice-3.ensures.value);
}
