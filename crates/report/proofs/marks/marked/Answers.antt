-- As many bits are set as places are marked.
use Rattle.std.proofs.Common.{◌∙◌, sym, subst, ℕ, ◌<◌, ◌^◌}
use Rattle.report.proofs.CountLemmas.{marked_bits}
use Rattle.report.proofs.marks.marked.Goals as goal

pub covered-requires : goal.covered-requires
covered-requires c =
    let P : ℕ → Type 0 = λ n. n < 2 ^ 64 in
    subst P (sym (marked_bits c.args.bits.now (λ k. (c.type_inv.bits k).fits))) c.requires

pub returns : goal.returns
returns c = c.covered.ensures ∙ marked_bits c.args.bits.now (λ k. (c.type_inv.bits k).fits)
