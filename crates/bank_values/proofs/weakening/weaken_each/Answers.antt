use Rattle.std.proofs.Common.{◌≡◌, ◌<◌, ◌+◌, ◌++◌, ℕ, Option, take, drop, length, slice_set, get_or, None, ap, subst, sym, ◌∙◌, arith}
use Rattle.std.specs.Prelude.{if◌then◌else◌}
use Rattle.std.proofs.lemmas.List.{length-set}
use Rattle.bank_values.specs.Weaken.{holds_number, weaker_numbers}
use Rattle.bank_values.proofs.LeftLemmas.{one_weaker}
use Rattle.bank_values.proofs.weakening.weaken_each.Goals as goal

pub loop-i-preserved : goal.loop-i-preserved
loop-i-preserved c =
    let xs = c.loop-i.regs.items in
    let held = c.args.held.now in
    let old = c.args.regs.now.items in
    let i = c.loop-i.i in
    let inv = c.loop-i.invariant in
    let P : Option ℕ → Type 0 = λ y. take (i + 1) (slice_set xs i y) ++ weaker_numbers (drop (i + 1) held) (drop (i + 1) (slice_set xs i y)) ≡ weaker_numbers held old in
    let weak : Option ℕ → Option ℕ = λ n. if holds_number (get_or held i None) n then n else None in
    let inside : i < length xs = omega (arith, inv.len, c.requires, c.loop-i-test.true) in
    record {
      len = length-set xs i c.weaker_number.result ∙ inv.len;
      weaker = subst P (sym (c.weaker_number.ensures ∙ ap weak c.index.ensures)) (one_weaker held xs old i c.index.result.now None inside c.loop-i-test.true inv.weaker);
    }
