-- The slice from an offset on is the code without the bytes before it.
use Rattle.std.proofs.Common.{◌≡◌, ◌≤◌, ◌-◌, drop, length, take, sym, subst, arith}
use Rattle.std.proofs.lemmas.List.{take_all, length-drop}
use Rattle.x86_spelling.specs.Spells.{SpellsPrefix}
use Rattle.decode_bench.proofs.listing.instruction_at.Goals as goal

pub returns-clause-none : goal.returns-clause-none
returns-clause-none c =
    let rest = drop c.args.at c.args.code.now in
    let size = length-drop c.args.at c.args.code.now in
    let whole : length rest ≤ length c.args.code.now - c.args.at = omega (arith, size) in
    let same = take_all (length c.args.code.now - c.args.at) rest whole in (
      λ e i begins. c.decode.ensures.none.0 e i begins.0 (subst (SpellsPrefix i) (sym same) begins.1),
      λ no. c.decode.ensures.none.1 (λ i address spelled. no i (address, subst (SpellsPrefix i) same spelled)),
    )
