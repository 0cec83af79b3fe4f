use Rattle.std.proofs.Common.{arith, ◌∙◌, sym}
use Rattle.instr_at.proofs.AtLemmas.{bytes_pass, of_bytes}
use Rattle.instr_at.proofs.at.instr_in.Goals as goal

pub returns-clause-value : goal.returns-clause-value
returns-clause-value c =
    c.decode.ensures.value ∙
    sym (of_bytes c.args.address c.args.code.now (bytes_pass c.args.code.now (λ k. omega (arith, c.type_inv.code k))))
