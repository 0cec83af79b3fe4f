use Rattle.std.proofs.Common.{◌-◌, arith}
use Rattle.std.proofs.lemmas.Result.{on_ok_weaker}
use Rattle.x86_machine.proofs.MemoryLemmas.{has_more, still_has}
use Rattle.x86_machine.proofs.memory.+hold.Goals as goal

pub returns-clause-held : goal.returns-clause-held
returns-clause-held t c =
    on_ok_weaker c.hold_byte.result
    (λ first. has_more c.hold_byte.new.bytes c.args.n c.args.at (omega arith) first (still_has c.hold.new.bytes c.hold_byte.new.bytes c.hold_byte.ensures.keeps (c.args.n - 1) _ c.in_ok-hold.ensures.held))
    c.hold_byte.ensures.held
