use Rattle.std.proofs.Common.{arith}
use Rattle.x86_machine.proofs.MemoryLemmas.{bytes_fit, one_more_byte}
use Rattle.x86_machine.proofs.memory.Memory.+load.Goals as goal

pub overflow_mul-result : goal.overflow_mul-result
overflow_mul-result t c = omega (arith, bytes_fit c.args.n c.requires (omega arith), c.load.ensures.below)

pub overflow_add-result : goal.overflow_add-result
overflow_add-result t c = omega (arith, bytes_fit c.args.n c.requires (omega arith), c.load.ensures.below)

pub returns-clause-below : goal.returns-clause-below
returns-clause-below t c = omega (arith, one_more_byte c.args.n (omega arith), c.load.ensures.below)
