-- The starts are those that were tested over all blocks.
use Rattle.std.proofs.Common.{arith}
use Rattle.x86_decode.specs.Reading.{row_at}
use Rattle.x86_decode.proofs.RowLemmas.{start_within, found_after}
use Rattle.x86_decode.proofs.table.start_of.Goals as goal

pub returns-clause-within : goal.returns-clause-within
returns-clause-within c = rw c.block_of.ensures (start_within c.args.escaped c.args.opcode (omega (arith, c.ranges.opcode)))

pub returns-clause-skips : goal.returns-clause-skips
unfolding row_at
returns-clause-skips c = λ digit rex. rw c.block_of.ensures (found_after c.args.escaped c.args.opcode digit rex (omega (arith, c.ranges.opcode)))
