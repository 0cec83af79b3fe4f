-- No row before this one is for the opcode.
use Rattle.std.proofs.Common.{◌≡◌, find, drop}
use Rattle.x86_decode.specs.Reading.{matches}
use Rattle.x86_decode.proofs.table.find_row.Given as goal

abbrev pub invariant-loop-row : goal.invariant-loop-row
invariant-loop-row l = find (matches l.escaped l.opcode l.digit l.rex) (drop l.row-index l.rows) ≡ find (matches l.escaped l.opcode l.digit l.rex) l.rows
