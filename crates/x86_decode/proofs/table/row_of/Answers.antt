-- The rows of the code are those of the table, by computation, and those before the start are for other opcodes.
use Rattle.std.proofs.Common.{◌≡◌, ◌∙◌, ap, find, drop}
use Rattle.x86_spelling.specs.Table.{table}
use Rattle.x86_decode.specs.Reading.{matches}
use Rattle.x86_decode.proofs.table.row_of.Goals as goal

pub returns : goal.returns
returns c =
    let later : c.split_at.result.1.now ≡ drop c.start_of.result table = c.split_at.ensures.back in
    c.find_row.ensures ∙ (ap (find (matches c.args.escaped c.args.opcode c.args.digit c.args.rex)) later ∙ c.start_of.ensures.skips c.args.digit c.args.rex)
