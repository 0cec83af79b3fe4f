use Rattle.std.proofs.Common.{rules, append_assoc}
use Rattle.foxdec_commands.proofs.verdict_line.index_text.Goals as goal

pub returns : goal.returns
returns c = search (rules, append_assoc)
