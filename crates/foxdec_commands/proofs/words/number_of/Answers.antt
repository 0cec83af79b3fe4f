use Rattle.std.proofs.Common.{sym, ◌∙◌}
use Rattle.foxdec_commands.proofs.WordLemmas.{parsed_ok, parsed_err, plus_none}
use Rattle.foxdec_commands.proofs.words.number_of.Goals as goal

pub returns-then-begins_with : goal.returns-then-begins_with
returns-then-begins_with c = plus_none c.args.base c.args.word.now c.requires.most (sym c.begins_with.ensures ∙ c.if-begins_with.true)

pub returns-in-Ok : goal.returns-in-Ok
returns-in-Ok c = parsed_ok c.args.base c.in-Ok.n c.args.word.now (sym c.begins_with.ensures ∙ c.if-begins_with.false) c.in-Ok.ensures.value

pub returns-in-Err : goal.returns-in-Err
returns-in-Err c = parsed_err c.args.base c.args.word.now (sym c.begins_with.ensures ∙ c.if-begins_with.false) c.in-Err.ensures.value
