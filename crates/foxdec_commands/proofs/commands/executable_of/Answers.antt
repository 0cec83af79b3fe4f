use Rattle.std.proofs.Common.{⊎_elim}
use Rattle.foxdec_commands.proofs.FileLemmas.{true_not_false, read_executable, read_refused}
use Rattle.foxdec_commands.proofs.commands.executable_of.Goals as goal

pub returns-in-Ok-clause-found : goal.returns-in-Ok-clause-found
returns-in-Ok-clause-found c = read_executable c.args.name.now c.args.bytes.now c.in-Ok.image c.requires c.in-Ok.ensures.found.0 c.in-Ok.ensures.found.1

pub returns-in-Err-2-clause-err : goal.returns-in-Err-2-clause-err
returns-in-Err-2-clause-err c =
    ⊎_elim (λ none. absurd (true_not_false c.eq.result (rw none at c.eq.ensures) c.if-eq.false))
    (λ applies. read_refused c.args.name.now c.args.bytes.now c.in-Err.refusal c.requires applies) c.in-Err.ensures.refused
