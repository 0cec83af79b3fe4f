use Rattle.std.proofs.Common.{◌≡◌, ◌↔◌, map, subst}
use Rattle.std.specs.Prelude.{IfOk, IsTrue}
use Rattle.bank_values.specs.ReadBack.{predicate_at}
use Rattle.lift_rounds.specs.Known.{pred_at, reading}
use Rattle.site_lines.specs.Subject.{Subject, subject_of}
use Rattle.image_steps.specs.Tells.{tells, AllPass}
use Rattle.image_steps.specs.Walks.{subject_at}
use Rattle.image_steps.proofs.walk.WalkJumps.resolves.Goals as goal

pub returns-clause-value : goal.returns-clause-value
returns-clause-value g c =
    let a = c.program_of-program.ensures in
    let b = c.as_slice.ensures.value in
    let same : subject_of c.program_of-program.result ≡ subject_at c.args.self.now = cc in
    let known = map (pred_at (reading (predicate_at (g.B.Bank.terms c.args.self.now.bank.now)) c.args.made.now)) c.args.site.now in
    subst (λ (s : Subject). IfOk c.all_tell_at.result (λ r. IsTrue r ↔ AllPass (tells s c.args.address) known)) same c.all_tell_at.ensures.value
