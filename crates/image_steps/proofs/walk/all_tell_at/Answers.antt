use Rattle.std.proofs.Common.{◌≡◌, rules}
use Rattle.std.specs.Option.{option_copied}
use Rattle.instr_at.specs.At.{instr_at}
use Rattle.pred_moves.specs.Views.{view_of}
use Rattle.site_lines.specs.Subject.{subject_of}
use Rattle.image_steps.proofs.TellLemmas.{told_at}
use Rattle.image_steps.proofs.walk.all_tell_at.Goals as goal

pub returns-clause-value : goal.returns-clause-value
returns-clause-value g c =
    let a = c.as_ref.ensures.value in
    let b = c.instr_at-i.ensures.value in
    let i : option_copied c.as_ref.result ≡ instr_at c.args.program.now.image.now c.args.address = search rules in
    told_at (subject_of c.args.program.now) c.args.address (view_of c.bare_view-view.result) (option_copied c.as_ref.result) _ c.in_ok-told.told c.bare_view-view.ensures i c.in_ok-told.ensures.value
