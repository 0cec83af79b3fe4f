use Rattle.std.proofs.Common.{rules, ◌≡◌, ◌∷◌, ◌++◌, [], Some, sym, ◌∙◌}
use Rattle.site_lines.specs.Subject.{subject_of}
use Rattle.function_lifter.proofs.CallLemmas.{noted, none_noted}
use Rattle.function_lifter.proofs.build.note_target.Goals as goal

pub returns-in_ok-map_err : goal.returns-in_ok-map_err
returns-in_ok-map_err c =
    let old = c.args.targets.now.items in
    let more : c.push.new.self.items ≡ old ++ c.in-Some-2.target ∷ [] = search rules in
    noted (subject_of c.args.program.now) c.args.address c.args.preds.now c.args.lines.now c.in-Some.i c.in-Some-2.target old c.push.new.self.items
    c.requires (sym c.instr_at.ensures.value ∙ c.in-Some.is) (sym c.in_ok-target.ensures ∙ c.in-Some-2.is) more

pub returns-in_default-2 : goal.returns-in_default-2
returns-in_default-2 c =
    none_noted (subject_of c.args.program.now) c.args.address c.args.preds.now c.args.lines.now c.in-Some.i c.args.targets.now.items
    c.requires (sym c.instr_at.ensures.value ∙ c.in-Some.is) (λ t e. c.in_default-2.not-Some t (c.in_ok-target.ensures ∙ e))
