use Rattle.std.proofs.Common.{◌∷◌, map, string_bytes}
use Rattle.foxdec_commands.specs.Words.{lift, root_word, extern_word, addresses_of}
use Rattle.foxdec_commands.specs.Outcome.{IsExecutable, IsRefusedFile, GivesGraph, IsDue}
use Rattle.foxdec_commands.specs.Outside.{files_of}
use Rattle.foxdec_commands.specs.Guarantee.{IsUnreadable}
use Rattle.foxdec_commands.specs.FileResult.{IsRefused, FailedRead}
use Rattle.foxdec_commands.specs.View.{refused_of, ending_of}
use Rattle.foxdec_commands.proofs.ShownLemmas.{IsShown-map, IsShown-or_memory}
use Rattle.foxdec_commands.proofs.LiftLemmas.{lift_refused, lift_due, graph_shown}
use Rattle.foxdec_commands.proofs.commands.lift.Goals as goal

pub returns-in-Err : goal.returns-in-Err
returns-in-Err g c =
    let file = c.args.file.now in
    let words = map string_bytes c.args.words.now in
    let asked = lift file (addresses_of root_word words) (addresses_of extern_word words) in
    let files = files_of g.S.Shelf c.args.shelf.now c.take_executable.new.shelf in
    IsShown-map (IsRefused IsExecutable (IsRefusedFile file) (files.known file)) (IsDue files.known asked) (FailedRead files file) (IsUnreadable files asked) ⊥ ⊥
    (lift_refused files.known file (addresses_of root_word words) (addresses_of extern_word words)) (λ name failed. (failed.0, failed.1)) (λ none. none) (refused_of c.in-Err.refusal) c.in-Err.ensures.err

pub returns-in-Ok : goal.returns-in-Ok
returns-in-Ok g c =
    let file = c.args.file.now in
    let words = map string_bytes c.args.words.now in
    let roots = addresses_of root_word words in
    let externs = addresses_of extern_word words in
    let asked = lift file roots externs in
    let files = files_of g.S.Shelf c.args.shelf.now c.take_executable.new.shelf in
    let image = c.in-Ok.image in
    IsShown-or_memory (IsDue files.known asked) (IsUnreadable files asked) ⊥ (GivesGraph image (image.entry ∷ roots))
    (λ e is. graph_shown (IsDue files.known asked) (IsUnreadable files asked) image (image.entry ∷ roots) e is
    (lift_due files.known file roots externs image c.in-Ok.ensures.found e is))
    (ending_of c.lifted_output.result) c.lifted_output.ensures
