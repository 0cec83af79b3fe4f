use Rattle.foxdec_commands.specs.Words.{show}
use Rattle.foxdec_commands.specs.Outcome.{IsExecutable, IsRefusedFile, GivesListing, IsDue}
use Rattle.foxdec_commands.specs.Outside.{files_of}
use Rattle.foxdec_commands.specs.Guarantee.{IsUnreadable}
use Rattle.foxdec_commands.specs.FileResult.{IsRefused, FailedRead}
use Rattle.foxdec_commands.specs.View.{refused_of, ending_of}
use Rattle.foxdec_commands.proofs.ShownLemmas.{IsShown-map, IsShown-or_memory}
use Rattle.foxdec_commands.proofs.DueLemmas.{show_refused, listing_due, listing_shown}
use Rattle.foxdec_commands.proofs.commands.show.Goals as goal

pub returns-in-Err : goal.returns-in-Err
returns-in-Err g c =
    let file = c.args.file.now in
    let asked = show file c.args.address c.args.count in
    let files = files_of g.S.Shelf c.args.shelf.now c.take_executable.new.shelf in
    IsShown-map (IsRefused IsExecutable (IsRefusedFile file) (files.known file)) (IsDue files.known asked) (FailedRead files file) (IsUnreadable files asked) ⊥ ⊥
    (show_refused files.known file c.args.address c.args.count) (λ name failed. (failed.0, failed.1)) (λ none. none) (refused_of c.in-Err.refusal) c.in-Err.ensures.err

pub returns-in-Ok : goal.returns-in-Ok
returns-in-Ok g c =
    let file = c.args.file.now in
    let asked = show file c.args.address c.args.count in
    let files = files_of g.S.Shelf c.args.shelf.now c.take_executable.new.shelf in
    let image = c.in-Ok.image in
    IsShown-or_memory (IsDue files.known asked) (IsUnreadable files asked) ⊥ (GivesListing image c.args.count c.args.address)
    (λ e is. listing_shown (IsDue files.known asked) (IsUnreadable files asked) image c.args.count c.args.address e is
    (listing_due files.known file c.args.address c.args.count c.instr_at_laws.ensures.one image c.in-Ok.ensures.found e is))
    (ending_of c.list_output.result) c.list_output.ensures
