use Rattle.std.proofs.Common.{refl}
use Rattle.foxdec_commands.specs.Outcome.{IsExecutable, IsRefusedFile}
use Rattle.foxdec_commands.specs.declared.file_refusal.FileRefusal.TheVariants.{TooLong}
use Rattle.foxdec_commands.specs.Outside.{files_of}
use Rattle.foxdec_commands.specs.Guarantee.{IsShown}
use Rattle.foxdec_commands.specs.FileResult.{IsOnlyRefused, IsRefused, FailedRead, NoRead}
use Rattle.foxdec_commands.specs.Ending.{file_refused}
use Rattle.foxdec_commands.specs.View.{refused_of}
use Rattle.foxdec_commands.proofs.ShownLemmas.{IsShown-map, IfErr-map}
use Rattle.foxdec_commands.proofs.FileResultLemmas.{IsRefused-all, too_long}
use Rattle.foxdec_commands.proofs.FileLemmas.{file_too_long}
use Rattle.foxdec_commands.proofs.commands.take_executable.Goals as goal

pub returns-in-Ok-clause-err : goal.returns-in-Ok-clause-err
returns-in-Ok-clause-err g c =
    let name = c.args.name.now in
    let known = g.S.Shelf.file c.args.shelf.now name in
    let files = files_of g.S.Shelf c.args.shelf.now c.read_whole.new.shelf in
    let bytes = c.in-Ok.bytes.items in
    let Here = IsOnlyRefused IsExecutable (IsRefusedFile name) bytes in
    let Refused = IsRefused IsExecutable (IsRefusedFile name) known in
    IfErr-map (λ r. IsShown Here NoRead ⊥ (refused_of r)) (λ r. IsShown Refused (FailedRead files name) ⊥ (refused_of r))
    (λ r. IsShown-map Here Refused NoRead (FailedRead files name) ⊥ ⊥
    (IsRefused-all IsExecutable (IsRefusedFile name) known bytes c.in-Ok.ensures.bytes) (λ name none. absurd none) (λ none. none) (refused_of r))
    c.executable_of.result (rw c.deref.ensures.value at c.executable_of.ensures.err)

pub returns-in-Err-TooLong-clause-err : goal.returns-in-Err-TooLong-clause-err
returns-in-Err-TooLong-clause-err g c =
    let name = c.args.name.now in
    too_long (λ bytes. IsOnlyRefused IsExecutable (IsRefusedFile name) bytes (file_refused name TooLong)) (g.S.Shelf.file c.args.shelf.now name)
    (file_too_long name) ((rw c.in-Err-TooLong.field-0-is at c.in-Err-TooLong.ensures).too_long refl)
