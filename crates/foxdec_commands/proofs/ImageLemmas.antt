-- The image of a file that is not refused is in form.
use Rattle.std.proofs.Common.{◌≡◌, ℕ, Bool, true, false, List, [], ◌∷◌, ◌++◌, length, Some, None, Option, refl, sym, subst}
use Rattle.std.specs.Prelude.{nat_lt, if◌then◌else◌}
use Rattle.std.specs.Option.{option_map}
use Rattle.elf_image.specs.declared.image.Image.{Image}
use Rattle.elf_image.specs.declared.refusal.ElfRefusal.{ElfRefusal}
use Rattle.elf_image.specs.File.{loaded_of}
use Rattle.elf_image.specs.Image.{IsImage}
use Rattle.elf_image.specs.Refusal.{Tests, first_refusal, identification_tests, header_tests, segment_tests, refusal_of}
use Rattle.elf_image.proofs.LoadLemmas.{AreSegments-loaded, sound-loaded}
use Rattle.foxdec_commands.specs.declared.file_refusal.FileRefusal.TheVariants.{TooLong, Elf}
use Rattle.foxdec_commands.specs.FileRefusal.{limit, executable_refusal}
use Rattle.foxdec_commands.specs.Outcome.{IsExecutable}

-- where no test of two lists refuses, none of the second does
later : (tests others : Tests) → first_refusal (tests ++ others) ≡ None → first_refusal others ≡ None
later [] others e = e
later ((true, refusal) ∷ tests) others e = absurd (cc)
later ((false, refusal) ∷ tests) others e = later tests others e

not_refused : (o : Option ElfRefusal) → option_map Elf o ≡ None → o ≡ None
not_refused None e = refl
not_refused (Some refusal) e = absurd (cc)

read_on : (long : Bool) (o : Option ElfRefusal) → (if long then Some TooLong else option_map Elf o) ≡ None → o ≡ None
read_on true o e = absurd (cc)
read_on false o e = not_refused o e

accepted : (bytes : List ℕ) → executable_refusal bytes ≡ None → refusal_of bytes ≡ None
unfolding executable_refusal
accepted bytes e = read_on (nat_lt limit (length bytes)) (refusal_of bytes) e

loads : (bytes : List ℕ) → refusal_of bytes ≡ None → first_refusal (segment_tests (length bytes) (loaded_of bytes)) ≡ None
unfolding refusal_of
loads bytes e = later (identification_tests bytes ++ header_tests bytes) (segment_tests (length bytes) (loaded_of bytes)) e

pub image_in_form : (bytes : List ℕ) (image : Image) → IsExecutable bytes image → IsImage image
image_in_form bytes image is =
    let tests = first_refusal (segment_tests (length bytes) (loaded_of bytes)) in
    let sound = sound-loaded bytes (loaded_of bytes) tests refl refl (loads bytes (accepted bytes is.accepted)) in
    subst IsImage (sym is.loaded) (AreSegments-loaded bytes sound)
