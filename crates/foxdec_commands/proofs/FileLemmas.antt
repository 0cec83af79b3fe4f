-- The refusal of an executable's file, by the limit and by the reader.
use Rattle.std.proofs.Common.{◌≡◌, ℕ, ◌<◌, ◌≤◌, Bool, true, false, cond, List, length, refl, sym, ◌∙◌, ap, Some, None}
use Rattle.std.proofs.lemmas.Bool.{lt-ltb, le-ltb}
use Rattle.std.specs.Prelude.{nat_lt}
use Rattle.std.specs.Option.{option_map}
use Rattle.elf_image.specs.declared.image.Image.{Image}
use Rattle.elf_image.specs.declared.refusal.ElfRefusal.{ElfRefusal}
use Rattle.elf_image.specs.Refusal.{refusal_of}
use Rattle.elf_image.specs.Loaded.{image_of}
use Rattle.foxdec_commands.specs.declared.file_refusal.FileRefusal.{FileRefusal}
use Rattle.foxdec_commands.specs.declared.file_refusal.FileRefusal.TheVariants.{TooLong, Elf}
use Rattle.foxdec_commands.specs.FileRefusal.{limit, executable_refusal}
use Rattle.foxdec_commands.specs.Ending.{file_refused}
use Rattle.foxdec_commands.specs.Outcome.{IsExecutable, IsRefusedFile}
use Rattle.foxdec_commands.specs.FileResult.{IsOnlyOf, IsOnlyRefused}

-- a test is not both
pub true_not_false : (b : Bool) → b ≡ true → b ≡ false → ⊥
true_not_false b is not = cc

-- over the limit a file is refused for that
over_limit : (bytes : List ℕ) → limit < length bytes → executable_refusal bytes ≡ Some TooLong
unfolding executable_refusal
over_limit bytes over =
    let test : nat_lt limit (length bytes) ≡ true = lt-ltb limit (length bytes) over in
    ap (λ (b : Bool). cond b (Some TooLong) (option_map Elf (refusal_of bytes))) test

-- within it the reader's refusal is the file's
within_limit : (bytes : List ℕ) → length bytes ≤ limit → executable_refusal bytes ≡ option_map Elf (refusal_of bytes)
unfolding executable_refusal
within_limit bytes within =
    let test : nat_lt limit (length bytes) ≡ false = le-ltb limit (length bytes) within in
    ap (λ (b : Bool). cond b (Some TooLong) (option_map Elf (refusal_of bytes))) test

-- a refusal that applies is the only one
alone : (file bytes : List ℕ) (refusal : FileRefusal) → executable_refusal bytes ≡ Some refusal → IsOnlyRefused IsExecutable (IsRefusedFile file) bytes (file_refused file refusal)
alone file bytes refusal applies = record {
  refused = record { refusal = refusal; applies = applies; says = refl };
  only = λ e other. let same : refusal ≡ other.refusal = cc (applies, other.applies) in ap (file_refused file) same ∙ sym other.says;
  no_value = λ image form. cc (applies, form.accepted);
}

-- a file over the limit is refused
pub file_too_long : (file bytes : List ℕ) → limit < length bytes → IsOnlyRefused IsExecutable (IsRefusedFile file) bytes (file_refused file TooLong)
file_too_long file bytes over = alone file bytes TooLong (over_limit bytes over)

-- what the reader gives is the only image of the bytes
pub read_executable : (file bytes : List ℕ) (image : Image) → length bytes ≤ limit → refusal_of bytes ≡ None → image ≡ image_of bytes → IsOnlyOf IsExecutable (IsRefusedFile file) bytes image
read_executable file bytes image within none loaded =
    let accepted : executable_refusal bytes ≡ None = within_limit bytes within ∙ ap (option_map Elf) none in record {
      form = record { accepted = accepted; loaded = loaded };
      only = λ other form. loaded ∙ sym form.loaded;
      kept = λ e refused. cc (refused.applies, accepted);
    }

-- and what it refuses is refused
pub read_refused : (file bytes : List ℕ) (refusal : ElfRefusal) → length bytes ≤ limit → refusal_of bytes ≡ Some refusal → IsOnlyRefused IsExecutable (IsRefusedFile file) bytes (file_refused file (Elf refusal))
read_refused file bytes refusal within applies = alone file bytes (Elf refusal) (within_limit bytes within ∙ ap (option_map Elf) applies)
