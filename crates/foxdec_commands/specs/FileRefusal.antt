-- Why the file of an executable is refused.
use Rattle.std.specs.Prelude.{ℕ, List, length, codes, nat_lt, if◌then◌else◌, Some}
use Rattle.std.specs.Option.{option_map}
use Rattle.std.specs.declared.option.Option.{Option}
use Rattle.elf_image.specs.Refusal.{refusal_of, number_of_refusal, name_of_refusal}
use Rattle.foxdec_commands.specs.declared.file_refusal.FileRefusal.{FileRefusal}
use Rattle.foxdec_commands.specs.declared.file_refusal.FileRefusal.TheVariants.{TooLong, Elf}

-- the most bytes of a file
abbrev pub limit : ℕ
limit = 67108864

-- a file over the limit is refused for that, each other one as the reader refuses it
unfoldable pub executable_refusal : List ℕ → Option FileRefusal
executable_refusal bytes =
    if nat_lt limit (length bytes) then Some TooLong else option_map Elf (refusal_of bytes)

-- the name of a refusal
abbrev pub refusal_name : FileRefusal → List ℕ
refusal_name TooLong = codes "TooLong"
refusal_name (Elf refusal) = name_of_refusal refusal

-- and its number
abbrev pub refusal_number : FileRefusal → ℕ
refusal_number TooLong = 16
refusal_number (Elf refusal) = number_of_refusal refusal
