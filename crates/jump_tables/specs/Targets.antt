-- Where a jump leads that is a constant after one of a list of numbers.
use Rattle.std.specs.Prelude.{ℕ, ◌+◌, ◌%◌, ◌^◌, if◌then◌else◌, Option, Some, None, List, map}
use Rattle.std.specs.List.{list_all}
use Rattle.std.specs.Option.{option_map, option_and_then}
use Rattle.elf_image.specs.declared.image.Image.{Image}
use Rattle.elf_image.specs.Image.{is_code_at}
use Rattle.sym_terms.specs.Plain.{PlainSum, constant_alone}
use Rattle.sym_terms.specs.Normal.{minus}
use Rattle.jump_tables.specs.Ascending.{ascending_of}

-- the address c after a number, modulo 2^64
abbrev pub address_after : ℕ → ℕ → ℕ
address_after c n = (c + n) % 2 ^ 64

-- the addresses c after the numbers; None where one of them is not code
abbrev pub code_after : Image → ℕ → List ℕ → Option (List ℕ)
code_after image c numbers =
    if list_all (λ n. is_code_at image (address_after c n)) numbers then Some (map (address_after c) numbers) else None

-- the addresses to which a jump leads where the key is one of the numbers, ascending, each once; None where the jump is
-- no constant after the key, or an address is not code
abbrev pub targets : Image → PlainSum → PlainSum → List ℕ → Option (List ℕ)
targets image jump key numbers =
    option_map ascending_of
    (option_and_then (λ c. code_after image c numbers) (constant_alone (minus jump key)))
