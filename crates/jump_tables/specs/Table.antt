-- The numbers of a jump table.
use Rattle.std.specs.Prelude.{ℕ, zero, suc, ◌+◌, ◌-◌, ◌*◌, ◌^◌, Bool, ◌&&◌, ◌||◌, ◌==◌, nat_lt, nat_le, if◌then◌else◌, Option, Some, None, List, [], ◌∷◌}
use Rattle.std.specs.Option.{option_map}
use Rattle.bits_core.specs.declared.width.Width.{Width}
use Rattle.bits_core.specs.declared.width.Width.TheVariants.{W8, W16, W32, W64}
use Rattle.bits_core.specs.Width.{bytes_of}
use Rattle.bits_core.specs.LowBits.{sext_of}
use Rattle.elf_image.specs.declared.image.Image.{Image}
use Rattle.elf_image.specs.Image.{fixed_of}
use Rattle.jump_tables.specs.declared.table.Table.{Table}
use Rattle.jump_tables.specs.Ascending.{ascending_of}

-- the sizes of an entry, in bytes
abbrev pub is_entry_size : ℕ → Bool
is_entry_size n = (n == 1) || ((n == 2) || ((n == 4) || (n == 8)))

-- the width of an entry of such a size
abbrev pub width_of : ℕ → Width
width_of n = if n == 1 then W8 else if n == 2 then W16 else if n == 4 then W32 else W64

-- entry x, extended to 64 bits by its sign or by zeros; None where its bytes are not fixed
abbrev pub entry_at : Image → Table → ℕ → Option ℕ
entry_at image t x =
    option_map (λ n. if t.signed then sext_of t.width n else n)
    (fixed_of image (t.base + t.scale * x) (bytes_of t.width))

-- a list with one more number in front; None where either is None
abbrev pub in_front : Option ℕ → Option (List ℕ) → Option (List ℕ)
in_front None ns = None
in_front (Some n) ns = option_map (λ ns. n ∷ ns) ns

-- k entries from entry x on; None where one of them is None
abbrev pub entries : Image → Table → ℕ → ℕ → Option (List ℕ)
entries image t x zero = Some []
entries image t x (suc k) = in_front (entry_at image t x) (entries image t (x + 1) k)

-- whether the entries low to high are at most 1,024 and end at 2^64 or below
abbrev pub is_in_reach : Table → ℕ → ℕ → Bool
is_in_reach t low high =
    nat_lt (high - low) 1024 && nat_le (t.base + t.scale * high + bytes_of t.width) (2 ^ 64)

-- the entries low to high, ascending, each once; None where they are not in reach, or one of them is not fixed
abbrev pub table_values : Image → Table → ℕ → ℕ → Option (List ℕ)
table_values image t low high =
    if is_in_reach t low high then option_map ascending_of (entries image t low (high + 1 - low)) else None
