-- The bytes of code that lie in the instruction of a site, by a look-up of instructions.
use Rattle.std.specs.Prelude.{ℕ, zero, suc, ◌+◌, ◌&&◌, Bool, false, if◌then◌else◌, List, [], length, nat_le, nat_lt, is_none, Some, None}
use Rattle.std.specs.declared.option.Option.{Option}
use Rattle.std.specs.List.{list_any}
use Rattle.elf_image.specs.declared.image.Segment.{Segment}
use Rattle.x86_instr.specs.declared.instr.Instr.{Instr}
use Rattle.graph_data.specs.declared.graph.Site.{Site}
use Rattle.graph_data.specs.declared.graph.Function.{Function}
use Rattle.report.specs.Marks.{flag}

-- the sites of a function; one that is refused has none
abbrev pub sites_of : Function → List Site
sites_of f = if is_none f.refused then f.sites else []

-- a look-up of the instruction at an address
abbrev pub LookUp : Type 0
LookUp = ℕ → Option Instr

-- a byte lies among those of an instruction at an address
abbrev pub is_in : ℕ → Option Instr → ℕ → Bool
is_in address (Some i) byte = nat_le address byte && nat_lt byte (address + i.len)
is_in address None byte = false

-- a byte lies in the instruction at a site
abbrev pub covers : LookUp → ℕ → Site → Bool
covers look_up byte site = is_in site.addr (look_up site.addr) byte

-- a byte lies in the instruction at some site of the functions
abbrev pub is_covered : LookUp → List Function → ℕ → Bool
is_covered look_up functions byte =
    list_any (λ f. list_any (covers look_up byte) (sites_of f)) functions

-- how many of so many bytes from an address on do
abbrev pub covered_from : LookUp → List Function → ℕ → ℕ → ℕ
covered_from look_up functions address zero = 0
covered_from look_up functions address (suc n) =
    covered_from look_up functions address n + flag (is_covered look_up functions (address + n))

-- the file bytes of a segment that is executable, and those of them that are covered
abbrev pub code_size : Segment → ℕ
code_size s = if s.exec then length s.bytes else 0

-- how many of a segment's code bytes some site's instruction covers
unfoldable pub covered_in : LookUp → List Function → Segment → ℕ
covered_in look_up functions s = covered_from look_up functions s.lo (code_size s)
