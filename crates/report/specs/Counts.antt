-- What a report counts.
use Rattle.std.specs.Prelude.{ℕ, ◌-◌, ◌^◌, min, List, length, sum_by, is_none, if◌then◌else◌}
use Rattle.elf_image.specs.declared.image.Image.{Image}
use Rattle.graph_data.specs.declared.graph.Function.{Function}
use Rattle.report.specs.Coverage.{LookUp, sites_of, code_size, covered_in}

-- a count as it is printed: at most 2^64 - 1
abbrev pub capped : ℕ → ℕ
capped n = min n (2 ^ 64 - 1)

-- a function that is not refused counts
abbrev pub stands : Function → ℕ
stands f = if is_none f.refused then 1 else 0

-- the sites of a function, and of functions
abbrev pub sites_in : Function → ℕ
sites_in f = length (sites_of f)

-- the vertices of a function
abbrev pub vertices_in : Function → ℕ
vertices_in f = sum_by (λ s. length s.vertices) (sites_of f)

-- the file bytes of executable segments, and those in an instruction of some site
abbrev pub code_bytes : Image → ℕ
code_bytes image = sum_by code_size image.segs

-- how many of them some site's instruction covers
unfoldable pub covered_bytes : LookUp → Image → List Function → ℕ
covered_bytes look_up image functions = sum_by (covered_in look_up functions) image.segs
