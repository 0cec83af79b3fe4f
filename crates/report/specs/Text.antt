-- The text of a graph's report, by a look-up of instructions.
use Rattle.std.specs.Prelude.{◌≡◌, ℕ, List, [], ◌++◌, codes, sum_by, is_none, if◌then◌else◌, Some, None}
use Rattle.std.specs.declared.option.Option.{Option}
use Rattle.std.specs.Fmt.{decimal}
use Rattle.std.specs.List.{flat_map}
use Rattle.elf_image.specs.declared.image.Image.{Image}
use Rattle.x86_instr.specs.declared.instr.Op.{Op}
use Rattle.x86_instr.specs.declared.instr.Op.TheVariants as op
use Rattle.x86_instr.specs.declared.instr.Instr.{Instr}
use Rattle.instr_at.specs.At.{IsLookup}
use Rattle.memory_regions.specs.declared.region.Region.{Region}
use Rattle.predicates.specs.declared.site.Kind.{Kind}
use Rattle.predicates.specs.declared.site.Kind.TheVariants.{Step, Call, Outside, Return, End}
use Rattle.graph_data.specs.declared.graph.Site.{Site}
use Rattle.graph_data.specs.declared.graph.Function.{Function}
use Rattle.graph_data.specs.declared.graph.Graph.{Graph}
use Rattle.graph_lines.specs.Text.{hex, region_text, reason_text}
use Rattle.report.specs.Coverage.{LookUp}
use Rattle.report.specs.Counts.{capped, stands, sites_in, vertices_in, code_bytes, covered_bytes}

-- a number behind its name
unfoldable pub number_line : List ℕ → ℕ → List ℕ
number_line name n = name ++ decimal n ++ codes "\n"

-- a line that begins with a word and an address
abbrev pub at_line : List ℕ → ℕ → List ℕ → List ℕ
at_line word addr rest = word ++ hex addr ++ rest ++ codes "\n"

-- the lines of two regions, and of one
abbrev pub pair_line : List ℕ → ℕ → Region × Region → List ℕ
pair_line word addr pair =
    at_line word addr (codes " " ++ region_text pair.0 ++ codes " " ++ region_text pair.1)

-- the line of a region that a callee leaves as it was
abbrev pub keep_line : ℕ → Region → List ℕ
keep_line addr region = at_line (codes "keep ") addr (codes " " ++ region_text region)

-- the pair that is told apart at a site, where there is one
abbrev pub fork_line : ℕ → Option (Region × Region) → List ℕ
fork_line addr (Some pair) = pair_line (codes "fork ") addr pair
fork_line addr None = []

-- what is entered at an outside site: the system, where the instruction is a syscall, else a callee
abbrev pub entered_by : Op → List ℕ
entered_by op.Syscall = codes " syscall"
entered_by _ = codes " call"

-- the word for what an outside site enters, by the instruction there
abbrev pub entered : Option Instr → List ℕ
entered (Some i) = entered_by i.op
entered None = codes " call"

-- what a site says of its instruction; nothing where it goes on inside the graph
abbrev pub kind_line : LookUp → ℕ → Kind → List ℕ
kind_line look_up addr Step = []
kind_line look_up addr (Call entry) = []
kind_line look_up addr Outside = at_line (codes "outside ") addr (entered (look_up addr))
kind_line look_up addr Return = at_line (codes "return ") addr []
kind_line look_up addr (End reason) =
    at_line (codes "end ") addr (codes " " ++ reason_text reason)

-- the lines of a site
abbrev pub site_lines : LookUp → Site → List ℕ
site_lines look_up s =
    flat_map (pair_line (codes "sep ") s.addr) s.seps ++ fork_line s.addr s.fork
    ++ flat_map (keep_line s.addr) s.keeps ++ kind_line look_up s.addr s.kind

-- a function by its frame and its counts
abbrev pub function_line : Function → List ℕ
function_line f =
    codes "function " ++ hex f.entry ++ codes " frame " ++ decimal f.below ++ codes " "
    ++ decimal f.above ++ codes " sites " ++ decimal (capped (sites_in f))
    ++ number_line (codes " vertices ") (capped (vertices_in f))

-- the line of a function that is refused
abbrev pub refused_line : ℕ → List ℕ
refused_line entry = codes "refused " ++ hex entry ++ codes " notcode\n"

-- the lines of a function
abbrev pub function_lines : LookUp → Function → List ℕ
function_lines look_up f =
    if is_none f.refused then function_line f ++ flat_map (site_lines look_up) f.sites
    else refused_line f.entry

-- the first two lines
unfoldable pub entry_lines : ℕ → List ℕ
entry_lines entry = codes "foxdec report\nentry " ++ hex entry ++ codes "\n"

-- how many of the bytes of code are covered
unfoldable pub covered_line : ℕ → ℕ → List ℕ
covered_line covered code =
    codes "covered " ++ decimal covered ++ number_line (codes " of ") code

-- the first six lines
abbrev pub head_lines : LookUp → Image → Graph → List ℕ
head_lines look_up image g =
    entry_lines image.entry
    ++ number_line (codes "functions ") (capped (sum_by stands g.functions))
    ++ number_line (codes "sites ") (capped (sum_by sites_in g.functions))
    ++ number_line (codes "vertices ") (capped (sum_by vertices_in g.functions))
    ++ covered_line (capped (covered_bytes look_up image g.functions)) (capped (code_bytes image))

-- the text of a report
abbrev pub report_text : LookUp → Image → Graph → List ℕ
report_text look_up image g =
    head_lines look_up image g ++ flat_map (function_lines look_up) g.functions

-- this is the text of the report of a graph of an executable
pub record IsReport (image : Image) (g : Graph) (text : List ℕ) : Type 0 where
  pub look_up : ℕ → Option Instr
  pub found : IsLookup image look_up
  pub text_is : text ≡ report_text look_up image g
