-- The executable and the graph of examples/push.elf and push.graph: push rbx, pop rbx, ret.
use Rattle.std.specs.Prelude.{ℕ, ◌-◌, ◌^◌, true, false, List, [], ◌∷◌, Some, None, slice_set}
use Rattle.simulation.specs.Valid.{Valid}
use Rattle.elf_image.specs.declared.image.Segment.{Segment}
use Rattle.elf_image.specs.declared.image.Image.{Image}
use Rattle.elf_image.specs.Image.{IsImage}
use Rattle.sym_terms.specs.declared.kinds.Sym.TheVariants.{Entry, Ra}
use Rattle.sym_terms.specs.Plain.{PlainSum, sum, more, single_atom, symbol}
use Rattle.sym_terms.specs.Plain as pieces
use Rattle.mem_forest.specs.Plain.{PlainForest, none, cell}
use Rattle.predicates.specs.Predicate.{Predicate}
use Rattle.predicates.specs.Entry.{entry_predicate}
use Rattle.predicates.specs.declared.site.Kind.TheVariants.{Step, Return}
use Rattle.graph_data.specs.declared.graph.Site.{Site}
use Rattle.graph_data.specs.declared.graph.Function.{Function}
use Rattle.graph_data.specs.declared.graph.Graph.{Graph}
use Rattle.graph_data.specs.WellFormed.{IsWellFormed}
use Rattle.x86_instr.specs.Registers.{rsp}
use Rattle.graph_runs.specs.World.{x86}
use Rattle.graph_rules.specs.Rules.{rules}

-- the 123 bytes of the file, of which the last three are the code
abbrev pub bytes : List ℕ
bytes =
    0x7f ∷ 0x45 ∷ 0x4c ∷ 0x46 ∷ 2 ∷ 1 ∷ 1 ∷ 0 ∷ 0 ∷ 0 ∷ 0 ∷ 0 ∷ 0 ∷ 0 ∷ 0 ∷ 0 ∷
    2 ∷ 0 ∷ 0x3e ∷ 0 ∷ 1 ∷ 0 ∷ 0 ∷ 0 ∷ 0x78 ∷ 0 ∷ 0x40 ∷ 0 ∷ 0 ∷ 0 ∷ 0 ∷ 0 ∷
    0x40 ∷ 0 ∷ 0 ∷ 0 ∷ 0 ∷ 0 ∷ 0 ∷ 0 ∷ 0 ∷ 0 ∷ 0 ∷ 0 ∷ 0 ∷ 0 ∷ 0 ∷ 0 ∷
    0 ∷ 0 ∷ 0 ∷ 0 ∷ 0x40 ∷ 0 ∷ 0x38 ∷ 0 ∷ 1 ∷ 0 ∷ 0 ∷ 0 ∷ 0 ∷ 0 ∷ 0 ∷ 0 ∷
    1 ∷ 0 ∷ 0 ∷ 0 ∷ 5 ∷ 0 ∷ 0 ∷ 0 ∷ 0 ∷ 0 ∷ 0 ∷ 0 ∷ 0 ∷ 0 ∷ 0 ∷ 0 ∷
    0 ∷ 0 ∷ 0x40 ∷ 0 ∷ 0 ∷ 0 ∷ 0 ∷ 0 ∷ 0 ∷ 0 ∷ 0x40 ∷ 0 ∷ 0 ∷ 0 ∷ 0 ∷ 0 ∷
    0x7b ∷ 0 ∷ 0 ∷ 0 ∷ 0 ∷ 0 ∷ 0 ∷ 0 ∷ 0x7b ∷ 0 ∷ 0 ∷ 0 ∷ 0 ∷ 0 ∷ 0 ∷ 0 ∷
    0 ∷ 0x10 ∷ 0 ∷ 0 ∷ 0 ∷ 0 ∷ 0 ∷ 0 ∷ 0x53 ∷ 0x5b ∷ 0xc3 ∷ []

-- where the file is loaded
abbrev pub base : ℕ
base = 0x400000

-- where its code stands
abbrev pub place : ℕ
place = 0x400078

-- the file as one segment, which is code and is not written
abbrev pub segment : Segment
segment = record { lo = base; size = 123; bytes = bytes; exec = true; write = false }

-- the executable
abbrev pub image : Image
image = record { entry = place; segs = segment ∷ [] }

-- the stack pointer of the entry
abbrev pub top : PlainSum
top = single_atom (symbol (Entry 4))

-- the address 8 bytes below it
abbrev pub below : PlainSum
below = sum (2 ^ 64 - 8) (more (symbol (Entry 4)) 1 pieces.none)

-- memory once rbx is pushed: its entry value below the return address
abbrev pub saved : PlainForest
saved =
    cell (top ∷ []) 8 (Some (single_atom (symbol Ra))) none
    (cell (below ∷ []) 8 (Some (single_atom (symbol (Entry 3)))) none none)

-- what is known after the push
abbrev pub after_push : Predicate
after_push = record entry_predicate { regs = slice_set entry_predicate.regs rsp (Some below); forest = saved }

-- what is known after the pop
abbrev pub after_pop : Predicate
after_pop = record entry_predicate { forest = saved }

-- the site of the push, with one vertex
abbrev pub push_site : Site
push_site =
    record {
      addr = place;
      kind = Step;
      seps = [];
      fork = None;
      keeps = [];
      vertices = record { pred = entry_predicate; out = (0x400079, 0) ∷ [] } ∷ [];
    }

-- the site of the pop
abbrev pub pop_site : Site
pop_site =
    record {
      addr = 0x400079;
      kind = Step;
      seps = [];
      fork = None;
      keeps = [];
      vertices = record { pred = after_push; out = (0x40007a, 0) ∷ [] } ∷ [];
    }

-- the site of the return
abbrev pub ret_site : Site
ret_site =
    record {
      addr = 0x40007a;
      kind = Return;
      seps = [];
      fork = None;
      keeps = [];
      vertices = record { pred = after_pop; out = [] } ∷ [];
    }

-- the function of the three sites
abbrev pub function : Function
function =
    record {
      entry = place;
      below = 65536;
      above = 4096;
      refused = None;
      sites = push_site ∷ pop_site ∷ ret_site ∷ [];
    }

-- the graph of that function
abbrev pub graph : Graph
graph = record { functions = function ∷ [] }

-- the image is in form, the graph is well formed, and it keeps the rules of every instruction
pub record Witnesses : Type 0 where
  pub image_formed : IsImage image
  pub graph_formed : IsWellFormed graph
  pub valid : Valid (x86 image) (rules image) graph
