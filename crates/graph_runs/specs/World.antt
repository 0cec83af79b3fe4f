-- The world of the theorem over runs: x86-64, predicates and graphs, and an executable.
use Rattle.std.specs.Prelude.{◌≡◌, ℕ, ◌+◌, ◌%◌, ◌^◌, ◌<◌, is_some}
use Rattle.simulation.specs.World.{World}
use Rattle.simulation.specs.Theorem.{SafeRuns}
use Rattle.sym_terms.specs.Value.{Valuation, value}
use Rattle.memory_regions.specs.declared.region.Region.{Region}
use Rattle.elf_image.specs.declared.image.Image.{Image}
use Rattle.x86_instr.specs.declared.instr.Instr.{Instr}
use Rattle.x86_machine.specs.State.{State, IsState, reg, rsp}
use Rattle.x86_machine.specs.Next.{next}
use Rattle.x86_machine.specs.Named.{named_value}
use Rattle.predicates.specs.Predicate.{Predicate}
use Rattle.graph_data.specs.declared.graph.Vertex.{Vertex}
use Rattle.graph_data.specs.declared.graph.Site.{Site}
use Rattle.graph_data.specs.declared.graph.Function.{Function}
use Rattle.graph_data.specs.declared.graph.Graph.{Graph}
use Rattle.forest_meaning.specs.Assumed.{Loaded, Framed, PairHolds}
use Rattle.predicate_meaning.specs.Begin.{word, fresh, with_name}
use Rattle.predicate_meaning.specs.Sat.{Sat}
use Rattle.instr_at.specs.At.{instr_at}
use Rattle.graph_runs.specs.Classes.{class_of, pushed, kind_of}

-- a region has the same bytes in both memories
abbrev pub SameBytes : Region → Valuation → (ℕ → ℕ) → (ℕ → ℕ) → Type 0
SameBytes region u old new =
    (k : ℕ) → k < region.bytes →
    old ((value u region.at + k) % 2 ^ 64) ≡ new ((value u region.at + k) % 2 ^ 64)

-- the machine with an executable, and the graphs that are meant for it
abbrev pub x86 : Image → World
x86 image =
    record {
      State = State;
      Memory = ℕ → ℕ;
      Instr = Instr;
      Pred = Predicate;
      Valuation = Valuation;
      Region = Region;
      Graph = Graph;
      Function = Function;
      Site = Site;
      Vertex = Vertex;
      functions = λ graph. graph.functions;
      entry = λ function. function.entry;
      below = λ function. function.below;
      above = λ function. function.above;
      refused = λ function. is_some function.refused;
      sites = λ function. function.sites;
      address = λ site. site.addr;
      kind = λ site. kind_of site.kind;
      seps = λ site. site.seps;
      fork = λ site. site.fork;
      keeps = λ site. site.keeps;
      vertices = λ site. site.vertices;
      pred = λ vertex. vertex.pred;
      out = λ vertex. vertex.out;
      IsState = IsState;
      rip = λ state. state.rip;
      reg = reg;
      fs = λ state. state.fs_base;
      memory = λ state. state.memory;
      word = word;
      instr_at = instr_at image;
      class_of = class_of;
      next_address = λ address i. (address + i.len) % 2 ^ 64;
      next = next;
      pushed = pushed;
      fresh = fresh;
      named = with_name;
      return_address = λ u. u.ra;
      named_value = named_value;
      Sat = Sat;
      Loaded = Loaded image;
      Framed = λ below above state. Framed image below above (reg state rsp);
      Separate = λ first second u. PairHolds u (first, second);
      SameBytes = SameBytes;
    }

-- every run of the executable from a function of the graph that keeps what it prints is safe
abbrev pub HasSafeRuns : Image → Graph → Type 0
HasSafeRuns image graph = SafeRuns (x86 image) graph
