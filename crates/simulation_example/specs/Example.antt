-- The world of the theorem for the small machine, its predicates and the graphs of its code.
use Rattle.std.specs.Prelude.{◌≡◌, ℕ, ◌+◌, ◌-◌, ◌%◌, ◌^◌, ◌≤◌, Option, Some, None}
use Rattle.std.specs.Prelude.{List, [], ◌∷◌, length, slice_get}
use Rattle.simulation.specs.Registers.{rsp}
use Rattle.simulation.specs.World as theory
use Rattle.simulation.specs.World.{World, Rules, View, Case}
use Rattle.simulation.specs.Valid.{Place}
use Rattle.simulation_example.specs.declared.machine.Instr.{Instr}
use Rattle.simulation_example.specs.declared.machine.Instr.TheVariants.{Nop, Draw, Swap}
use Rattle.simulation_example.specs.declared.machine.Instr.TheVariants.{Branch, Call, Syscall, Ret}
use Rattle.simulation_example.specs.declared.machine.Image.{Image}
use Rattle.simulation_example.specs.declared.predicate.Region.{Region}
use Rattle.simulation_example.specs.declared.predicate.Pred.{Pred}
use Rattle.simulation_example.specs.declared.graph.Vertex.{Vertex}
use Rattle.simulation_example.specs.declared.graph.Kind.{Kind}
use Rattle.simulation_example.specs.declared.graph.Kind.TheVariants as kind
use Rattle.simulation_example.specs.declared.graph.Site.{Site}
use Rattle.simulation_example.specs.declared.graph.Function.{Function}
use Rattle.simulation_example.specs.declared.graph.Graph.{Graph}
use Rattle.simulation_example.specs.Machine.{State, IsState, next_of, class_of, pushed, next}
use Rattle.simulation_example.specs.Machine.{named_value, target_of}
use Rattle.simulation_example.specs.Predicate.{Valuation, fresh, named, return_address, Sat}
use Rattle.simulation_example.specs.Predicate.{Entails, Returns, KeepsHold}
use Rattle.simulation_example.specs.Predicate.{entry_pred, step_of, after_of}

-- a case with its address and predicate
abbrev pub case_at : ℕ → Pred → Case Pred
case_at address pred = record { address = address; pred = pred }

-- the case that leads to an address after an ordinary instruction
abbrev pub case_to : ℕ → View Region → Instr → Pred → Case Pred
case_to address view instr pred = case_at address (step_of view.address instr pred)

-- the cases of an ordinary instruction: the next address, and a branch's target
unfoldable pub cases : View Region → Instr → Pred → Option (List (Case Pred))
cases view (Branch target) pred =
    Some
    (case_to (next_of view.address) view (Branch target) pred ∷
    case_to target view (Branch target) pred ∷ [])
cases view Nop pred = Some (case_to (next_of view.address) view Nop pred ∷ [])
cases view Draw pred = Some (case_to (next_of view.address) view Draw pred ∷ [])
cases view Swap pred = Some (case_to (next_of view.address) view Swap pred ∷ [])
cases view (Call target) pred = None
cases view Syscall pred = None
cases view Ret pred = None

-- the kind of a site, as the theorem has it
abbrev pub kind_of : Kind → theory.Kind
kind_of kind.Step = theory.Step
kind_of (kind.Call target) = theory.Call target
kind_of kind.Outside = theory.Outside
kind_of kind.Return = theory.Return
kind_of kind.End = theory.End 0

-- words at two distances from one address do not overlap
abbrev pub AreSeparate : Region → Region → Type 0
AreSeparate first second =
    (8 ≤ (second.offset + (2 ^ 64 - first.offset)) % 2 ^ 64) ×
    (8 ≤ (first.offset + (2 ^ 64 - second.offset)) % 2 ^ 64)

-- the address of a region
abbrev pub address_of : Region → Valuation → ℕ
address_of region valuation = (valuation.start.regs rsp + region.offset) % 2 ^ 64

-- the world of the theorem for an image; its code is not in memory, so no move can change it
abbrev pub example : Image → World
example image =
    record {
      State = State;
      Memory = ℕ → ℕ;
      Instr = Instr;
      Pred = Pred;
      Valuation = Valuation;
      Region = Region;
      Graph = Graph;
      Function = Function;
      Site = Site;
      Vertex = Vertex;
      functions = λ graph. graph.functions.items;
      entry = λ function. function.entry;
      below = λ function. function.below;
      above = λ function. function.above;
      refused = λ function. function.refused;
      sites = λ function. function.sites.items;
      address = λ site. site.address;
      kind = λ site. kind_of site.kind;
      seps = λ site. site.seps.items;
      fork = λ site. site.fork;
      keeps = λ site. site.keeps.items;
      vertices = λ site. site.vertices.items;
      pred = λ vertex. vertex.pred;
      out = λ vertex. vertex.out.items;
      IsState = IsState;
      rip = λ state. state.rip;
      reg = λ state. state.regs;
      fs = λ state. state.fs;
      memory = λ state. state.memory;
      word = λ memory. memory;
      instr_at = slice_get image.code.items;
      class_of = class_of;
      next_address = λ address instr. next_of address;
      next = next;
      pushed = pushed;
      fresh = fresh;
      named = named;
      return_address = return_address;
      named_value = named_value;
      Sat = Sat;
      Loaded = λ memory. Unit {0};
      Framed = λ below above state. Unit {0};
      Separate = λ first second valuation. AreSeparate first second;
      SameBytes = λ region valuation old new.
          old (address_of region valuation) ≡ new (address_of region valuation);
    }

-- what the rules of its graphs say by
abbrev pub rules : (image : Image) → Rules (example image)
rules image =
    record {
      Began = λ valuation state. valuation.start ≡ state;
      IsFormed = λ pred. Unit {0};
      IsEntry = λ pred. pred ≡ entry_pred;
      Entails = Entails;
      Returns = Returns;
      cases = cases;
      after = λ view instr pred. after_of view.address view.keeps pred;
      target = λ view instr pred. target_of instr;
      KeepsHold = λ view instr pred. KeepsHold view.keeps pred;
      -- regions at known distances from each other are told apart without an assumption
      SiteFact = λ kind view. length view.seps ≡ 0;
      ForkHolds = λ view instr pred. view.fork ≡ None;
    }

-- an instruction of an image at a site of a function
abbrev pub place_at : (image : Image) → Function → Site → Instr → Place (example image)
place_at image function site instr = record { function = function; site = site; instr = instr }
