-- The law of a step and that of a pair told apart, from the laws of a moment.
use Rattle.std.proofs.Common.{◌≡◌, ℕ, Some, refl, sym, subst}
use Rattle.std.specs.Prelude.{List}
use Rattle.sym_terms.specs.Value.{Valuation, value}
use Rattle.memory_regions.specs.declared.region.Region.{Region}
use Rattle.predicates.specs.Predicate.{Predicate}
use Rattle.x86_instr.specs.declared.class.Class.{Class}
use Rattle.x86_instr.specs.declared.class.Class.TheVariants as class
use Rattle.x86_instr.specs.declared.instr.Instr.{Instr}
use Rattle.x86_instr.specs.Classes.{class_of, GoesOn}
use Rattle.x86_instr.specs.Fits.{InForm}
use Rattle.x86_machine.specs.State.{State, IsState}
use Rattle.x86_machine.specs.Named.{named_value}
use Rattle.x86_machine.specs.Next as step
use Rattle.forest_meaning.specs.Separate.{Separate}
use Rattle.forest_meaning.specs.Assumed.{Keeps, Loaded}
use Rattle.predicate_meaning.specs.Sat.{register, Sat}
use Rattle.predicate_meaning.specs.Begin.{renamed}
use Rattle.step_rules.specs.View.{View, parted}
use Rattle.step_rules.specs.Names.{name}
use Rattle.step_rules.specs.Drop.{dropped}
use Rattle.step_rules.specs.Cases.{Case, aliased, cases_by}
use Rattle.step_rules.specs.Executed.{executed}
use Rattle.value_laws.proofs.Ground.{Ground}
use Rattle.value_laws.proofs.Scene.{Scene}
use Rattle.access_laws.proofs.DropLemmas.{sat_without}
use Rattle.access_laws.proofs.SceneLemmas.{scene_after, only_name, same_fs}
use Rattle.instruction_laws.specs.StepLaw.{SomeCase, IsOrdinary, StepLaw}
use Rattle.instruction_laws.specs.Fork.{ForkLaw}
use Rattle.instruction_laws.proofs.Moment.{Moment}
use Rattle.instruction_laws.proofs.ExecutedLemmas.{executed_holds}
use Rattle.instruction_laws.proofs.CaseLemmas.{on_case, jump_case}
use Rattle.instruction_laws.proofs.OperandLemmas.{operands_hold}
use Rattle.instruction_laws.proofs.LoadLemmas.{tables_hold}

-- the moment of a step, under the valuation with the site's new name, once the old one is dropped
module _ (g : Ground) (i : Instr) (p : Predicate) (s t : State) (u : Valuation) (choice : ℕ)
    (is : IsState s) (form : InForm i) (h : Sat p s u) (n : step.next s i choice ≡ Some t) where
  abbrev w : Valuation
  w = renamed u i.addr (named_value s i t)

  scene : Scene i s t w
  scene = scene_after g i s t u choice is form h.range n

  held : Sat (dropped i p) s w
  held =
      sat_without g.mentioned (name i) u w (only_name u i.addr (named_value s i t)) g.forest.forget scene.range
      (same_fs u i.addr (named_value s i t)) p s h

  moment : (v : View) (q : Predicate) → Keeps w v.known → Loaded v.known.image s.memory → Sat q s w → Moment v i s w q
  moment v q kept image k = record {
    ground = g;
    state = is;
    form = form;
    sat = k;
    operands = operands_hold g v i s t w scene kept image choice n;
    tables = tables_hold g v i s t w scene kept image choice n;
  }

  -- the cases of an ordinary instruction, by its class
  class_case : {v : View} → Moment v i s w (dropped i p) → (c : Class) → class_of i.op ≡ c → IsOrdinary c → (cs : List Case)
      → cases_by c v i p ≡ Some cs → SomeCase cs t w
  class_case m class.Calculation e ordinary cs k = on_case m choice t cs (subst GoesOn (sym e) tt) scene n k
  class_case m class.Transfer e ordinary cs k = on_case m choice t cs (subst GoesOn (sym e) tt) scene n k
  class_case m class.Division e ordinary cs k = on_case m choice t cs (subst GoesOn (sym e) tt) scene n k
  class_case m class.Jump e ordinary cs k = jump_case m i.op refl choice t cs n k
  class_case m class.Call e ordinary cs k = absurd ordinary
  class_case m class.Return e ordinary cs k = absurd ordinary
  class_case m class.SystemCall e ordinary cs k = absurd ordinary
  class_case m class.Stop e ordinary cs k = absurd ordinary

pub step_law : Ground → StepLaw
step_law g v i p s t u choice cs ordinary is form kept image h n k =
    let m = moment g i p s t u choice is form h n v (dropped i p) kept image (held g i p s t u choice is form h n) in
    class_case g i p s t u choice is form h n m (class_of i.op) refl ordinary cs k

-- ---- a pair told apart

aliased_holds : Ground → (p : Predicate) (pair : Region × Region) (s : State) (u : Valuation) → value u pair.0.at ≡ value u pair.1.at
    → Sat p s u → Sat (aliased p pair) s u
unfolding register
aliased_holds g p pair s u e h = record {
  range = h.range;
  fs_base = h.fs_base;
  registers = h.registers;
  flags = h.flags;
  bounds = h.bounds;
  forest = g.forest.alias u s.memory pair.0.at pair.0.bytes pair.1.at pair.1.bytes e p.forest h.forest;
}

parted_keeps : (u : Valuation) (v : View) (pair : Region × Region) → Separate (value u pair.0.at) pair.0.bytes (value u pair.1.at) pair.1.bytes
    → Keeps u v.known → Keeps u (parted v pair).known
parted_keeps u v pair a k = record { image = k.image; stack = k.stack; frame = k.frame; pairs = (a, k.pairs) }

pub fork_law : Ground → ForkLaw
fork_law g v i p s t u choice pair on is form kept image h n =
    let w = renamed u i.addr (named_value s i t) in
    let before = held g i p s t u choice is form h n in
    let step_of : (x : View) (q : Predicate) → Keeps w x.known → Loaded x.known.image s.memory → Sat q s w → Sat (executed i.op x i q) t w =
    λ x q k loaded b. executed_holds (moment g i p s t u choice is form h n x q k loaded b) i.op refl choice t on n (scene g i p s t u choice is form h n) in
    record {
      one = λ e. step_of v (aliased (dropped i p) pair) kept image (aliased_holds g (dropped i p) pair s w e before);
      separate = λ a. step_of (parted v pair) (dropped i p) (parted_keeps w v pair a kept) image before;
      neither = step_of v (dropped i p) kept image before;
    }
