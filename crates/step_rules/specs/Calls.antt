-- What is known where a callee begins and after its return, and where a call leads (System V x86-64 psABI, 3.2.1).
use Rattle.std.specs.Prelude.{ℕ, Option, Some, None, List, [], ◌∷◌, IsSome, All}
use Rattle.std.specs.Option.{option_and_then}
use Rattle.bits_core.specs.declared.width.Width.TheVariants.{W64}
use Rattle.sym_terms.specs.Plain.{constant_alone}
use Rattle.mem_forest.specs.Search.{value_at}
use Rattle.mem_forest.specs.Clear.{clear_values}
use Rattle.predicates.specs.Predicate.{Predicate}
use Rattle.x86_instr.specs.declared.class.Class.{Class}
use Rattle.x86_instr.specs.declared.class.Class.TheVariants as class
use Rattle.x86_instr.specs.declared.instr.Instr.{Instr}
use Rattle.x86_instr.specs.Classes.{class_of}
use Rattle.x86_instr.specs.Registers.{rax}
use Rattle.x86_machine.specs.Next.{next_address}
use Rattle.step_rules.specs.View.{View}
use Rattle.step_rules.specs.Terms.{number}
use Rattle.step_rules.specs.Names.{name_term}
use Rattle.step_rules.specs.Drop.{dropped}
use Rattle.step_rules.specs.Access.{with_register, known_term, with_bytes}
use Rattle.step_rules.specs.Steps.{with_flags}
use Rattle.step_rules.specs.Moves.{below_top}

-- the predicate once a call has stored the next address; no other class stores it
abbrev pub begun : Class → View → Instr → Predicate → Predicate
begun class.Calculation v i p = p
begun class.Transfer v i p = p
begun class.Division v i p = p
begun class.Jump v i p = p
begun class.Call v i p = with_bytes v p 8 (below_top p) (Some (number (next_address i)))
begun class.Return v i p = p
begun class.SystemCall v i p = p
begun class.Stop v i p = p

-- what is known where the callee begins
abbrev pub begin : View → Instr → Predicate → Predicate
begin v i p = begun (class_of i.op) v i (dropped i p)

-- the registers that may be changed when an instruction of the class is done: by a callee rax, rcx, rdx, rsi, rdi and
-- r8 to r11, by a system call rax, rcx and r11
abbrev pub changed_by : Class → List ℕ
changed_by class.Calculation = []
changed_by class.Transfer = []
changed_by class.Division = []
changed_by class.Jump = []
changed_by class.Call = 0 ∷ 1 ∷ 2 ∷ 6 ∷ 7 ∷ 8 ∷ 9 ∷ 10 ∷ 11 ∷ []
changed_by class.Return = []
changed_by class.SystemCall = 0 ∷ 1 ∷ 11 ∷ []
changed_by class.Stop = []

-- the predicate in which these registers are unknown
abbrev pub cleared : List ℕ → Predicate → Predicate
cleared [] p = p
cleared (r ∷ rs) p = cleared rs (with_register p r None)

-- the predicate in which only the kept regions have values
abbrev pub with_kept : View → Predicate → Predicate
with_kept v p = record p { forest = clear_values v.keeps p.forest }

-- what is known after the return, but for rax
abbrev pub came_back : View → Instr → Predicate → Predicate
came_back v i p = with_flags (with_kept v (cleared (changed_by (class_of i.op)) (begin v i p))) None

-- what is known after the return: rax is the name (whose old value no fact mentions by now, so nothing is dropped)
abbrev pub after : View → Instr → Predicate → Predicate
after v i p = with_register (dropped i (came_back v i p)) rax (Some (name_term i))

-- the constant to which an instruction of the class calls; None where it is no constant, and where nothing is called
abbrev pub target_by : Class → View → Instr → Predicate → Option ℕ
target_by class.Calculation v i p = None
target_by class.Transfer v i p = None
target_by class.Division v i p = None
target_by class.Jump v i p = None
target_by class.Call v i p = option_and_then constant_alone (known_term v i p W64 i.dst)
target_by class.Return v i p = None
target_by class.SystemCall v i p = None
target_by class.Stop v i p = None

-- the same, of an instruction: its operand is read before the push
abbrev pub call_target : View → Instr → Predicate → Option ℕ
call_target v i p = target_by (class_of i.op) v i (dropped i p)

-- each region that the callee keeps is a cell with a value where it begins
abbrev pub KeepsHold : View → Instr → Predicate → Type 0
KeepsHold v i p = All (λ k. IsSome (value_at k.at k.bytes (begin v i p).forest)) v.keeps
