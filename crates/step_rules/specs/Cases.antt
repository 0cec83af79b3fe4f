-- Where an instruction leads, and what is known there: the twin of the machine's step.
use Rattle.std.specs.Prelude.{ℕ, false, if◌then◌else◌, Option, Some, None, List, [], ◌∷◌, map}
use Rattle.std.specs.Option.{option_map, option_or}
use Rattle.bits_core.specs.declared.width.Width.TheVariants.{W64}
use Rattle.elf_image.specs.Image.{is_code_at}
use Rattle.sym_terms.specs.Plain.{PlainSum, constant_alone}
use Rattle.memory_regions.specs.declared.region.Region.{Region}
use Rattle.mem_forest.specs.Alias.{alias}
use Rattle.predicates.specs.Predicate.{Predicate}
use Rattle.x86_instr.specs.declared.class.Class.{Class}
use Rattle.x86_instr.specs.declared.class.Class.TheVariants as class
use Rattle.x86_instr.specs.declared.instr.Op.{Op}
use Rattle.x86_instr.specs.declared.instr.Operand.{Operand}
use Rattle.x86_instr.specs.declared.instr.Operand.TheVariants as operand
use Rattle.x86_instr.specs.declared.instr.Instr.{Instr}
use Rattle.x86_instr.specs.Classes.{class_of}
use Rattle.x86_instr.specs.Groups.{Group, Calculates, Moves, Stacks, Controls, group_of}
use Rattle.x86_instr.specs.Groups.{Control, Branching, Jumping, Calling, Returning, Passing, Asking, Stopping}
use Rattle.x86_machine.specs.Next.{next_address}
use Rattle.step_rules.specs.View.{View, parted}
use Rattle.step_rules.specs.Names.{name_term}
use Rattle.step_rules.specs.Drop.{dropped}
use Rattle.step_rules.specs.Access.{read_term, after_read, address_term_of}
use Rattle.step_rules.specs.Bounds.{where_holds, opposite_of}
use Rattle.step_rules.specs.Tables.{loaded_values, with_values, chosen_targets}
use Rattle.step_rules.specs.Executed.{executed}
use Rattle.step_rules.specs.Calls.{after}

-- an address to which an instruction leads, and what is known there
pub record Case : Type 0 where
  pub address : ℕ
  pub pred : Predicate

-- a case by its parts
abbrev pub case : ℕ → Predicate → Case
case address pred = record { address = address; pred = pred }

-- the predicate in which the first region's address is one more name of the second's cell, where it can be
abbrev pub aliased : Predicate → Region × Region → Predicate
aliased p pair = record p { forest = alias pair.0.at pair.0.bytes pair.1.at pair.1.bytes p.forest }

-- what is known at the next instruction; where a pair is told apart, its regions are one, or separate, or neither
abbrev pub goes_on : View → Instr → Predicate → Option (Region × Region) → List Case
goes_on v i p None = case (next_address i) (executed i.op v i p) ∷ []
goes_on v i p (Some pair) =
    case (next_address i) (executed i.op v i (aliased p pair))
    ∷ case (next_address i) (executed i.op (parted v pair) i p)
    ∷ case (next_address i) (executed i.op v i p)
    ∷ []

-- ---- jumps

-- the number of an immediate operand; 0 for every other
abbrev pub direct : Operand → ℕ
direct operand.None = 0
direct (operand.Reg r) = 0
direct (operand.High r) = 0
direct (operand.Imm n) = n
direct (operand.Mem pl) = 0

-- a conditional jump: its target where the condition holds, and the next address where it doesn't
abbrev pub branches : View → Instr → Predicate → List Case
branches v i p =
    case (direct i.dst) (where_holds i.cc p)
    ∷ case (next_address i) (where_holds (opposite_of i.cc) p)
    ∷ []

-- a constant, where it is code
abbrev pub constant_target : View → Option ℕ → Option (List ℕ)
constant_target v None = None
constant_target v (Some c) = if is_code_at v.known.image c then Some (c ∷ []) else None

-- where a jump to a term leads: to a constant that is code, else as the bounds tell; None where neither says
abbrev pub jump_targets : View → Predicate → Option PlainSum → Option (List ℕ)
jump_targets v p None = None
jump_targets v p (Some t) =
    option_or (constant_target v (constant_alone t)) (chosen_targets v.known.image t p.bounds)

-- the same predicate at each address to which a jump to a term leads
abbrev pub cases_to : View → Predicate → Option PlainSum → Option (List Case)
cases_to v p t = option_map (map (λ a. case a p)) (jump_targets v p t)

-- an indirect jump, whose target is the name where that is one of a table's numbers
abbrev pub jumped : View → Instr → Predicate → Option (List ℕ) → Option PlainSum → Option (List Case)
jumped v i p None t = cases_to v p t
jumped v i p (Some numbers) t = cases_to v (with_values i numbers p) (Some (name_term i))

-- an indirect jump to its operand, read as 64 bits
abbrev pub jumps_to : View → Instr → Predicate → Operand → Option (List Case)
jumps_to v i p o =
    jumped v i (after_read v i p W64 o) (loaded_values v p W64 false (address_term_of p o)) (read_term v i p W64 o)

-- a jump by its operand
abbrev pub jumps : View → Instr → Predicate → Operand → Option (List Case)
jumps v i p operand.None = jumps_to v i p operand.None
jumps v i p (operand.Reg r) = jumps_to v i p (operand.Reg r)
jumps v i p (operand.High r) = jumps_to v i p (operand.High r)
jumps v i p (operand.Imm n) = Some (case n p ∷ [])
jumps v i p (operand.Mem pl) = jumps_to v i p (operand.Mem pl)

-- the cases of control that jumps, conditionally or to its operand; no other does
abbrev pub control_cases : Control → View → Instr → Predicate → Option (List Case)
control_cases Branching v i p = Some (branches v i p)
control_cases Jumping v i p = jumps v i p i.dst
control_cases Calling v i p = None
control_cases Returning v i p = None
control_cases Passing v i p = None
control_cases Asking v i p = None
control_cases Stopping v i p = None

-- the cases of a jump, by its group
abbrev pub jump_cases_in : Group → View → Instr → Predicate → Option (List Case)
jump_cases_in (Calculates a) v i p = None
jump_cases_in (Moves m) v i p = None
jump_cases_in (Stacks s) v i p = None
jump_cases_in (Controls c) v i p = control_cases c v i p

-- the cases of a jump
abbrev pub jump_cases : Op → View → Instr → Predicate → Option (List Case)
jump_cases o v i p = jump_cases_in (group_of o) v i p

-- ---- every instruction

-- the cases of an instruction of a class: a call and a system call go on after the return, a return and a stop have none
abbrev pub cases_by : Class → View → Instr → Predicate → Option (List Case)
cases_by class.Calculation v i p = Some (goes_on v i (dropped i p) v.fork)
cases_by class.Transfer v i p = Some (goes_on v i (dropped i p) v.fork)
cases_by class.Division v i p = Some (goes_on v i (dropped i p) v.fork)
cases_by class.Jump v i p = jump_cases i.op v i (dropped i p)
cases_by class.Call v i p = Some (case (next_address i) (after v i p) ∷ [])
cases_by class.Return v i p = Some []
cases_by class.SystemCall v i p = Some (case (next_address i) (after v i p) ∷ [])
cases_by class.Stop v i p = Some []

-- the cases of an instruction; None where it is an indirect jump of which is not known where it leads
abbrev pub cases : View → Instr → Predicate → Option (List Case)
cases v i p = cases_by (class_of i.op) v i p
