-- What the rules of a graph ask of a site beside its cases.
use Rattle.std.specs.Prelude.{◌≡◌, ℕ, Bool, true, false, ◌&&◌, Option, Some, None, [], All, IfSome}
use Rattle.std.specs.Option.{option_map, option_or}
use Rattle.bits_core.specs.Width.{bytes_of}
use Rattle.sym_terms.specs.Plain.{PlainSum}
use Rattle.memory_regions.specs.declared.region.Region.{Region}
use Rattle.memory_regions.specs.declared.region.Relation.TheVariants.{Unknown}
use Rattle.memory_regions.specs.Relate.{relate}
use Rattle.mem_forest.specs.Alias.{can_alias}
use Rattle.predicates.specs.Predicate.{Predicate}
use Rattle.x86_instr.specs.declared.class.Class.{Class}
use Rattle.x86_instr.specs.declared.class.Class.TheVariants as class
use Rattle.x86_instr.specs.declared.instr.Operand.{Operand}
use Rattle.x86_instr.specs.declared.instr.Operand.TheVariants as operand
use Rattle.x86_instr.specs.declared.instr.Instr.{Instr}
use Rattle.x86_instr.specs.Classes.{class_of}
use Rattle.x86_instr.specs.Groups.{Group, Calculates, Moves, Stacks, Controls, group_of}
use Rattle.x86_instr.specs.Groups.{Arithmetic, Combining, Comparing, Inverting, Negating, Counting, Multiplying, Dividing, Scaling, ScalingBy, Shifting}
use Rattle.x86_instr.specs.Groups.{Movement, Copying, ExtendingZeros, ExtendingSign, Addressing, Exchanging, Widening, SignFilling, Swapping, Choosing, Setting}
use Rattle.x86_instr.specs.Groups.{StackMove, Pushing, Popping, Leaving}
use Rattle.x86_instr.specs.Groups.{Control, Branching, Jumping, Calling, Returning, Passing, Asking, Stopping}
use Rattle.step_rules.specs.View.{View}
use Rattle.step_rules.specs.Names.{store_name}
use Rattle.step_rules.specs.Drop.{dropped}
use Rattle.step_rules.specs.Access.{store_term}
use Rattle.step_rules.specs.Moves.{below_top}

-- ---- the region of a step's store

-- n bytes at an address
abbrev pub region_of : ℕ → PlainSum → Region
region_of n at = record { at = at; bytes = n }

-- the region of an operand that is written; None where it is not in memory, or its address is unknown
abbrev pub place_region : Instr → Predicate → Operand → Option Region
place_region i p operand.None = None
place_region i p (operand.Reg r) = None
place_region i p (operand.High r) = None
place_region i p (operand.Imm n) = None
place_region i p (operand.Mem pl) = option_map (region_of (bytes_of i.width)) (store_term i p pl)

-- the eight bytes that a push stores to
abbrev pub push_region : Instr → Predicate → Option Region
push_region i p = option_map (region_of 8) (option_or (below_top p) (store_name i))

-- the region to which arithmetic, logic and shifts store
abbrev pub calculation_region : Arithmetic → Instr → Predicate → Option Region
calculation_region (Combining o) i p = place_region i p i.dst
calculation_region (Comparing o) i p = None
calculation_region Inverting i p = place_region i p i.dst
calculation_region Negating i p = place_region i p i.dst
calculation_region (Counting o) i p = place_region i p i.dst
calculation_region Multiplying i p = None
calculation_region Dividing i p = None
calculation_region Scaling i p = None
calculation_region ScalingBy i p = None
calculation_region (Shifting o) i p = place_region i p i.dst

-- the region to which moves of data store
abbrev pub movement_region : Movement → Instr → Predicate → Option Region
movement_region Copying i p = place_region i p i.dst
movement_region ExtendingZeros i p = None
movement_region ExtendingSign i p = None
movement_region Addressing i p = None
movement_region Exchanging i p = place_region i p i.dst
movement_region Widening i p = None
movement_region SignFilling i p = None
movement_region Swapping i p = None
movement_region Choosing i p = None
movement_region Setting i p = place_region i p i.dst

-- the region to which moves that change the stack pointer store
abbrev pub stack_region : StackMove → Instr → Predicate → Option Region
stack_region Pushing i p = push_region i p
stack_region Popping i p = None
stack_region Leaving i p = None

-- the region to which control stores: a call stores the next address
abbrev pub control_region : Control → Instr → Predicate → Option Region
control_region Branching i p = None
control_region Jumping i p = None
control_region Calling i p = push_region i p
control_region Returning i p = None
control_region Passing i p = None
control_region Asking i p = None
control_region Stopping i p = None

-- the region to which a group stores; None where it stores nothing, or to an unknown address
abbrev pub store_region_in : Group → Instr → Predicate → Option Region
store_region_in (Calculates a) i p = calculation_region a i p
store_region_in (Moves m) i p = movement_region m i p
store_region_in (Stacks s) i p = stack_region s i p
store_region_in (Controls c) i p = control_region c i p

-- the region of an instruction's store
abbrev pub store_region : Instr → Predicate → Option Region
store_region i p = store_region_in (group_of i.op) i (dropped i p)

-- ---- the pair that is told apart

-- whether an operation of the class goes on at the next instruction
abbrev pub can_fork : Class → Bool
can_fork class.Calculation = true
can_fork class.Transfer = true
can_fork class.Division = true
can_fork class.Jump = false
can_fork class.Call = false
can_fork class.Return = false
can_fork class.SystemCall = false
can_fork class.Stop = false

-- whether a pair may be told apart: at an instruction that goes on, where the first region's address can be one more
-- name of the second's cell (that the site is a step is asked by the form of the graph)
abbrev pub fork_by : Instr → Predicate → Option (Region × Region) → Bool
fork_by i p None = true
fork_by i p (Some pair) =
    can_fork (class_of i.op) && can_alias pair.0.at pair.0.bytes pair.1.at pair.1.bytes p.forest

-- whether the site's pair may be told apart
abbrev pub fork_holds : View → Instr → Predicate → Bool
fork_holds v i p = fork_by i (dropped i p) v.fork

-- ---- pairs

-- neither the difference of the addresses nor the frame says how the regions of a pair lie
abbrev pub IsUndecided : View → Region × Region → Type 0
IsUndecided v pair =
    relate (record v.known { seps = [] }) pair.0.at pair.0.bytes pair.1.at pair.1.bytes ≡ Unknown

-- the pairs of a site are undecided: those that are separate, and the one that is told apart
pub record PairsUndecided (v : View) : Type 0 where
  pub seps : All (IsUndecided v) v.known.seps
  pub fork : IfSome v.fork (IsUndecided v)
