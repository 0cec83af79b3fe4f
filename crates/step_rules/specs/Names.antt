-- The name of a site, and where it stands for what an instruction reads or writes.
use Rattle.std.specs.Prelude.{ℕ, Bool, true, false, ◌==◌, if◌then◌else◌, Option, Some, None}
use Rattle.bits_core.specs.declared.width.Width.{Width}
use Rattle.sym_terms.specs.declared.kinds.Sym.{Sym}
use Rattle.sym_terms.specs.declared.kinds.Sym.TheVariants.{Named}
use Rattle.sym_terms.specs.Plain.{PlainSum, single_atom, symbol}
use Rattle.x86_instr.specs.declared.instr.Op.{Op}
use Rattle.x86_instr.specs.declared.instr.Operand.{Operand}
use Rattle.x86_instr.specs.declared.instr.Operand.TheVariants as operand
use Rattle.x86_instr.specs.declared.instr.Instr.{Instr}
use Rattle.x86_instr.specs.Groups.{Group, Calculates, Moves, Stacks, Controls, group_of}
use Rattle.x86_instr.specs.Groups.{Arithmetic, Combining, Comparing, Inverting, Negating, Counting, Multiplying, Dividing, Scaling, ScalingBy, Shifting}
use Rattle.x86_instr.specs.Groups.{Movement, Copying, ExtendingZeros, ExtendingSign, Addressing, Exchanging, Widening, SignFilling, Swapping, Choosing, Setting}
use Rattle.x86_instr.specs.Groups.{Control, Branching, Jumping, Calling, Returning, Passing, Asking, Stopping}
use Rattle.x86_machine.specs.Named.{Name, Loaded, Register, Stored, Nothing, names}
use Rattle.step_rules.specs.Terms.{zeros_term}

-- the name of the instruction's site: v and its address
abbrev pub name : Instr → Sym
name i = Named i.addr

-- the name as a term
abbrev pub name_term : Instr → PlainSum
name_term i = single_atom (symbol (name i))

-- a term, where a name stands for the register
abbrev pub if_register : Name → ℕ → PlainSum → Option PlainSum
if_register Loaded r t = None
if_register (Register q) r t = if r == q then Some t else None
if_register Stored r t = None
if_register Nothing r t = None

-- the name, where it stands for the register; a register whose new term is unknown takes it
abbrev pub register_name : Instr → ℕ → Option PlainSum
register_name i r = if_register (names i) r (name_term i)

-- a term, where a name stands for the address of a store
abbrev pub if_stored : Name → PlainSum → Option PlainSum
if_stored Loaded t = None
if_stored (Register q) t = None
if_stored Stored t = Some t
if_stored Nothing t = None

-- the name, where it stands for the address of the store
abbrev pub store_name : Instr → Option PlainSum
store_name i = if_stored (names i) (name_term i)

-- whether an operand is a register from bit 0 on, of any width
abbrev pub is_low_register : Operand → Bool
is_low_register operand.None = false
is_low_register (operand.Reg r) = true
is_low_register (operand.High r) = false
is_low_register (operand.Imm n) = false
is_low_register (operand.Mem pl) = false

-- whether a loaded number is the low bits of what arithmetic names: cmp and test name what they load
abbrev pub calculation_names_load : Arithmetic → Bool
calculation_names_load (Combining o) = false
calculation_names_load (Comparing o) = true
calculation_names_load Inverting = false
calculation_names_load Negating = false
calculation_names_load (Counting o) = false
calculation_names_load Multiplying = false
calculation_names_load Dividing = false
calculation_names_load Scaling = false
calculation_names_load ScalingBy = false
calculation_names_load (Shifting o) = false

-- the same of moves of data, where the register that gets the loaded number is one from bit 0 on
abbrev pub movement_names_load : Movement → Instr → Bool
movement_names_load Copying i = is_low_register i.dst
movement_names_load ExtendingZeros i = is_low_register i.dst
movement_names_load ExtendingSign i = is_low_register i.dst
movement_names_load Addressing i = false
movement_names_load Exchanging i = is_low_register i.src
movement_names_load Widening i = false
movement_names_load SignFilling i = false
movement_names_load Swapping i = false
movement_names_load Choosing i = false
movement_names_load Setting i = false

-- the same of control: a jump names the target that it loads
abbrev pub control_names_load : Control → Bool
control_names_load Branching = false
control_names_load Jumping = true
control_names_load Calling = false
control_names_load Returning = false
control_names_load Passing = false
control_names_load Asking = false
control_names_load Stopping = false

-- the same, of any group; push, pop and leave name what they load
abbrev pub group_names_load : Group → Instr → Bool
group_names_load (Calculates a) i = calculation_names_load a
group_names_load (Moves m) i = movement_names_load m i
group_names_load (Stacks s) i = true
group_names_load (Controls c) i = control_names_load c

-- whether a loaded number is the low bits of what the name of the instruction stands for
abbrev pub names_load : Op → Instr → Bool
names_load o i = group_names_load (group_of o) i

-- a loaded number of a width, as the low bits of the name, where it is
abbrev pub load_name : Instr → Width → Option PlainSum
load_name i w = if names_load i.op i then Some (zeros_term w (name_term i)) else None
