-- One step of the machine, by the operation (Intel SDM volume 2, chapters 3 to 5).
use Rattle.std.specs.Prelude.{ℕ, ◌+◌, ◌%◌, ◌^◌, true, false, if◌then◌else◌, Option, Some, None}
use Rattle.bits_core.specs.declared.width.Width.TheVariants.{W64}
use Rattle.bits_core.specs.declared.operations.Alu.TheVariants as alu
use Rattle.bits_core.specs.declared.operations.Shift.TheVariants as shift
use Rattle.x86_instr.specs.declared.class.Class.{Class}
use Rattle.x86_instr.specs.declared.class.Class.TheVariants as class
use Rattle.x86_instr.specs.declared.instr.Op.{Op}
use Rattle.x86_instr.specs.declared.instr.Op.TheVariants as op
use Rattle.x86_instr.specs.declared.instr.Instr.{Instr}
use Rattle.x86_instr.specs.Classes.{class_of}
use Rattle.x86_instr.specs.Registers.{rsp}
use Rattle.x86_machine.specs.declared.machine.Outcome.{Outcome}
use Rattle.x86_machine.specs.declared.machine.Outcome.TheVariants as outcome
use Rattle.x86_machine.specs.State.{State, reg, with_rip}
use Rattle.x86_machine.specs.Access.{read}
use Rattle.x86_machine.specs.Steps.{combined, compared, moved, addressed, extended_by_zeros, extended_by_sign, inverted, negated, counted, multiplied, scaled, quotients, divided}
use Rattle.x86_machine.specs.Moves.{shifted, pushed, quad_at, rsp_popped, popped, after_leave, widened, after_cwd, exchanged, swapped, holds, after_cmov, after_setcc}

-- the address after the instruction, modulo 2^64
abbrev pub next_address : Instr → ℕ
next_address i = (i.addr + i.len) % 2 ^ 64

-- the address that a jump or a call goes to
abbrev pub target : State → Instr → ℕ
target s i = read s W64 i.dst

-- a state, with rip at the next instruction
abbrev pub passes : Instr → State → State
passes i s = with_rip s (next_address i)

-- the next instruction comes after the state
abbrev pub goes_on : Instr → State → Option State
goes_on i s = Some (passes i s)

-- the same where there is a state
abbrev pub goes_on_if : Instr → Option State → Option State
goes_on_if i None = None
goes_on_if i (Some s) = goes_on i s

-- the state after the instruction of an operation, with a choice of what is undefined; none at a divide fault, and none
-- after syscall, hlt, ud2 and int3
abbrev pub next_by : Op → State → Instr → ℕ → Option State
next_by op.Add s i choice = goes_on i (combined alu.Add s i)
next_by op.Or s i choice = goes_on i (combined alu.Or s i)
next_by op.Adc s i choice = goes_on i (combined alu.Adc s i)
next_by op.Sbb s i choice = goes_on i (combined alu.Sbb s i)
next_by op.And s i choice = goes_on i (combined alu.And s i)
next_by op.Sub s i choice = goes_on i (combined alu.Sub s i)
next_by op.Xor s i choice = goes_on i (combined alu.Xor s i)
next_by op.Cmp s i choice = goes_on i (compared alu.Sub s i)
next_by op.Test s i choice = goes_on i (compared alu.And s i)
next_by op.Mov s i choice = goes_on i (moved s i)
next_by op.Lea s i choice = goes_on i (addressed s i)
next_by op.Movzx s i choice = goes_on i (extended_by_zeros s i)
next_by op.Movsx s i choice = goes_on i (extended_by_sign s i)
next_by op.Not s i choice = goes_on i (inverted s i)
next_by op.Neg s i choice = goes_on i (negated s i)
next_by op.Mul s i choice = goes_on i (multiplied false s i choice)
next_by op.Imul1 s i choice = goes_on i (multiplied true s i choice)
next_by op.Div s i choice = goes_on_if i (divided (quotients false s i) s i choice)
next_by op.Idiv s i choice = goes_on_if i (divided (quotients true s i) s i choice)
next_by op.Imul2 s i choice =
    goes_on i (scaled (read s i.width i.dst) (read s i.width i.src) s i choice)
next_by op.Imul3 s i choice = goes_on i (scaled (read s i.width i.src) i.extra s i choice)
next_by op.Inc s i choice = goes_on i (counted alu.Add s i)
next_by op.Dec s i choice = goes_on i (counted alu.Sub s i)
next_by op.Rol s i choice = goes_on i (shifted shift.Rol s i choice)
next_by op.Ror s i choice = goes_on i (shifted shift.Ror s i choice)
next_by op.Shl s i choice = goes_on i (shifted shift.Shl s i choice)
next_by op.Shr s i choice = goes_on i (shifted shift.Shr s i choice)
next_by op.Sar s i choice = goes_on i (shifted shift.Sar s i choice)
next_by op.Push s i choice = goes_on i (pushed s (read s W64 i.dst))
next_by op.Pop s i choice = goes_on i (popped s i)
next_by op.Leave s i choice = goes_on i (after_leave s)
next_by op.Widen s i choice = goes_on i (widened s i)
next_by op.Signs s i choice = goes_on i (after_cwd s i)
next_by op.Xchg s i choice = goes_on i (exchanged s i)
next_by op.Bswap s i choice = goes_on i (swapped s i)
next_by op.Cmov s i choice = goes_on i (after_cmov s i)
next_by op.Setcc s i choice = goes_on i (after_setcc s i)
next_by op.Jcc s i choice = Some (with_rip s (if holds s i then target s i else next_address i))
next_by op.Jmp s i choice = Some (with_rip s (target s i))
next_by op.Call s i choice = Some (with_rip (pushed s (next_address i)) (target s i))
next_by op.Ret s i choice = Some (with_rip (rsp_popped s) (quad_at s (reg s rsp)))
next_by op.Nop s i choice = goes_on i s
next_by op.Syscall s i choice = None
next_by op.Hlt s i choice = None
next_by op.Ud2 s i choice = None
next_by op.Int3 s i choice = None

-- the state after an instruction, where there is one
abbrev pub next : State → Instr → ℕ → Option State
next s i choice = next_by i.op s i choice

-- what came of a step, by the class of the operation and the state after it
abbrev pub outcome_by : Class → Option State → Outcome
outcome_by class.Calculation t = outcome.Moved
outcome_by class.Transfer t = outcome.Moved
outcome_by class.Division None = outcome.DivideFault
outcome_by class.Division (Some t) = outcome.Moved
outcome_by class.Jump t = outcome.Moved
outcome_by class.Call t = outcome.Moved
outcome_by class.Return t = outcome.Moved
outcome_by class.SystemCall t = outcome.Outside
outcome_by class.Stop t = outcome.Stopped

-- what came of the step by an instruction
abbrev pub outcome_of : State → Instr → ℕ → Outcome
outcome_of s i choice = outcome_by (class_of i.op) (next s i choice)
