-- Which operations are alike in what they do to their operands (Intel SDM volume 1, 5.1: general-purpose instructions).
use Rattle.bits_core.specs.declared.operations.Alu.{Alu}
use Rattle.bits_core.specs.declared.operations.Alu.TheVariants as alu
use Rattle.bits_core.specs.declared.operations.Shift.{Shift}
use Rattle.bits_core.specs.declared.operations.Shift.TheVariants as shift
use Rattle.x86_instr.specs.declared.instr.Op.{Op}
use Rattle.x86_instr.specs.declared.instr.Op.TheVariants as op

-- arithmetic, logic and shifts
pub data Arithmetic : Type 0 where
  -- a result of both operands that replaces the first, and one of which the flags alone stay
  Combining : Alu → Arithmetic
  Comparing : Alu → Arithmetic
  -- not, neg, and inc or dec
  Inverting : Arithmetic
  Negating : Arithmetic
  Counting : Alu → Arithmetic
  -- into rdx:rax, out of it, and products of two or three operands
  Multiplying : Arithmetic
  Dividing : Arithmetic
  Scaling : Arithmetic
  ScalingBy : Arithmetic
  Shifting : Shift → Arithmetic

-- moves of data
pub data Movement : Type 0 where
  -- mov, movzx, movsx and lea
  Copying : Movement
  ExtendingZeros : Movement
  ExtendingSign : Movement
  Addressing : Movement
  -- xchg, and the turns of rax: cbw and its kin, cwd and its kin
  Exchanging : Movement
  Widening : Movement
  SignFilling : Movement
  -- bswap, cmov and setcc
  Swapping : Movement
  Choosing : Movement
  Setting : Movement

-- moves that change the stack pointer
pub data StackMove : Type 0 where
  Pushing : StackMove
  Popping : StackMove
  Leaving : StackMove

-- where control goes on
pub data Control : Type 0 where
  -- conditional and other jumps
  Branching : Control
  Jumping : Control
  Calling : Control
  Returning : Control
  -- nop, syscall, and hlt, ud2 and int3
  Passing : Control
  Asking : Control
  Stopping : Control

-- what an operation does
pub data Group : Type 0 where
  Calculates : Arithmetic → Group
  Moves : Movement → Group
  Stacks : StackMove → Group
  Controls : Control → Group

-- the group of each operation
abbrev pub group_of : Op → Group
group_of op.Add = Calculates (Combining alu.Add)
group_of op.Or = Calculates (Combining alu.Or)
group_of op.Adc = Calculates (Combining alu.Adc)
group_of op.Sbb = Calculates (Combining alu.Sbb)
group_of op.And = Calculates (Combining alu.And)
group_of op.Sub = Calculates (Combining alu.Sub)
group_of op.Xor = Calculates (Combining alu.Xor)
group_of op.Cmp = Calculates (Comparing alu.Sub)
group_of op.Test = Calculates (Comparing alu.And)
group_of op.Mov = Moves Copying
group_of op.Lea = Moves Addressing
group_of op.Movzx = Moves ExtendingZeros
group_of op.Movsx = Moves ExtendingSign
group_of op.Not = Calculates Inverting
group_of op.Neg = Calculates Negating
group_of op.Mul = Calculates Multiplying
group_of op.Imul1 = Calculates Multiplying
group_of op.Div = Calculates Dividing
group_of op.Idiv = Calculates Dividing
group_of op.Imul2 = Calculates Scaling
group_of op.Imul3 = Calculates ScalingBy
group_of op.Inc = Calculates (Counting alu.Add)
group_of op.Dec = Calculates (Counting alu.Sub)
group_of op.Rol = Calculates (Shifting shift.Rol)
group_of op.Ror = Calculates (Shifting shift.Ror)
group_of op.Shl = Calculates (Shifting shift.Shl)
group_of op.Shr = Calculates (Shifting shift.Shr)
group_of op.Sar = Calculates (Shifting shift.Sar)
group_of op.Push = Stacks Pushing
group_of op.Pop = Stacks Popping
group_of op.Leave = Stacks Leaving
group_of op.Widen = Moves Widening
group_of op.Signs = Moves SignFilling
group_of op.Xchg = Moves Exchanging
group_of op.Bswap = Moves Swapping
group_of op.Cmov = Moves Choosing
group_of op.Setcc = Moves Setting
group_of op.Jcc = Controls Branching
group_of op.Jmp = Controls Jumping
group_of op.Call = Controls Calling
group_of op.Ret = Controls Returning
group_of op.Nop = Controls Passing
group_of op.Syscall = Controls Asking
group_of op.Hlt = Controls Stopping
group_of op.Ud2 = Controls Stopping
group_of op.Int3 = Controls Stopping
