-- What a step preserves: registers, bytes of memory and the FS base.
use Rattle.std.specs.Prelude.{◌≢◌, ℕ, ◌<◌}
use Rattle.bits_core.specs.declared.width.Width.{Width}
use Rattle.bits_core.specs.declared.width.Width.TheVariants.{W8, W64}
use Rattle.bits_core.specs.Width.{bytes_of}
use Rattle.x86_instr.specs.declared.instr.Op.{Op}
use Rattle.x86_instr.specs.declared.instr.Op.TheVariants as op
use Rattle.x86_instr.specs.declared.instr.Operand.{Operand}
use Rattle.x86_instr.specs.declared.instr.Operand.TheVariants as operand
use Rattle.x86_instr.specs.declared.instr.Instr.{Instr}
use Rattle.x86_instr.specs.Registers.{rax, rdx, rsp, rbp}
use Rattle.x86_machine.specs.Memory.{address_plus}
use Rattle.x86_machine.specs.State.{State, reg}
use Rattle.x86_machine.specs.Access.{address, read, write}
use Rattle.x86_machine.specs.Moves.{below_top, rsp_popped}

-- where a state has a number: a register, a byte of memory, the FS base
pub data Location : Type 0 where
  Register : ℕ → Location
  Byte : ℕ → Location
  FsBase : Location

-- the number there
abbrev pub number_in : State → Location → ℕ
number_in s (Register r) = reg s r
number_in s (Byte at) = s.memory at
number_in s FsBase = s.fs_base

-- an address is none of the n from one on
abbrev pub IsApart : ℕ → ℕ → ℕ → Type 0
IsApart n at x = (k : ℕ) → k < n → x ≢ address_plus k at

-- the location is not this register
abbrev pub IsNotRegister : ℕ → Location → Type 0
IsNotRegister q (Register r) = r ≢ q
IsNotRegister q (Byte at) = Unit {0}
IsNotRegister q FsBase = Unit {0}

-- the location is none of the n bytes from an address on
abbrev pub IsNotByte : ℕ → ℕ → Location → Type 0
IsNotByte n at (Register r) = Unit {0}
IsNotByte n at (Byte x) = IsApart n at x
IsNotByte n at FsBase = Unit {0}

-- a write of the operand at a width leaves the location
abbrev pub IsNotDestination : State → Width → Operand → Location → Type 0
IsNotDestination s w operand.None l = Unit {0}
IsNotDestination s w (operand.Reg q) l = IsNotRegister q l
IsNotDestination s w (operand.High q) l = IsNotRegister q l
IsNotDestination s w (operand.Imm n) l = Unit {0}
IsNotDestination s w (operand.Mem p) l = IsNotByte (bytes_of w) (address s p) l

-- a push leaves the location
abbrev pub IsNotPushed : State → Location → Type 0
IsNotPushed s l = IsNotRegister rsp l × IsNotByte 8 (below_top s) l

-- an exchange leaves the location: its first operand is written before its second
abbrev pub IsNotExchanged : State → Instr → Location → Type 0
IsNotExchanged s i l =
    IsNotDestination s i.width i.dst l
    × IsNotDestination (write s i.width i.dst (read s i.width i.src)) i.width i.src l

-- the instruction of an operation does not write the location
abbrev pub Preserves : Op → State → Instr → Location → Type 0
Preserves op.Add s i l = IsNotDestination s i.width i.dst l
Preserves op.Or s i l = IsNotDestination s i.width i.dst l
Preserves op.Adc s i l = IsNotDestination s i.width i.dst l
Preserves op.Sbb s i l = IsNotDestination s i.width i.dst l
Preserves op.And s i l = IsNotDestination s i.width i.dst l
Preserves op.Sub s i l = IsNotDestination s i.width i.dst l
Preserves op.Xor s i l = IsNotDestination s i.width i.dst l
Preserves op.Cmp s i l = Unit {0}
Preserves op.Test s i l = Unit {0}
Preserves op.Mov s i l = IsNotDestination s i.width i.dst l
Preserves op.Lea s i l = IsNotDestination s i.width i.dst l
Preserves op.Movzx s i l = IsNotDestination s i.width i.dst l
Preserves op.Movsx s i l = IsNotDestination s i.width i.dst l
Preserves op.Not s i l = IsNotDestination s i.width i.dst l
Preserves op.Neg s i l = IsNotDestination s i.width i.dst l
Preserves op.Mul s i l = IsNotRegister rax l × IsNotRegister rdx l
Preserves op.Imul1 s i l = IsNotRegister rax l × IsNotRegister rdx l
Preserves op.Div s i l = IsNotRegister rax l × IsNotRegister rdx l
Preserves op.Idiv s i l = IsNotRegister rax l × IsNotRegister rdx l
Preserves op.Imul2 s i l = IsNotDestination s i.width i.dst l
Preserves op.Imul3 s i l = IsNotDestination s i.width i.dst l
Preserves op.Inc s i l = IsNotDestination s i.width i.dst l
Preserves op.Dec s i l = IsNotDestination s i.width i.dst l
Preserves op.Rol s i l = IsNotDestination s i.width i.dst l
Preserves op.Ror s i l = IsNotDestination s i.width i.dst l
Preserves op.Shl s i l = IsNotDestination s i.width i.dst l
Preserves op.Shr s i l = IsNotDestination s i.width i.dst l
Preserves op.Sar s i l = IsNotDestination s i.width i.dst l
Preserves op.Push s i l = IsNotPushed s l
Preserves op.Pop s i l = IsNotRegister rsp l × IsNotDestination (rsp_popped s) W64 i.dst l
Preserves op.Leave s i l = IsNotRegister rsp l × IsNotRegister rbp l
Preserves op.Widen s i l = IsNotRegister rax l
Preserves op.Signs s i l = IsNotRegister rdx l
Preserves op.Xchg s i l = IsNotExchanged s i l
Preserves op.Bswap s i l = IsNotDestination s i.width i.dst l
Preserves op.Cmov s i l = IsNotDestination s i.width i.dst l
Preserves op.Setcc s i l = IsNotDestination s W8 i.dst l
Preserves op.Jcc s i l = Unit {0}
Preserves op.Jmp s i l = Unit {0}
Preserves op.Call s i l = IsNotPushed s l
Preserves op.Ret s i l = IsNotRegister rsp l
Preserves op.Nop s i l = Unit {0}
Preserves op.Syscall s i l = Unit {0}
Preserves op.Hlt s i l = Unit {0}
Preserves op.Ud2 s i l = Unit {0}
Preserves op.Int3 s i l = Unit {0}
