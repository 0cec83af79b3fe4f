-- How operands are read and written (Intel SDM volume 1, 3.4.1.1: parts of registers; 3.7.5: addresses).
use Rattle.std.specs.Prelude.{ℕ, ◌+◌, ◌*◌, ◌/◌, ◌%◌, ◌^◌, ◌<◌, Bool, true, false, Option, Some, None, IfSome}
use Rattle.bits_core.specs.declared.width.Width.{Width}
use Rattle.bits_core.specs.declared.width.Width.TheVariants.{W8, W16, W32, W64}
use Rattle.bits_core.specs.Width.{bytes_of}
use Rattle.bits_core.specs.LowBits.{cut_of}
use Rattle.x86_instr.specs.declared.instr.Place.{Place}
use Rattle.x86_instr.specs.declared.instr.Operand.{Operand}
use Rattle.x86_instr.specs.declared.instr.Operand.TheVariants as operand
use Rattle.x86_instr.specs.declared.instr.Instr.{Instr}
use Rattle.x86_machine.specs.Memory.{loaded}
use Rattle.x86_machine.specs.State.{State, reg, with_reg, with_bytes}

-- a base or an index, 0 where there is none
unfoldable pub part : State → Option ℕ → ℕ
part s None = 0
part s (Some r) = reg s r

-- the base of the segment that a place counts from
unfoldable pub segment : State → Bool → ℕ
segment s true = s.fs_base
segment s false = 0

-- the effective address of a place, with the FS base where the place has it
unfoldable pub address : State → Place → ℕ
address s p =
    (part s p.base + part s p.index * p.scale + p.disp + segment s p.fs) % 2 ^ 64

-- the effective address of an operand in memory
unfoldable pub address_of : State → Operand → ℕ
address_of s (operand.Mem p) = address s p
address_of s operand.None = 0
address_of s (operand.Reg r) = 0
address_of s (operand.High r) = 0
address_of s (operand.Imm n) = 0

-- the number that an operand is at a width
unfoldable pub read : State → Width → Operand → ℕ
read s w operand.None = 0
read s w (operand.Reg r) = cut_of w (reg s r)
read s w (operand.High r) = reg s r / 256 % 256
read s w (operand.Imm n) = n
read s w (operand.Mem p) = loaded s.memory (bytes_of w) (address s p)

-- a register after a write of a width: 32 bits clear the upper half, 8 and 16 keep the rest
unfoldable pub merged : Width → ℕ → ℕ → ℕ
merged W8 old v = old / 256 * 256 + v % 256
merged W16 old v = old / 2 ^ 16 * 2 ^ 16 + v % 2 ^ 16
merged W32 old v = v % 2 ^ 32
merged W64 old v = v % 2 ^ 64

-- a register after a write to its bits 8 to 15
unfoldable pub merged_high : ℕ → ℕ → ℕ
merged_high old v = old / 2 ^ 16 * 2 ^ 16 + v % 256 * 256 + old % 256

-- the state after a number was written to an operand at a width
unfoldable pub write : State → Width → Operand → ℕ → State
write s w operand.None v = s
write s w (operand.Reg r) v = with_reg s r (merged w (reg s r) v)
write s w (operand.High r) v = with_reg s r (merged_high (reg s r) v)
write s w (operand.Imm n) v = s
write s w (operand.Mem p) v = with_bytes s (bytes_of w) (address s p) v

-- a register that a place names is one of the sixteen
pub record NamesPlace (p : Place) : Type 0 where
  pub base : IfSome p.base (λ r. r < 16)
  pub index : IfSome p.index (λ r. r < 16)

-- the registers that an operand names are among the sixteen
abbrev pub NamesRegisters : Operand → Type 0
NamesRegisters operand.None = Unit {0}
NamesRegisters (operand.Reg r) = r < 16
NamesRegisters (operand.High r) = r < 4
NamesRegisters (operand.Imm n) = Unit {0}
NamesRegisters (operand.Mem p) = NamesPlace p

-- so do both operands of an instruction
pub record NamesInstr (i : Instr) : Type 0 where
  pub dst : NamesRegisters i.dst
  pub src : NamesRegisters i.src
