-- An instruction in form: its fields are in range, and its operands are such as its operation has.
use Rattle.std.specs.Prelude.{◌≡◌, ℕ, ◌<◌, ◌≤◌, ◌≢◌, ◌^◌, Bool, true, false, ◌&&◌, ◌||◌, ◌==◌, IsTrue, None, IfSome}
use Rattle.bits_core.specs.declared.width.Width.{Width}
use Rattle.bits_core.specs.declared.width.Width.TheVariants.{W8, W16, W32, W64}
use Rattle.bits_core.specs.Width.{bits_of}
use Rattle.x86_instr.specs.declared.instr.Op.{Op}
use Rattle.x86_instr.specs.declared.instr.Op.TheVariants as op
use Rattle.x86_instr.specs.declared.instr.Place.{Place}
use Rattle.x86_instr.specs.declared.instr.Operand.{Operand}
use Rattle.x86_instr.specs.declared.instr.Operand.TheVariants as operand
use Rattle.x86_instr.specs.declared.instr.Instr.{Instr}
use Rattle.x86_instr.specs.Registers.{rcx, rsp}
use Rattle.x86_instr.specs.Kinds.{Kinds, dst_kinds, src_kinds, has_width, widths_of}

-- the factors that an index may have
abbrev pub is_scale : ℕ → Bool
is_scale n = (n == 1) || ((n == 2) || ((n == 4) || (n == 8)))

-- a place has registers below 16, an index other than rsp, and a displacement of 64 bits
pub record FitsPlace (p : Place) : Type 0 where
  pub base : IfSome p.base (λ r. r < 16)
  pub index : IfSome p.index (λ r. (r < 16) × (r ≢ rsp))
  pub scale : IsTrue (is_scale p.scale)
  pub unscaled : p.index ≡ None → p.scale ≡ 1
  pub disp : p.disp < 2 ^ 64

-- an operand at a width is one of these kinds, and in range
abbrev pub IsOperand : Kinds → Width → Operand → Type 0
IsOperand k w operand.None = IsTrue k.nothing
IsOperand k w (operand.Reg r) = IsTrue (k.register || (k.cl && (r == rcx))) × (r < 16)
IsOperand k w (operand.High r) = IsTrue k.register × (w ≡ W8) × (r < 4)
IsOperand k w (operand.Imm n) = IsTrue k.immediate × (n < 2 ^ bits_of w)
IsOperand k w (operand.Mem p) = IsTrue k.place × FitsPlace p

-- an operand is a place in memory
abbrev pub is_place : Operand → Bool
is_place (operand.Mem p) = true
is_place operand.None = false
is_place (operand.Reg r) = false
is_place (operand.High r) = false
is_place (operand.Imm n) = false

-- 8 or 16 bits
abbrev pub is_narrow : Width → Bool
is_narrow W8 = true
is_narrow W16 = true
is_narrow W32 = false
is_narrow W64 = false

-- movsx extends 8 or 16 bits, and 32 bits to 64
abbrev pub is_extended : Width → Width → Bool
is_extended W64 W64 = false
is_extended W64 v = true
is_extended w v = is_narrow v

-- the second operand has the operand size, but for movzx and movsx
abbrev pub IsSourceWidth : Op → Width → Width → Type 0
IsSourceWidth op.Movzx w v = IsTrue (is_narrow v)
IsSourceWidth op.Movsx w v = IsTrue (is_extended w v)
IsSourceWidth _ w v = v ≡ w

-- a condition is a number below 16 that isn't 10 or 11 (parity)
abbrev pub FitsCondition : ℕ → Type 0
FitsCondition cc = (cc < 16) × (cc ≢ 10) × (cc ≢ 11)

-- the condition of an operation, 0 where it has none
abbrev pub IsCondition : Op → ℕ → Type 0
IsCondition op.Jcc cc = FitsCondition cc
IsCondition op.Cmov cc = FitsCondition cc
IsCondition op.Setcc cc = FitsCondition cc
IsCondition _ cc = cc ≡ 0

-- the factor of a multiplication with three operands, 0 elsewhere
abbrev pub IsFactor : Op → Width → ℕ → Type 0
IsFactor op.Imul3 w n = n < 2 ^ bits_of w
IsFactor _ w n = n ≡ 0

-- an instruction in form; at most one operand is a place in memory
pub record InForm (i : Instr) : Type 0 where
  pub addr : i.addr < 2 ^ 64
  pub long : 1 ≤ i.len
  pub short : i.len ≤ 15
  pub width : IsTrue (has_width (widths_of i.op) i.width)
  pub src_width : IsSourceWidth i.op i.width i.src_width
  pub cc : IsCondition i.op i.cc
  pub dst : IsOperand (dst_kinds i.op) i.width i.dst
  pub src : IsOperand (src_kinds i.op) i.src_width i.src
  pub one_place : (is_place i.dst && is_place i.src) ≡ false
  pub extra : IsFactor i.op i.width i.extra
