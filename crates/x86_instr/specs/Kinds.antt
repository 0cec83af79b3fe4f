-- Which operands and which operand sizes each operation has (Intel SDM volume 2, chapters 3 to 5).
use Rattle.std.specs.Prelude.{Bool, true, false}
use Rattle.bits_core.specs.declared.width.Width.{Width}
use Rattle.bits_core.specs.declared.width.Width.TheVariants.{W8, W16, W32, W64}
use Rattle.x86_instr.specs.declared.instr.Op.{Op}
use Rattle.x86_instr.specs.declared.instr.Op.TheVariants as op

-- what an operand may be: nothing, a register, CL alone, an immediate, a place in memory
pub record Kinds : Type 0 where
  pub nothing : Bool
  pub register : Bool
  pub cl : Bool
  pub immediate : Bool
  pub place : Bool

-- the kinds by a test each, in the order of their fields
abbrev pub kinds : Bool → Bool → Bool → Bool → Bool → Kinds
kinds nothing register cl immediate place = record {
  nothing = nothing;
  register = register;
  cl = cl;
  immediate = immediate;
  place = place;
}

-- there is no operand
abbrev pub no_operand : Kinds
no_operand = kinds true false false false false

-- a register
abbrev pub a_register : Kinds
a_register = kinds false true false false false

-- an immediate
abbrev pub an_immediate : Kinds
an_immediate = kinds false false false true false

-- a place in memory
abbrev pub a_place : Kinds
a_place = kinds false false false false true

-- a register or a place in memory
abbrev pub register_or_place : Kinds
register_or_place = kinds false true false false true

-- a register, an immediate or a place in memory
abbrev pub any_operand : Kinds
any_operand = kinds false true false true true

-- CL or an immediate
abbrev pub a_count : Kinds
a_count = kinds false false true true false

-- the operand sizes that there are: 8, 16, 32 and 64 bits
pub record Widths : Type 0 where
  pub byte : Bool
  pub word : Bool
  pub double : Bool
  pub quad : Bool

-- the sizes by a test each, in the order of their fields
abbrev pub widths : Bool → Bool → Bool → Bool → Widths
widths byte word double quad = record { byte = byte; word = word; double = double; quad = quad }

-- 8 bits
abbrev pub byte_only : Widths
byte_only = widths true false false false

-- 64 bits
abbrev pub quad_only : Widths
quad_only = widths false false false true

-- 32 and 64 bits
abbrev pub double_or_quad : Widths
double_or_quad = widths false false true true

-- 16, 32 and 64 bits
abbrev pub not_byte : Widths
not_byte = widths false true true true

-- 8, 16, 32 and 64 bits
abbrev pub every_width : Widths
every_width = widths true true true true

-- a width is one of them
abbrev pub has_width : Widths → Width → Bool
has_width ws W8 = ws.byte
has_width ws W16 = ws.word
has_width ws W32 = ws.double
has_width ws W64 = ws.quad

-- what the operands of an operation may be, and its operand sizes
pub record Shape : Type 0 where
  pub dst : Kinds
  pub src : Kinds
  pub sizes : Widths

-- the first operand, the second and the sizes
abbrev pub shape : Kinds → Kinds → Widths → Shape
shape dst src sizes = record { dst = dst; src = src; sizes = sizes }

-- each operation's operands and sizes
abbrev pub shape_of : Op → Shape
shape_of op.Add = shape register_or_place any_operand every_width
shape_of op.Or = shape register_or_place any_operand every_width
shape_of op.Adc = shape register_or_place any_operand every_width
shape_of op.Sbb = shape register_or_place any_operand every_width
shape_of op.And = shape register_or_place any_operand every_width
shape_of op.Sub = shape register_or_place any_operand every_width
shape_of op.Xor = shape register_or_place any_operand every_width
shape_of op.Cmp = shape register_or_place any_operand every_width
shape_of op.Test = shape register_or_place any_operand every_width
shape_of op.Mov = shape register_or_place any_operand every_width
shape_of op.Lea = shape a_register a_place not_byte
shape_of op.Movzx = shape a_register register_or_place not_byte
shape_of op.Movsx = shape a_register register_or_place not_byte
shape_of op.Not = shape register_or_place no_operand every_width
shape_of op.Neg = shape register_or_place no_operand every_width
shape_of op.Mul = shape register_or_place no_operand not_byte
shape_of op.Imul1 = shape register_or_place no_operand not_byte
shape_of op.Div = shape register_or_place no_operand not_byte
shape_of op.Idiv = shape register_or_place no_operand not_byte
shape_of op.Imul2 = shape a_register register_or_place not_byte
shape_of op.Imul3 = shape a_register register_or_place not_byte
shape_of op.Inc = shape register_or_place no_operand every_width
shape_of op.Dec = shape register_or_place no_operand every_width
shape_of op.Rol = shape register_or_place a_count every_width
shape_of op.Ror = shape register_or_place a_count every_width
shape_of op.Shl = shape register_or_place a_count every_width
shape_of op.Shr = shape register_or_place a_count every_width
shape_of op.Sar = shape register_or_place a_count every_width
shape_of op.Push = shape any_operand no_operand quad_only
shape_of op.Pop = shape a_register no_operand quad_only
shape_of op.Leave = shape no_operand no_operand quad_only
shape_of op.Widen = shape no_operand no_operand not_byte
shape_of op.Signs = shape no_operand no_operand not_byte
shape_of op.Xchg = shape register_or_place a_register every_width
shape_of op.Bswap = shape a_register no_operand double_or_quad
shape_of op.Cmov = shape a_register register_or_place not_byte
shape_of op.Setcc = shape register_or_place no_operand byte_only
shape_of op.Jcc = shape an_immediate no_operand quad_only
shape_of op.Jmp = shape any_operand no_operand quad_only
shape_of op.Call = shape any_operand no_operand quad_only
shape_of op.Ret = shape no_operand no_operand quad_only
shape_of op.Nop = shape no_operand no_operand quad_only
shape_of op.Syscall = shape no_operand no_operand quad_only
shape_of op.Hlt = shape no_operand no_operand quad_only
shape_of op.Ud2 = shape no_operand no_operand quad_only
shape_of op.Int3 = shape no_operand no_operand quad_only

-- what the first operand of an operation may be
abbrev pub dst_kinds : Op → Kinds
dst_kinds o = (shape_of o).dst

-- what the second operand may be
abbrev pub src_kinds : Op → Kinds
src_kinds o = (shape_of o).src

-- the operand sizes of an operation
abbrev pub widths_of : Op → Widths
widths_of o = (shape_of o).sizes
