-- What the fields of an encoding mean: its operands (Intel SDM volume 2, tables 2-2 and 2-3, 2.2.1).
use Rattle.std.specs.Prelude.{ℕ, ◌+◌, ◌-◌, ◌*◌, ◌%◌, ◌^◌, Bool, ◌&&◌, ◌==◌, nat_lt, if◌then◌else◌, Option, Some, None, is_none}
use Rattle.bits_core.specs.declared.width.Width.{Width}
use Rattle.bits_core.specs.declared.width.Width.TheVariants.{W8, W16, W32, W64}
use Rattle.bits_core.specs.LowBits.{cut_of}
use Rattle.x86_instr.specs.declared.instr.Operand.{Operand}
use Rattle.x86_instr.specs.declared.instr.Operand.TheVariants as operand
use Rattle.x86_instr.specs.declared.instr.Place.{Place}
use Rattle.x86_spelling.specs.declared.encoding.Parts.{Parts}
use Rattle.x86_spelling.specs.declared.encoding.Sib.{Sib}
use Rattle.x86_spelling.specs.declared.encoding.ModRm.{ModRm}
use Rattle.x86_instr.specs.Registers.{rsp}
use Rattle.x86_spelling.specs.Fields.{rex_r, rex_x, rex_b, base_field, is_baseless, disp_len}
use Rattle.x86_spelling.specs.Sizes.{sign_extend}

-- a register by its number; of 8 bits without REX the numbers 4 to 7 are AH, CH, DH, BH
abbrev pub register : Width → Option ℕ → ℕ → Operand
register W8 None n = if nat_lt n 4 then operand.Reg n else operand.High (n - 4)
register W8 (Some wrxb) n = operand.Reg n
register W16 rex n = operand.Reg n
register W32 rex n = operand.Reg n
register W64 rex n = operand.Reg n

-- the base register, whose number REX.B extends
abbrev pub base_of : Option ℕ → ModRm → Option ℕ
base_of rex m =
    if is_baseless m.mode m.rm m.sib then None else Some (8 * rex_b rex + base_field m.rm m.sib)

-- the index register, whose number REX.X extends; the number of rsp means that there is none
abbrev pub index_of : Option ℕ → Option Sib → Option ℕ
index_of rex None = None
index_of rex (Some s) =
    if 8 * rex_x rex + s.index == rsp then None else Some (8 * rex_x rex + s.index)

-- the factor of the index, 1 where there is none
abbrev pub scale_of : Option ℕ → Option Sib → ℕ
scale_of rex None = 1
scale_of rex (Some s) = if 8 * rex_x rex + s.index == rsp then 1 else 2 ^ s.scale

-- relative to the next instruction: no base register and no SIB byte
abbrev pub is_relative : ModRm → Bool
is_relative m = is_baseless m.mode m.rm m.sib && is_none m.sib

-- the displacement, or the address where it is relative to the next instruction
abbrev pub disp_of : ℕ → ModRm → ℕ
disp_of next m =
    if is_relative m then (next + sign_extend 4 m.disp) % 2 ^ 64
    else sign_extend (disp_len m.mode m.rm m.sib) m.disp

-- the place in memory that r/m names
abbrev pub place : Parts → ModRm → Place
place p m = record {
  base = base_of p.rex m;
  index = index_of p.rex m.sib;
  scale = scale_of p.rex m.sib;
  disp = disp_of p.next m;
  fs = p.fs;
}

-- the operand r/m at a width: a register, or a place in memory
abbrev pub rm_operand : Width → Parts → Option ModRm → Operand
rm_operand w p None = operand.None
rm_operand w p (Some m) =
    if m.mode == 3 then register w p.rex (8 * rex_b p.rex + m.rm) else operand.Mem (place p m)

-- the operand reg, whose number REX.R extends
abbrev pub reg_operand : Parts → Option ModRm → Operand
reg_operand p None = operand.None
reg_operand p (Some m) = register p.width p.rex (8 * rex_r p.rex + m.reg)

-- the register that the opcode's low three bits name, with REX.B
abbrev pub opcode_operand : Parts → Operand
opcode_operand p = register p.width p.rex (8 * rex_b p.rex + p.opcode % 8)

-- the immediate, extended by its sign and cut to the operand size
abbrev pub imm_number : Parts → ℕ
imm_number p = cut_of p.width (sign_extend p.imm_len p.imm)

-- the immediate as an operand
abbrev pub imm_operand : Parts → Operand
imm_operand p = operand.Imm (imm_number p)

-- a count of bits: the immediate byte as it stands
abbrev pub count_operand : Parts → Operand
count_operand p = operand.Imm (cut_of W8 p.imm)

-- the target of a direct branch: its offset counts from the next instruction
abbrev pub target : Parts → Operand
target p = operand.Imm ((p.next + sign_extend p.imm_len p.imm) % 2 ^ 64)
