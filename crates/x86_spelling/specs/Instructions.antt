-- Which fields give the operands of an instruction, by the form of its opcode (Intel SDM volume 2, 3.1.1.4).
use Rattle.std.specs.Prelude.{ℕ, ◌%◌, ◌^◌, ◌<◌, IsTrue}
use Rattle.std.specs.Option.{ForSome}
use Rattle.x86_instr.specs.declared.instr.Op.{Op}
use Rattle.x86_instr.specs.declared.instr.Op.TheVariants as op
use Rattle.x86_instr.specs.declared.instr.Operand.{Operand}
use Rattle.x86_instr.specs.declared.instr.Operand.TheVariants as operand
use Rattle.x86_instr.specs.declared.instr.Instr.{Instr}
use Rattle.x86_spelling.specs.declared.encoding.Form.{Form}
use Rattle.x86_spelling.specs.declared.encoding.Form.TheVariants as form
use Rattle.x86_spelling.specs.declared.encoding.Row.{Row}
use Rattle.x86_spelling.specs.declared.encoding.Parts.{Parts}
use Rattle.x86_instr.specs.Registers.{rax, rcx}
use Rattle.x86_spelling.specs.Fields.{FitsModRm}
use Rattle.x86_spelling.specs.Sizes.{is_length}
use Rattle.x86_spelling.specs.Operands.{rm_operand, reg_operand, opcode_operand, imm_number, imm_operand, count_operand, target}

-- the first operand, by the form
abbrev pub destination : Form → Parts → Operand
destination form.RmReg p = rm_operand p.width p p.modrm
destination form.RegRm p = reg_operand p p.modrm
destination form.RmImm p = rm_operand p.width p p.modrm
destination form.RmCount p = rm_operand p.width p p.modrm
destination form.AccImm p = operand.Reg rax
destination form.OpImm p = opcode_operand p
destination form.OpReg p = opcode_operand p
destination form.Rm p = rm_operand p.width p p.modrm
destination form.Offset p = target p
destination form.ImmOnly p = imm_operand p
destination form.RegRmImm p = reg_operand p p.modrm
destination form.RmOne p = rm_operand p.width p p.modrm
destination form.RmCl p = rm_operand p.width p p.modrm
destination form.AccOp p = operand.Reg rax
destination form.RmIgnored p = operand.None
destination form.Nothing p = operand.None

-- the second operand, by the form
abbrev pub source : Form → Parts → Operand
source form.RmReg p = reg_operand p p.modrm
source form.RegRm p = rm_operand p.src_width p p.modrm
source form.RmImm p = imm_operand p
source form.RmCount p = count_operand p
source form.AccImm p = imm_operand p
source form.OpImm p = imm_operand p
source form.OpReg p = operand.None
source form.Rm p = operand.None
source form.Offset p = operand.None
source form.ImmOnly p = operand.None
source form.RegRmImm p = rm_operand p.src_width p p.modrm
source form.RmOne p = operand.Imm 1
source form.RmCl p = operand.Reg rcx
source form.AccOp p = opcode_operand p
source form.RmIgnored p = operand.None
source form.Nothing p = operand.None

-- the factor of a multiplication with three operands
abbrev pub factor : Form → Parts → ℕ
factor form.RegRmImm p = imm_number p
factor _ p = 0

-- the condition, which the opcode's low four bits name
abbrev pub condition : Op → ℕ → ℕ
condition op.Jcc opcode = opcode % 16
condition op.Cmov opcode = opcode % 16
condition op.Setcc opcode = opcode % 16
condition _ opcode = 0

-- the instruction of a row at an address, len bytes long, with these parts
abbrev pub instruction : ℕ → ℕ → Row → Parts → Instr
instruction addr len r p = record {
  addr = addr;
  len = len;
  op = r.op;
  width = p.width;
  src_width = p.src_width;
  cc = condition r.op p.opcode;
  dst = destination r.form p;
  src = source r.form p;
  extra = factor r.form p;
}

-- the fields fit their bits and the immediate fits its bytes
pub record FitsParts (p : Parts) : Type 0 where
  pub modrm : ForSome p.modrm FitsModRm
  pub len : IsTrue (is_length p.imm_len)
  pub imm : p.imm < 256 ^ p.imm_len
