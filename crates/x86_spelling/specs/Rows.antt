-- For which bytes a row of the opcode map is.
use Rattle.std.specs.Prelude.{ℕ, ◌+◌, Bool, true, false, ◌&&◌, ◌==◌, nat_le, nat_lt, if◌then◌else◌, Option, Some, None}
use Rattle.x86_instr.specs.declared.instr.Op.{Op}
use Rattle.x86_instr.specs.declared.instr.Op.TheVariants as op
use Rattle.x86_spelling.specs.declared.encoding.Form.{Form}
use Rattle.x86_spelling.specs.declared.encoding.Form.TheVariants as form
use Rattle.x86_spelling.specs.declared.encoding.Row.{Row}
use Rattle.x86_spelling.specs.Fields.{rex_w, rex_b}

-- it is for this opcode, after the escape byte or not
abbrev pub is_at : Bool → ℕ → Row → Bool
is_at escaped opcode r =
    (if escaped then r.escaped else if r.escaped then false else true)
    && (nat_le r.opcode opcode && nat_lt opcode (r.opcode + r.span))

-- a field has the value that is wanted, if one is
abbrev pub wants : Option ℕ → ℕ → Bool
wants None n = true
wants (Some m) n = m == n

-- it is for these bits of REX
abbrev pub wants_rex : Row → Option ℕ → Bool
wants_rex r rex = wants r.rex_b (rex_b rex) && wants r.rex_w (rex_w rex)

-- the form has a ModRM byte
abbrev pub has_modrm : Form → Bool
has_modrm form.RmReg = true
has_modrm form.RegRm = true
has_modrm form.RmImm = true
has_modrm form.RmCount = true
has_modrm form.Rm = true
has_modrm form.RegRmImm = true
has_modrm form.RmOne = true
has_modrm form.RmCl = true
has_modrm form.RmIgnored = true
has_modrm form.AccOp = false
has_modrm form.AccImm = false
has_modrm form.OpImm = false
has_modrm form.OpReg = false
has_modrm form.Offset = false
has_modrm form.ImmOnly = false
has_modrm form.Nothing = false

-- r/m may be a register or a place in memory, but lea wants a place (SDM volume 2, LEA)
abbrev pub fits_operand : Op → Bool → Bool
fits_operand op.Lea memory = memory
fits_operand _ memory = true
