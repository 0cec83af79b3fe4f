-- How rows of the opcode map are written: one opcode, its variations, groups (Intel SDM volume 2, A.4).
use Rattle.std.specs.Prelude.{ℕ, ◌+◌, true, false, List, [], ◌∷◌, Some, None}
use Rattle.bits_core.specs.declared.width.Width.{Width}
use Rattle.x86_instr.specs.declared.instr.Op.{Op}
use Rattle.x86_instr.specs.declared.instr.Op.TheVariants as op
use Rattle.x86_spelling.specs.declared.encoding.Form.{Form}
use Rattle.x86_spelling.specs.declared.encoding.Form.TheVariants as form
use Rattle.x86_spelling.specs.declared.encoding.Size.{Size}
use Rattle.x86_spelling.specs.declared.encoding.Size.TheVariants as size
use Rattle.x86_spelling.specs.declared.encoding.ImmSize.{ImmSize}
use Rattle.x86_spelling.specs.declared.encoding.ImmSize.TheVariants as imm
use Rattle.x86_spelling.specs.declared.encoding.PrefixRule.{PrefixRule}
use Rattle.x86_spelling.specs.declared.encoding.PrefixRule.TheVariants as rule
use Rattle.x86_spelling.specs.declared.encoding.Row.{Row}

-- an opcode whose size the prefix 66 may change takes that prefix
abbrev pub rule_of : Size → PrefixRule
rule_of size.Byte = rule.Segment
rule_of size.V = rule.SizeSegment
rule_of size.Y = rule.Segment
rule_of size.Quad = rule.Segment

-- the row of one opcode
abbrev pub row : ℕ → Op → Form → Size → ImmSize → Row
row opcode o f s i = record {
  escaped = false;
  opcode = opcode;
  span = 1;
  digit = None;
  rex_b = None;
  rex_w = None;
  op = o;
  form = f;
  size = s;
  source = None;
  imm = i;
  prefixes = rule_of s;
}

-- the row where reg extends the opcode
abbrev pub with_digit : ℕ → Row → Row
with_digit digit r = record r { digit = Some digit }

-- the row for n opcodes, as +r means 8
abbrev pub spanning : ℕ → Row → Row
spanning n r = record r { span = n }

-- the row for one value of REX.B
abbrev pub with_rex_b : ℕ → Row → Row
with_rex_b b r = record r { rex_b = Some b }

-- the row for one value of REX.W
abbrev pub with_rex_w : ℕ → Row → Row
with_rex_w w r = record r { rex_w = Some w }

-- the row with a narrower source r/m
abbrev pub with_source : Width → Row → Row
with_source w r = record r { source = Some w }

-- the row with prefixes of its own
abbrev pub with_prefixes : PrefixRule → Row → Row
with_prefixes rule r = record r { prefixes = rule }

-- the row after the escape byte 0F
abbrev pub escaped : Row → Row
escaped r = record r { escaped = true }

-- the rows of +cc: the conditions 0 to 9 and 12 to 15, and not 10 and 11 (parity)
abbrev pub with_conditions : Row → List Row
with_conditions r = spanning 10 r ∷ spanning 4 (record r { opcode = r.opcode + 12 }) ∷ []

-- the six opcodes of add and its kin
abbrev pub alu_rows : ℕ → Op → List Row
alu_rows base o =
    row base o form.RmReg size.Byte imm.Absent
    ∷ row (base + 1) o form.RmReg size.V imm.Absent
    ∷ row (base + 2) o form.RegRm size.Byte imm.Absent
    ∷ row (base + 3) o form.RegRm size.V imm.Absent
    ∷ row (base + 4) o form.AccImm size.Byte imm.Byte
    ∷ row (base + 5) o form.AccImm size.V imm.Z
    ∷ []

-- group 1 of the opcode extensions (A.4): add and its kin with an immediate
abbrev pub group1 : ℕ → Size → ImmSize → List Row
group1 opcode s i =
    with_digit 0 (row opcode op.Add form.RmImm s i)
    ∷ with_digit 1 (row opcode op.Or form.RmImm s i)
    ∷ with_digit 2 (row opcode op.Adc form.RmImm s i)
    ∷ with_digit 3 (row opcode op.Sbb form.RmImm s i)
    ∷ with_digit 4 (row opcode op.And form.RmImm s i)
    ∷ with_digit 5 (row opcode op.Sub form.RmImm s i)
    ∷ with_digit 6 (row opcode op.Xor form.RmImm s i)
    ∷ with_digit 7 (row opcode op.Cmp form.RmImm s i)
    ∷ []

-- group 2: rotations and shifts
abbrev pub group2 : ℕ → Form → Size → ImmSize → List Row
group2 opcode f s i =
    with_digit 0 (row opcode op.Rol f s i)
    ∷ with_digit 1 (row opcode op.Ror f s i)
    ∷ with_digit 4 (row opcode op.Shl f s i)
    ∷ with_digit 5 (row opcode op.Shr f s i)
    ∷ with_digit 7 (row opcode op.Sar f s i)
    ∷ []
