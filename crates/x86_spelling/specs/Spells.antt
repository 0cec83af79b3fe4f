-- The spellings of an instruction: the fields of an encoding, their bytes and their meaning.
use Rattle.std.specs.Prelude.{◌≡◌, ℕ, ◌+◌, ◌%◌, ◌^◌, ◌<◌, ◌≤◌, true, false, nat_lt, IsTrue, List, [], ◌∷◌, ◌++◌, length, Contains, Option, Some, None, IfSome, ◌⊎◌}
use Rattle.std.specs.List.{AllByRecursion}
use Rattle.bits_core.specs.declared.width.Width.{Width}
use Rattle.bits_core.specs.declared.width.Width.TheVariants.{W64}
use Rattle.x86_instr.specs.declared.instr.Op.TheVariants as op
use Rattle.x86_instr.specs.declared.instr.Operand.TheVariants as operand
use Rattle.x86_instr.specs.declared.instr.Instr.{Instr}
use Rattle.x86_spelling.specs.declared.encoding.Row.{Row}
use Rattle.x86_spelling.specs.declared.encoding.ModRm.{ModRm}
use Rattle.x86_spelling.specs.declared.encoding.Parts.{Parts}
use Rattle.x86_spelling.specs.Fields.{little, rex_bytes, rex_w, opcode_bytes, modrm_part, FitsModRm, is_memory}
use Rattle.x86_spelling.specs.Table.{table}
use Rattle.x86_spelling.specs.Rows.{is_at, wants, wants_rex, has_modrm, fits_operand}
use Rattle.x86_spelling.specs.Prefixes.{is_prefix, fs_override, count, is_small, allows}
use Rattle.x86_spelling.specs.Sizes.{width_of, imm_len, fits_imm, source_width}
use Rattle.x86_spelling.specs.Instructions.{instruction}

-- the fields of an encoding, in their order: REX by its low four bits
pub record Encoding : Type 0 where
  pub prefixes : List ℕ
  pub rex : Option ℕ
  pub row : Row
  pub opcode : ℕ
  pub modrm : Option ModRm
  pub imm : ℕ

-- the operand size
abbrev pub width : Encoding → Width
width e = width_of e.row.size (rex_w e.rex) (is_small e.prefixes)

-- how many bytes the immediate has
abbrev pub imm_size : Encoding → ℕ
imm_size e = imm_len e.row.imm (width e)

-- the bytes of an encoding: its fields, one after the other
abbrev pub bytes_of : Encoding → List ℕ
bytes_of e =
    e.prefixes
    ++ (rex_bytes e.rex
    ++ (opcode_bytes e.row.escaped e.opcode ++ (modrm_part e.modrm ++ little (imm_size e) e.imm)))

-- a ModRM byte stands there where the row's form has one, with the row's digit in reg
abbrev pub IsModRmOf : Row → Option ModRm → Type 0
IsModRmOf r None = has_modrm r.form ≡ false
IsModRmOf r (Some m) = (has_modrm r.form ≡ true) × FitsModRm m × (wants r.digit m.reg ≡ true)

-- the fields go together
pub record IsEncoding (e : Encoding) : Type 0 where
  pub prefixes : AllByRecursion (λ b. is_prefix b ≡ true) e.prefixes
  pub allowed : IsTrue (allows e.row.prefixes (is_memory e.modrm) e.prefixes)
  pub rex : IfSome e.rex (λ wrxb. wrxb < 16)
  pub row : Contains table e.row
  pub opcode : IsTrue (is_at e.row.escaped e.opcode e.row)
  pub rex_bits : IsTrue (wants_rex e.row e.rex)
  pub modrm : IsModRmOf e.row e.modrm
  pub operand : IsTrue (fits_operand e.row.op (is_memory e.modrm))
  pub imm : e.imm < 256 ^ imm_size e
  pub count : IsTrue (fits_imm e.row.imm (width e) e.imm)

-- what the operands are made of, at an address and a length
abbrev pub parts : ℕ → ℕ → Encoding → Parts
parts addr len e = record {
  next = (addr + len) % 2 ^ 64;
  fs = nat_lt 0 (count fs_override e.prefixes);
  width = width e;
  src_width = source_width e.row (width e);
  rex = e.rex;
  opcode = e.opcode;
  modrm = e.modrm;
  imm = e.imm;
  imm_len = imm_size e;
}

-- what an encoding means, at an address and a length
abbrev pub meaning : ℕ → ℕ → Encoding → Instr
meaning addr len e = instruction addr len e.row (parts addr len e)

-- the only bytes of ENDBR64, which does nothing
abbrev pub endbr64 : List ℕ
endbr64 = 0xf3 ∷ 0x0f ∷ 0x1e ∷ 0xfa ∷ []

-- its instruction at an address
abbrev pub endbr64_at : ℕ → Instr
endbr64_at addr = record {
  addr = addr;
  len = 4;
  op = op.Nop;
  width = W64;
  src_width = W64;
  cc = 0;
  dst = operand.None;
  src = operand.None;
  extra = 0;
}

-- the bytes are those of an encoding of the instruction, at most 15
pub record IsEncoded (i : Instr) (bytes : List ℕ) : Type 0 where
  pub encoding : Encoding
  pub fits : IsEncoding encoding
  pub bytes_are : bytes ≡ bytes_of encoding
  pub short : length bytes ≤ 15
  pub means : i ≡ meaning i.addr (length bytes) encoding

-- at its address the instruction may be spelled by these bytes
abbrev pub Spells : Instr → List ℕ → Type 0
Spells i bytes = IsEncoded i bytes ⊎ ((bytes ≡ endbr64) × (i ≡ endbr64_at i.addr))

-- it has a spelling
abbrev pub IsSpelled : Instr → Type 0
IsSpelled i = (bytes : List ℕ) × Spells i bytes

-- a prefix of the bytes spells it
abbrev pub SpellsPrefix : Instr → List ℕ → Type 0
SpellsPrefix i bytes = (text rest : List ℕ) × Spells i text × (bytes ≡ text ++ rest)
