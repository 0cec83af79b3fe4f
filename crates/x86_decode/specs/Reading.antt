-- Reading an encoding from left to right: what each stage gives, and the bytes after it.
use Rattle.std.specs.Prelude.{◌≡◌, ℕ, ◌+◌, ◌-◌, ◌*◌, ◌/◌, ◌%◌, Bool, true, false, ◌&&◌, ◌==◌, nat_lt, nat_le, if◌then◌else◌, List, [], ◌∷◌, length, take, drop, find, Option, Some, None}
use Rattle.std.specs.List.{prefix_len as count_while, list_all}
use Rattle.x86_instr.specs.declared.instr.Instr.{Instr}
use Rattle.x86_spelling.specs.declared.encoding.Row.{Row}
use Rattle.x86_spelling.specs.declared.encoding.Sib.{Sib}
use Rattle.x86_spelling.specs.declared.encoding.ModRm.{ModRm}
use Rattle.x86_spelling.specs.Fields.{has_sib, disp_len, rex_w, is_memory}
use Rattle.x86_spelling.specs.Table.{table}
use Rattle.x86_spelling.specs.Rows.{is_at, wants, wants_rex, has_modrm, fits_operand}
use Rattle.x86_spelling.specs.Prefixes.{is_prefix, is_small, allows}
use Rattle.x86_spelling.specs.Sizes.{width_of, imm_len, fits_imm}
use Rattle.x86_spelling.specs.Spells.{Encoding, width, meaning, endbr64_at}

-- a stage follows one that gave a value
infixl 10 ◌>>=◌
abbrev pub ◌>>=◌ : {A B : Type 0} → Option A → (A → Option B) → Option B
(Some x) >>= f = f x
None >>= f = None

-- what a function returned, seen by view, is what reading gives
abbrev pub Gives : {X Y : Type 0} → (X → Y) → Option X → Option Y → Type 0
Gives view (Some x) read = read ≡ Some (view x)
Gives view None read = read ≡ None

-- how many prefixes come first
unfoldable pub prefix_len : List ℕ → ℕ
prefix_len bytes = count_while is_prefix bytes

-- the low four bits of REX, if it stands here
unfoldable pub rex_at : List ℕ → Option ℕ × List ℕ
rex_at [] = (None, [])
rex_at (b ∷ bytes) =
    if nat_le 0x40 b && nat_lt b 0x50 then (Some (b - 0x40), bytes) else (None, b ∷ bytes)

-- the opcode after the escape byte
unfoldable pub escaped_at : List ℕ → Option (Bool × ℕ × List ℕ)
escaped_at [] = None
escaped_at (b ∷ bytes) = Some (true, b, bytes)

-- whether the escape byte stands here, and the opcode
unfoldable pub opcode_at : List ℕ → Option (Bool × ℕ × List ℕ)
opcode_at [] = None
opcode_at (b ∷ bytes) = if b == 0x0f then escaped_at bytes else Some (false, b, bytes)

-- the reg field, if a ModRM byte stands here
unfoldable pub digit_at : List ℕ → ℕ
digit_at [] = 0
digit_at (b ∷ bytes) = b / 8 % 8

-- a row is for this opcode, digit and REX
abbrev pub matches : Bool → ℕ → ℕ → Option ℕ → Row → Bool
matches escaped opcode digit rex r =
    is_at escaped opcode r && (wants r.digit digit && wants_rex r rex)

-- the first such row of the map
unfoldable pub row_at : Bool → ℕ → ℕ → Option ℕ → Option Row
row_at escaped opcode digit rex = find (matches escaped opcode digit rex) table

-- the number that the bytes are, the lowest first
abbrev pub value : List ℕ → ℕ
value [] = 0
value (b ∷ bytes) = b + 256 * value bytes

-- a number of n bytes
unfoldable pub little_at : ℕ → List ℕ → Option (ℕ × List ℕ)
little_at n bytes =
    if nat_lt (length bytes) n then None else Some (value (take n bytes), drop n bytes)

-- the SIB byte, where there is one
unfoldable pub sib_at : Bool → List ℕ → Option (Option Sib × List ℕ)
sib_at false bytes = Some (None, bytes)
sib_at true [] = None
sib_at true (b ∷ bytes) =
    Some (Some (record { scale = b / 64; index = b / 8 % 8; base = b % 8 }), bytes)

-- the ModRM byte, the SIB byte and the displacement
unfoldable pub modrm_at : List ℕ → Option (ModRm × List ℕ)
modrm_at [] = None
modrm_at (b ∷ bytes) = do
  sib ← sib_at (has_sib (b / 64) (b % 8)) bytes
  disp ← little_at (disp_len (b / 64) (b % 8) sib.0) sib.1
  Some (record { mode = b / 64; reg = b / 8 % 8; rm = b % 8; sib = sib.0; disp = disp.0 }, disp.1)

-- the same, where there is a ModRM byte
unfoldable pub modrm_for : Bool → List ℕ → Option (Option ModRm × List ℕ)
modrm_for false bytes = Some (None, bytes)
modrm_for true bytes = do
  m ← modrm_at bytes
  Some (Some m.0, m.1)

-- the prefixes and REX that were read
pub record Header : Type 0 where
  pub prefixes : List ℕ
  pub rex : Option ℕ

-- the fields are put together
abbrev pub encoding : Header → Row → ℕ → Option ModRm → ℕ → Encoding
encoding header row opcode modrm imm = record {
  prefixes = header.prefixes;
  rex = header.rex;
  row = row;
  opcode = opcode;
  modrm = modrm;
  imm = imm;
}

-- the fields may stand together, by the tests that the row makes
abbrev pub passes : Encoding → Bool
passes e =
    fits_operand e.row.op (is_memory e.modrm)
    && (allows e.row.prefixes (is_memory e.modrm) e.prefixes && fits_imm e.row.imm (width e) e.imm)

-- the encoding and the bytes after it, if it passes
abbrev pub tested : Encoding → List ℕ → Option (Encoding × List ℕ)
tested e bytes = if passes e then Some (e, bytes) else None

-- the size of the immediate, by the prefixes, REX and the row
abbrev pub size_at : Header → Row → ℕ
size_at header row =
    imm_len row.imm (width_of row.size (rex_w header.rex) (is_small header.prefixes))

-- what stands after the prefixes and REX
unfoldable pub fields_at : Header → List ℕ → Option (Encoding × List ℕ)
fields_at header bytes = do
  o ← opcode_at bytes
  row ← row_at o.0 o.1 (digit_at o.2) header.rex
  m ← modrm_for (has_modrm row.form) o.2
  i ← little_at (size_at header row) m.1
  tested (encoding header row o.1 m.0 i.0) i.1

-- the whole encoding
unfoldable pub encoding_at : List ℕ → Option (Encoding × List ℕ)
encoding_at bytes =
    let rex = rex_at (drop (prefix_len bytes) bytes) in
    fields_at (record { prefixes = take (prefix_len bytes) bytes; rex = rex.0 }) rex.1

-- ENDBR64 stands here
abbrev pub is_endbr64 : List ℕ → Bool
is_endbr64 [] = false
is_endbr64 (a ∷ []) = false
is_endbr64 (a ∷ b ∷ []) = false
is_endbr64 (a ∷ b ∷ c ∷ []) = false
is_endbr64 (a ∷ b ∷ c ∷ d ∷ bytes) = (a == 0xf3) && ((b == 0x0f) && ((c == 0x1e) && (d == 0xfa)))

-- the instruction of the encoding that stands here
unfoldable pub decode_at : ℕ → List ℕ → Option Instr
decode_at addr bytes = do
  x ← encoding_at bytes
  Some (meaning addr (length bytes - length x.1) x.0)

-- the instruction that stands here
unfoldable pub instr_at : ℕ → List ℕ → Option Instr
instr_at addr bytes = if is_endbr64 bytes then Some (endbr64_at addr) else decode_at addr bytes

-- whether numbers are bytes, as those of each file and each slice are
abbrev pub are_bytes : List ℕ → Bool
are_bytes numbers = list_all (λ number. nat_lt number 256) numbers

-- the instruction that a list begins with, at an address: its first 15 numbers are looked at, which must be bytes
unfoldable pub first_instr : ℕ → List ℕ → Option Instr
first_instr addr bytes =
    if are_bytes (take 15 bytes) then instr_at addr (take 15 bytes) else None
