-- The fields of an encoding as bytes (Intel SDM volume 2, figure 2-1, 2.1.3 to 2.1.5, 2.2.1).
use Rattle.std.specs.Prelude.{◌≡◌, ℕ, zero, suc, ◌+◌, ◌*◌, ◌/◌, ◌%◌, ◌^◌, ◌<◌, Bool, true, false, not, ◌&&◌, ◌||◌, ◌==◌, if◌then◌else◌, List, [], ◌∷◌, ◌++◌, Option, Some, None, MatchOption}
use Rattle.x86_spelling.specs.declared.encoding.Sib.{Sib}
use Rattle.x86_spelling.specs.declared.encoding.ModRm.{ModRm}

-- a number as k bytes, the lowest first
abbrev pub little : ℕ → ℕ → List ℕ
little zero n = []
little (suc k) n = (n % 256) ∷ little k (n / 256)

-- REX is the byte 0100WRXB: its low four bits are given, or there is none
abbrev pub rex_bytes : Option ℕ → List ℕ
rex_bytes None = []
rex_bytes (Some wrxb) = (0x40 + wrxb) ∷ []

-- the bits W, R, X, B, which are 0 where there is no REX
abbrev pub wrxb_of : Option ℕ → ℕ
wrxb_of None = 0
wrxb_of (Some wrxb) = wrxb

-- REX.W, an operand of 64 bits
abbrev pub rex_w : Option ℕ → ℕ
rex_w rex = wrxb_of rex / 8

-- REX.R, which extends reg
abbrev pub rex_r : Option ℕ → ℕ
rex_r rex = wrxb_of rex / 4 % 2

-- REX.X, which extends the index
abbrev pub rex_x : Option ℕ → ℕ
rex_x rex = wrxb_of rex / 2 % 2

-- REX.B, which extends rm, the base or the register in the opcode
abbrev pub rex_b : Option ℕ → ℕ
rex_b rex = wrxb_of rex % 2

-- an opcode, which may come after the escape byte 0F
abbrev pub opcode_bytes : Bool → ℕ → List ℕ
opcode_bytes true opcode = 0x0f ∷ opcode ∷ []
opcode_bytes false opcode = opcode ∷ []

-- a SIB byte follows where mod isn't 11 and rm is 100
abbrev pub has_sib : ℕ → ℕ → Bool
has_sib mode rm = not (mode == 3) && (rm == 4)

-- SIB is the byte scale (2 bits), index (3), base (3)
abbrev pub sib_bytes : Option Sib → List ℕ
sib_bytes None = []
sib_bytes (Some s) = (64 * s.scale + 8 * s.index + s.base) ∷ []

-- the field that names the base register: SIB's base, or rm where there is no SIB byte
abbrev pub base_field : ℕ → Option Sib → ℕ
base_field rm None = rm
base_field rm (Some s) = s.base

-- 101 there with mod 00 means that there is no base register
abbrev pub is_baseless : ℕ → ℕ → Option Sib → Bool
is_baseless mode rm sib = (mode == 0) && (base_field rm sib == 5)

-- how many bytes the displacement has
abbrev pub disp_len : ℕ → ℕ → Option Sib → ℕ
disp_len mode rm sib =
    if mode == 1 then 1 else if (mode == 2) || is_baseless mode rm sib then 4 else 0

-- ModRM is the byte mod (2 bits), reg (3), rm (3); SIB and the displacement follow it
abbrev pub modrm_bytes : ModRm → List ℕ
modrm_bytes m =
    (64 * m.mode + 8 * m.reg + m.rm)
    ∷ (sib_bytes m.sib ++ little (disp_len m.mode m.rm m.sib) m.disp)

-- an encoding may have no ModRM byte
abbrev pub modrm_part : Option ModRm → List ℕ
modrm_part None = []
modrm_part (Some m) = modrm_bytes m

-- the fields of SIB fit their bits
pub record FitsSib (s : Sib) : Type 0 where
  pub scale : s.scale < 4
  pub index : s.index < 8
  pub base : s.base < 8

-- a SIB byte stands there exactly where it must, and its fields fit their bits
abbrev pub SibStands : Bool → Option Sib → Type 0
SibStands stands s = MatchOption s (stands ≡ false) (λ s. (stands ≡ true) × FitsSib s)

-- the fields of ModRM fit their bits, SIB stands where it must, the displacement fits its bytes
pub record FitsModRm (m : ModRm) : Type 0 where
  pub mode : m.mode < 4
  pub reg : m.reg < 8
  pub rm : m.rm < 8
  pub sib : SibStands (has_sib m.mode m.rm) m.sib
  pub disp : m.disp < 256 ^ disp_len m.mode m.rm m.sib

-- r/m is a place in memory: mod isn't 11
abbrev pub is_memory : Option ModRm → Bool
is_memory None = false
is_memory (Some m) = not (m.mode == 3)
