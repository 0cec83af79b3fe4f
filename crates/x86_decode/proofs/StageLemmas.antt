-- Each stage of reading: what it takes is spelled by the fields that it gives, and what fields spell is read again.
use Rattle.std.proofs.Common.{◌≡◌, ℕ, ◌+◌, ◌-◌, ◌*◌, ◌/◌, ◌%◌, ◌<◌, ◌≤◌, Bool, true, false, cond, ltb, leb, eqb, ◌&&◌, List, [], ◌∷◌, ◌++◌, length, take, Option, Some, None, refl, ap, subst, ◌∙◌, append_assoc, arith, inl, inr}
use Rattle.std.specs.Prelude.{MatchOption, IfSome}
use Rattle.std.specs.List.{AllByRecursion, prefix_len as count_while}
use Rattle.std.proofs.Math.Numerals.{one-add}
use Rattle.std.proofs.lemmas.Bool.{eqb-true, and_parts, leb-true, ltb-true, le-leb, lt-ltb, cases_Bool}
use Rattle.x86_spelling.specs.declared.encoding.Sib.{Sib}
use Rattle.x86_spelling.specs.declared.encoding.ModRm.{ModRm}
use Rattle.x86_spelling.specs.Fields.{little, rex_bytes, opcode_bytes, has_sib, sib_bytes, disp_len, modrm_bytes, modrm_part, SibStands, FitsModRm}
use Rattle.x86_spelling.specs.Prefixes.{is_prefix}
use Rattle.x86_decode.specs.Reading.{rex_at, escaped_at, opcode_at, digit_at, little_at, sib_at, modrm_at, modrm_for}
use Rattle.x86_decode.proofs.ByteLemmas.{IsBytes, bytes_after, both_passed, same_given, Takes, takes_both, little_takes, little_again}

-- a byte is made of two, three and three bits
pub byte_of_fields : (b : ℕ) → b ≡ 64 * (b / 64) + 8 * (b / 8 % 8) + b % 8
byte_of_fields b = omega arith

-- a SIB byte that is read stands there
pub sib_takes : (stands : Bool) (bytes : List ℕ) (x : Option Sib × List ℕ) → IsBytes bytes → sib_at stands bytes ≡ Some x → Takes bytes (sib_bytes x.0) x.1 × SibStands stands x.0
unfolding sib_at
sib_takes false bytes x fits e = subst (λ (y : Option Sib × List ℕ). Takes bytes (sib_bytes y.0) y.1 × SibStands false y.0) (same_given (None, bytes) x e) (record { parts = refl; rest_fits = fits }, refl)
sib_takes true [] x fits e = absurd cc
sib_takes true (b ∷ bytes) x fits e =
    let byte : b < 256 = fits 0 in
    let s : Sib = record { scale = b / 64; index = b / 8 % 8; base = b % 8 } in
    subst (λ (y : Option Sib × List ℕ). Takes (b ∷ bytes) (sib_bytes y.0) y.1 × SibStands true y.0) (same_given (Some s, bytes) x e)
    (record { parts = ap (λ (c : ℕ). c ∷ bytes) (byte_of_fields b); rest_fits = bytes_after b bytes fits }, (refl, record { scale = omega arith; index = omega arith; base = omega arith }))

-- a SIB byte that stands there is read
pub sib_again : (stands : Bool) (s : Option Sib) (rest : List ℕ) → SibStands stands s → sib_at stands (sib_bytes s ++ rest) ≡ Some (s, rest)
unfolding sib_at
sib_again stands None rest h = rw h refl
sib_again stands (Some s) rest h =
    let fits = h.1 in
    let scale : (64 * s.scale + 8 * s.index + s.base) / 64 ≡ s.scale = omega (arith, fits.scale, fits.index, fits.base) in
    let index : (64 * s.scale + 8 * s.index + s.base) / 8 % 8 ≡ s.index = omega (arith, fits.scale, fits.index, fits.base) in
    let base : (64 * s.scale + 8 * s.index + s.base) % 8 ≡ s.base = omega (arith, fits.scale, fits.index, fits.base) in
    rw (h.0, scale, index, base) refl

-- a ModRM byte with what follows it, that is read, stands there
pub modrm_takes : (bytes : List ℕ) (x : ModRm × List ℕ) → IsBytes bytes → modrm_at bytes ≡ Some x → Takes bytes (modrm_bytes x.0) x.1 × FitsModRm x.0
unfolding modrm_at
modrm_takes [] x fits e = absurd cc
modrm_takes (b ∷ bytes) x fits e =
    let mode = b / 64 in
    let rm = b % 8 in
    let byte : b < 256 = fits 0 in
    let s = both_passed (sib_at (has_sib mode rm) bytes) _ x e in
    let d = both_passed (little_at (disp_len mode rm s.0.0) s.0.1) _ x s.2 in
    let s_takes = sib_takes (has_sib mode rm) bytes s.0 (bytes_after b bytes fits) s.1 in
    let d_takes = little_takes (disp_len mode rm s.0.0) s.0.1 d.0 s_takes.0.rest_fits d.1 in
    let tail = takes_both bytes (sib_bytes s.0.0) s.0.1 (little (disp_len mode rm s.0.0) d.0.0) d.0.1 s_takes.0 d_takes.0 in
    let m : ModRm = record { mode = mode; reg = b / 8 % 8; rm = rm; sib = s.0.0; disp = d.0.0 } in
    let whole : Takes (b ∷ bytes) (modrm_bytes m) d.0.1 = record {
      parts = ap (λ (c : ℕ). c ∷ bytes) (byte_of_fields b) ∙ ap (λ (t : List ℕ). (64 * (b / 64) + 8 * (b / 8 % 8) + b % 8) ∷ t) tail.parts;
      rest_fits = tail.rest_fits;
    } in
    subst (λ (y : ModRm × List ℕ). Takes (b ∷ bytes) (modrm_bytes y.0) y.1 × FitsModRm y.0) (same_given (m, d.0.1) x d.2)
    (whole, record { mode = omega arith; reg = omega arith; rm = omega arith; sib = s_takes.1; disp = d_takes.1 })

-- one that stands there is read
pub modrm_again : (m : ModRm) (rest : List ℕ) → FitsModRm m → modrm_at (modrm_bytes m ++ rest) ≡ Some (m, rest)
unfolding modrm_at
modrm_again m rest fits =
    let mode : (64 * m.mode + 8 * m.reg + m.rm) / 64 ≡ m.mode = omega (arith, fits.mode, fits.reg, fits.rm) in
    let reg : (64 * m.mode + 8 * m.reg + m.rm) / 8 % 8 ≡ m.reg = omega (arith, fits.mode, fits.reg, fits.rm) in
    let rm : (64 * m.mode + 8 * m.reg + m.rm) % 8 ≡ m.rm = omega (arith, fits.mode, fits.reg, fits.rm) in
    let disp = little (disp_len m.mode m.rm m.sib) m.disp in
    rw (mode, reg, rm, append_assoc (sib_bytes m.sib) disp rest, sib_again (has_sib m.mode m.rm) m.sib (disp ++ rest) fits.sib, little_again (disp_len m.mode m.rm m.sib) m.disp rest fits.disp) refl

-- there is a ModRM byte where there must be, and its fields fit
abbrev pub ModRmStands : Bool → Option ModRm → Type 0
ModRmStands stands m = MatchOption m (stands ≡ false) (λ m. (stands ≡ true) × FitsModRm m)

-- the same two lemmas where there may be no ModRM byte
pub modrm_for_takes : (stands : Bool) (bytes : List ℕ) (x : Option ModRm × List ℕ) → IsBytes bytes → modrm_for stands bytes ≡ Some x → Takes bytes (modrm_part x.0) x.1 × ModRmStands stands x.0
unfolding modrm_for
modrm_for_takes false bytes x fits e = subst (λ (y : Option ModRm × List ℕ). Takes bytes (modrm_part y.0) y.1 × ModRmStands false y.0) (same_given (None, bytes) x e) (record { parts = refl; rest_fits = fits }, refl)
modrm_for_takes true bytes x fits e =
    let m = both_passed (modrm_at bytes) _ x e in
    let takes = modrm_takes bytes m.0 fits m.1 in
    subst (λ (y : Option ModRm × List ℕ). Takes bytes (modrm_part y.0) y.1 × ModRmStands true y.0) (same_given (Some m.0.0, m.0.1) x m.2) (takes.0, (refl, takes.1))

pub modrm_for_again : (stands : Bool) (m : Option ModRm) (rest : List ℕ) → ModRmStands stands m → modrm_for stands (modrm_part m ++ rest) ≡ Some (m, rest)
unfolding modrm_for
modrm_for_again stands None rest h = rw h refl
modrm_for_again stands (Some m) rest h = rw (h.0, modrm_again m rest h.1) refl

-- the digit is the reg field of the ModRM byte that stands there
pub digit_again : (m : ModRm) (rest : List ℕ) → FitsModRm m → digit_at (modrm_bytes m ++ rest) ≡ m.reg
unfolding digit_at
digit_again m rest fits = omega (arith, fits.mode, fits.reg, fits.rm)

opcode_case : (t : Bool) (b : ℕ) (bytes : List ℕ) (x : Bool × ℕ × List ℕ) → IsBytes (b ∷ bytes) → eqb b 0x0f ≡ t → cond t (escaped_at bytes) (Some (false, b, bytes)) ≡ Some x → Takes (b ∷ bytes) (opcode_bytes x.0 x.1) x.2
unfolding escaped_at
opcode_case true b [] x fits t e = absurd cc
opcode_case true b (c ∷ bytes) x fits t e =
    subst (λ (y : Bool × ℕ × List ℕ). Takes (b ∷ c ∷ bytes) (opcode_bytes y.0 y.1) y.2) (same_given (true, c, bytes) x e)
    (record { parts = ap (λ (d : ℕ). d ∷ c ∷ bytes) (eqb-true b 0x0f t); rest_fits = bytes_after c bytes (bytes_after b (c ∷ bytes) fits) })
opcode_case false b bytes x fits t e =
    subst (λ (y : Bool × ℕ × List ℕ). Takes (b ∷ bytes) (opcode_bytes y.0 y.1) y.2) (same_given (false, b, bytes) x e) (record { parts = refl; rest_fits = bytes_after b bytes fits })

-- an opcode that is read stands there
pub opcode_takes : (bytes : List ℕ) (x : Bool × ℕ × List ℕ) → IsBytes bytes → opcode_at bytes ≡ Some x → Takes bytes (opcode_bytes x.0 x.1) x.2
unfolding opcode_at
opcode_takes [] x fits e = absurd cc
opcode_takes (b ∷ bytes) x fits e = opcode_case (eqb b 0x0f) b bytes x fits refl e

-- an opcode that stands there is read, where a one-byte opcode isn't the escape byte
pub opcode_again : (escaped : Bool) (opcode : ℕ) (rest : List ℕ) → (escaped ≡ false → eqb opcode 0x0f ≡ false) → opcode_at (opcode_bytes escaped opcode ++ rest) ≡ Some (escaped, opcode, rest)
unfolding opcode_at escaped_at
opcode_again true opcode rest h = refl
opcode_again false opcode rest h = rw (h refl) refl

-- the bytes 40 to 4F
abbrev pub is_rex : ℕ → Bool
is_rex b = leb 0x40 b && ltb b 0x50

abbrev rex_case : Bool → ℕ → List ℕ → Option ℕ × List ℕ
rex_case t b bytes = cond t (Some (b - 0x40), bytes) (None, b ∷ bytes)

rex_case_takes : (t : Bool) (b : ℕ) (bytes : List ℕ) → IsBytes (b ∷ bytes) → is_rex b ≡ t → Takes (b ∷ bytes) (rex_bytes (rex_case t b bytes).0) (rex_case t b bytes).1 × IfSome (rex_case t b bytes).0 (λ r. r < 16)
rex_case_takes true b bytes fits t =
    let tests = and_parts (leb 0x40 b) (ltb b 0x50) t in
    let low : 0x40 ≤ b = leb-true 0x40 b tests.0 in
    let high : b < 0x50 = ltb-true b 0x50 tests.1 in
    let back : b ≡ 0x40 + (b - 0x40) = omega arith in
    (record { parts = ap (λ (c : ℕ). c ∷ bytes) back; rest_fits = bytes_after b bytes fits }, omega arith)
rex_case_takes false b bytes fits t = (record { parts = refl; rest_fits = fits }, tt)

-- a REX byte that is read stands there
pub rex_takes : (bytes : List ℕ) → IsBytes bytes → Takes bytes (rex_bytes (rex_at bytes).0) (rex_at bytes).1 × IfSome (rex_at bytes).0 (λ r. r < 16)
unfolding rex_at
rex_takes [] fits = (record { parts = refl; rest_fits = fits }, tt)
rex_takes (b ∷ bytes) fits = rex_case_takes (is_rex b) b bytes fits refl

-- a REX byte that stands there is read
pub rex_again_some : (r : ℕ) (rest : List ℕ) → r < 16 → rex_at ((0x40 + r) ∷ rest) ≡ (Some r, rest)
unfolding rex_at
rex_again_some r rest lt =
    let low : leb 0x40 (0x40 + r) ≡ true = le-leb 0x40 (0x40 + r) (omega arith) in
    let high : ltb (0x40 + r) 0x50 ≡ true = lt-ltb (0x40 + r) 0x50 (omega arith) in
    let back : 0x40 + r - 0x40 ≡ r = omega arith in
    rw (low, high, back) refl

-- before another byte none is read
pub rex_again_none : (b : ℕ) (rest : List ℕ) → is_rex b ≡ false → rex_at (b ∷ rest) ≡ (None, b ∷ rest)
unfolding rex_at
rex_again_none b rest h = rw h refl

-- the bytes that are read as prefixes are prefixes
pub prefixes_take : (bytes : List ℕ) → AllByRecursion (λ b. is_prefix b ≡ true) (take (count_while is_prefix bytes) bytes)
prefixes_take [] = tt
prefixes_take (b ∷ bytes) =
    elim (cases_Bool (is_prefix b)) [
      | inl passes ↦ rw (passes, one-add) (passes, prefixes_take bytes)
      | inr fails ↦ rw fails tt
    ]

-- prefixes before a byte that is none are all read
pub prefixes_again : (ps : List ℕ) (c : ℕ) (rest : List ℕ) → AllByRecursion (λ b. is_prefix b ≡ true) ps → is_prefix c ≡ false → count_while is_prefix (ps ++ c ∷ rest) ≡ length ps
prefixes_again [] c rest all h = rw h refl
prefixes_again (p ∷ ps) c rest all h = rw (all.0, prefixes_again ps c rest all.1 h) (omega arith)
