-- What is decoded is spelled so, and what is spelled so is decoded.
use Rattle.std.proofs.Common.{◌≡◌, ℕ, ◌+◌, ◌-◌, ◌^◌, ◌<◌, ◌≤◌, zero, suc, Bool, true, false, cond, eqb, ltb, ◌&&◌, lit≤, inl, inr, List, [], ◌∷◌, ◌++◌, length, take, drop, Option, Some, None, refl, sym, ap, subst, ◌∙◌, append_assoc, arith}
use Rattle.std.specs.Prelude.{IfSome, ◌↔◌}
use Rattle.std.specs.Option.{ForSome}
use Rattle.std.proofs.lemmas.List.{length-append, length-take, take-append-drop}
use Rattle.std.proofs.lemmas.Bool.{and_parts, and_from, eqb-true, ltb-true, lt-ltb, cond-true, cases_Bool}
use Rattle.std.proofs.lemmas.Option.{none-some}
use Rattle.bits_core.specs.declared.width.Width.{Width}
use Rattle.bits_core.specs.declared.width.Width.TheVariants.{W8, W16, W32, W64}
use Rattle.x86_instr.specs.declared.instr.Instr.{Instr}
use Rattle.x86_spelling.specs.declared.encoding.ImmSize.{ImmSize}
use Rattle.x86_spelling.specs.declared.encoding.ImmSize.TheVariants as imm
use Rattle.x86_spelling.specs.declared.encoding.Row.{Row}
use Rattle.x86_spelling.specs.declared.encoding.ModRm.{ModRm}
use Rattle.x86_spelling.specs.Fields.{FitsModRm}
use Rattle.x86_spelling.specs.Sizes.{is_length, imm_len}
use Rattle.x86_spelling.specs.Instructions.{FitsParts}
use Rattle.x86_spelling.specs.Spells.{Encoding, IsEncoding, IsModRmOf, bytes_of, width, imm_size, meaning, endbr64, endbr64_at, IsEncoded, Spells, IsSpelled, SpellsPrefix}
use Rattle.x86_instr.specs.Fits.{InForm}
use Rattle.x86_decode.specs.Laws.{ReadLaw, SpelledLaw}
use Rattle.x86_decode.specs.Reading.{are_bytes, first_instr, prefix_len, rex_at, escaped_at, opcode_at, digit_at, row_at, fields_at, encoding_at, is_endbr64, decode_at, instr_at}
use Rattle.x86_decode.proofs.ByteLemmas.{IsBytes, bytes_taken, both_passed, same_given}
use Rattle.x86_decode.proofs.EncodingLemmas.{encoding_takes, encoding_again}

-- an instruction at an address, which a prefix of the bytes spells
abbrev pub Found : ℕ → Instr → List ℕ → Type 0
Found addr i bytes = (i.addr ≡ addr) × SpellsPrefix i bytes

-- what an encoding that was read means, it spells
decode_takes : (addr : ℕ) (bytes : List ℕ) (i : Instr) → IsBytes bytes → length bytes ≤ 15 → decode_at addr bytes ≡ Some i → Found addr i bytes
unfolding decode_at
decode_takes addr bytes i fits short e =
    let x = both_passed (encoding_at bytes) (λ x. Some (meaning addr (length bytes - length x.1) x.0)) i e in
    let t = encoding_takes bytes x.0 fits x.1 in
    let text = bytes_of x.0.0 in
    let len : length bytes ≡ length text + length x.0.1 = ap length t.0.parts ∙ length-append text x.0.1 in
    let same : length bytes - length x.0.1 ≡ length text = omega arith in
    let i_is : i ≡ meaning addr (length text) x.0.0 = sym (same_given (meaning addr (length bytes - length x.0.1) x.0.0) i x.2) ∙ ap (λ (n : ℕ). meaning addr n x.0.0) same in
    let at : i.addr ≡ addr = ap (λ (j : Instr). j.addr) i_is in
    let means : i ≡ meaning i.addr (length text) x.0.0 = i_is ∙ ap (λ (a : ℕ). meaning a (length text) x.0.0) (sym at) in
    let encoded : IsEncoded i text = record { encoding = x.0.0; fits = t.1; bytes_are = refl; short = omega arith; means = means } in
    (at, (text, x.0.1, inl encoded, t.0.parts))

-- an encoding of an instruction is decoded to it
decode_again : (i : Instr) (text rest : List ℕ) → IsEncoded i text → decode_at i.addr (text ++ rest) ≡ Some i
unfolding decode_at
decode_again i text rest s =
    let len : length (bytes_of s.encoding ++ rest) - length rest ≡ length text = omega (arith, length-append (bytes_of s.encoding) rest, ap length s.bytes_are) in
    let a = i.addr in
    ap (λ (t : List ℕ). decode_at a (t ++ rest)) s.bytes_are ∙ rw (encoding_again s.encoding rest s.fits, len) (ap (λ (j : Instr). Some j) (sym s.means))

-- the test for ENDBR64 finds its bytes at the start
endbr64_prefix : (bytes : List ℕ) → is_endbr64 bytes ≡ true → (rest : List ℕ) × (bytes ≡ endbr64 ++ rest)
endbr64_prefix [] h = absurd cc
endbr64_prefix (a ∷ []) h = absurd cc
endbr64_prefix (a ∷ b ∷ []) h = absurd cc
endbr64_prefix (a ∷ b ∷ c ∷ []) h = absurd cc
endbr64_prefix (a ∷ b ∷ c ∷ d ∷ bytes) h =
    let p = and_parts (eqb a 0xf3) (eqb b 0x0f && (eqb c 0x1e && eqb d 0xfa)) h in
    let q = and_parts (eqb b 0x0f) (eqb c 0x1e && eqb d 0xfa) p.1 in
    let r = and_parts (eqb c 0x1e) (eqb d 0xfa) q.1 in
    (bytes, rw (eqb-true a 0xf3 p.0, eqb-true b 0x0f q.0, eqb-true c 0x1e r.0, eqb-true d 0xfa r.1) refl)

-- no encoding of the table begins with the bytes of ENDBR64
endbr64_unread : (rest : List ℕ) → encoding_at (endbr64 ++ rest) ≡ None
unfolding encoding_at prefix_len rex_at fields_at opcode_at escaped_at digit_at row_at
endbr64_unread rest = refl

not_endbr64 : (i : Instr) (text rest : List ℕ) → IsEncoded i text → is_endbr64 (text ++ rest) ≡ false
not_endbr64 i text rest s =
    elim (cases_Bool (is_endbr64 (text ++ rest))) [
      | inl there ↦
          let f = endbr64_prefix (text ++ rest) there in
          let read : encoding_at (text ++ rest) ≡ Some (s.encoding, rest) = ap (λ (u : List ℕ). encoding_at (u ++ rest)) s.bytes_are ∙ encoding_again s.encoding rest s.fits in
          let none : encoding_at (text ++ rest) ≡ None = ap encoding_at f.1 ∙ endbr64_unread f.0 in
          absurd (none-some (s.encoding, rest) (sym none ∙ read))
      | inr fails ↦ fails
    ]

instr_case : (t : Bool) (addr : ℕ) (bytes : List ℕ) (i : Instr) → IsBytes bytes → length bytes ≤ 15 → is_endbr64 bytes ≡ t → cond t (Some (endbr64_at addr)) (decode_at addr bytes) ≡ Some i → Found addr i bytes
instr_case true addr bytes i fits short t e =
    let f = endbr64_prefix bytes t in
    let i_is : i ≡ endbr64_at addr = sym (same_given (endbr64_at addr) i e) in
    let at : i.addr ≡ addr = ap (λ (j : Instr). j.addr) i_is in
    (at, (endbr64, f.0, inr (refl, i_is ∙ ap endbr64_at (sym at)), f.1))
instr_case false addr bytes i fits short t e = decode_takes addr bytes i fits short e

-- the instruction that is read from at most 15 bytes is spelled by a prefix of them
instr_takes : (addr : ℕ) (bytes : List ℕ) (i : Instr) → IsBytes bytes → length bytes ≤ 15 → instr_at addr bytes ≡ Some i → Found addr i bytes
unfolding instr_at
instr_takes addr bytes i fits short e = instr_case (is_endbr64 bytes) addr bytes i fits short refl e

-- an instruction whose spelling comes first is read
pub instr_again : (i : Instr) (text rest : List ℕ) → Spells i text → instr_at i.addr (text ++ rest) ≡ Some i
unfolding instr_at
instr_again i text rest (inl s) = rw (not_endbr64 i text rest s) (decode_again i text rest s)
instr_again i text rest (inr (is, means)) =
    let a = i.addr in
    ap (λ (t : List ℕ). instr_at a (t ++ rest)) is ∙ ap (λ (j : Instr). Some j) (sym means)

spelling_is_short : (i : Instr) (text : List ℕ) → Spells i text → length text ≤ 15
spelling_is_short i text (inl s) = s.short
spelling_is_short i text (inr (is, means)) = rw is (lit≤ tt)

-- a short text that comes first stays whole where the list is cut
take_prefix : (text rest : List ℕ) (n : ℕ) → length text ≤ n → take n (text ++ rest) ≡ text ++ take (n - length text) rest
take_prefix [] rest n le = ap (λ (k : ℕ). take k rest) (omega arith)
take_prefix (x ∷ xs) rest zero le = absurd (omega arith)
take_prefix (x ∷ xs) rest (suc n) le =
    let k : suc n - suc (length xs) ≡ n - length xs = omega arith in
    rw k (ap (λ (t : List ℕ). x ∷ t) (take_prefix xs rest n (omega arith)))

-- what a prefix of the first 15 bytes spells, a prefix of all does
longer : (addr : ℕ) (bytes : List ℕ) (i : Instr) → Found addr i (take 15 bytes) → Found addr i bytes
longer addr bytes i found =
    let f = found.1 in
    let parts : bytes ≡ f.0 ++ (f.1 ++ drop 15 bytes) = sym (take-append-drop 15 bytes) ∙ (ap (λ (t : List ℕ). t ++ drop 15 bytes) f.3 ∙ append_assoc f.0 f.1 (drop 15 bytes)) in
    (found.0, (f.0, f.1 ++ drop 15 bytes, f.2, parts))

-- what is read from the first 15 bytes is spelled by a prefix of all
is_found : (addr : ℕ) (bytes : List ℕ) (i : Instr) → IsBytes bytes → instr_at addr (take 15 bytes) ≡ Some i → Found addr i bytes
is_found addr bytes i fits e =
    longer addr bytes i (instr_takes addr (take 15 bytes) i (bytes_taken 15 bytes fits) (omega (arith, length-take 15 bytes)) e)

pub all_found : (addr : ℕ) (bytes : List ℕ) (r : Option Instr) → IsBytes bytes → instr_at addr (take 15 bytes) ≡ r → IfSome r (λ i. Found addr i bytes)
all_found addr bytes (Some i) fits e = is_found addr bytes i fits e
all_found addr bytes None fits e = tt

-- tested numbers are bytes, and bytes pass the test
tested_bytes : (bytes : List ℕ) → are_bytes bytes ≡ true → IsBytes bytes
tested_bytes [] e i = omega arith
tested_bytes (b ∷ bytes) e zero = ltb-true b 256 (and_parts (ltb b 256) (are_bytes bytes) e).0
tested_bytes (b ∷ bytes) e (suc i) = tested_bytes bytes (and_parts (ltb b 256) (are_bytes bytes) e).1 i

bytes_pass : (bytes : List ℕ) → IsBytes bytes → are_bytes bytes ≡ true
bytes_pass [] fits = refl
bytes_pass (b ∷ bytes) fits = and_from (ltb b 256) (are_bytes bytes) (lt-ltb b 256 (fits 0)) (bytes_pass bytes (λ i. fits (suc i)))

-- of bytes the instruction is that of the first 15
pub first_read : (addr : ℕ) (bytes : List ℕ) → IsBytes bytes → first_instr addr bytes ≡ instr_at addr (take 15 bytes)
unfolding first_instr
first_read addr bytes fits = cond-true (are_bytes (take 15 bytes)) (instr_at addr (take 15 bytes)) None (bytes_pass (take 15 bytes) (bytes_taken 15 bytes fits))

tested_first : (b : Bool) (o : Option Instr) (i : Instr) → cond b o None ≡ Some i → (b ≡ true) × (o ≡ Some i)
tested_first true o i e = (refl, e)
tested_first false o i e = absurd cc

-- what is read is spelled by a prefix
pub read_law : ReadLaw
unfolding first_instr
read_law addr bytes i e =
    let both = tested_first (are_bytes (take 15 bytes)) (instr_at addr (take 15 bytes)) i e in
    let r = instr_takes addr (take 15 bytes) i (tested_bytes (take 15 bytes) both.0) (omega (arith, length-take 15 bytes)) both.1 in
    longer addr bytes i r

-- where each prefix's spelling would be given, none is given exactly where there is none
pub none_is : (addr : ℕ) (bytes : List ℕ) (r : Option Instr) → IfSome r (λ i. Found addr i bytes) → ((i : Instr) → i.addr ≡ addr → SpellsPrefix i bytes → r ≡ Some i) → (r ≡ None) ↔ ((i : Instr) → i.addr ≡ addr → SpellsPrefix i bytes → ⊥)
none_is addr bytes None found only = (λ e i at spells. none-some i (only i at spells), λ h. refl)
none_is addr bytes (Some j) found only = (λ e. absurd (none-some j (sym e)), λ h. absurd (h j found.0 found.1))

-- by the law of a lower crate what was found is in form
pub all_in_form : ((i : Instr) → i.addr < 2 ^ 64 → IsSpelled i → InForm i) → (addr : ℕ) (bytes : List ℕ) (r : Option Instr) → addr < 2 ^ 64 → IfSome r (λ i. Found addr i bytes) → IfSome r InForm
all_in_form law addr bytes (Some i) lt f = law i (rw f.0 lt) (f.1.0, f.1.2)
all_in_form law addr bytes None lt f = tt

-- what a prefix of all bytes spells is read from the first 15
pub is_only : (addr : ℕ) (bytes : List ℕ) (i : Instr) → i.addr ≡ addr → SpellsPrefix i bytes → instr_at addr (take 15 bytes) ≡ Some i
is_only addr bytes i at (text, rest, spells, parts) =
    let short : length text ≤ 15 = spelling_is_short i text spells in
    let tail = take (15 - length text) rest in
    let again : instr_at addr (text ++ tail) ≡ Some i = ap (λ (a : ℕ). instr_at a (text ++ tail)) (sym at) ∙ instr_again i text tail spells in
    ap (λ (t : List ℕ). instr_at addr (take 15 t)) parts ∙ (ap (instr_at addr) (take_prefix text rest 15 short) ∙ again)

-- what a prefix of bytes spells is read
pub spelled_law : SpelledLaw
spelled_law bytes i are spells = first_read i.addr bytes (tested_bytes bytes are) ∙ is_only i.addr bytes i refl spells

-- two spellings that begin one list are of one instruction: each is the one that is read
pub spelled_once : (i j : Instr) (a b x y : List ℕ) → i.addr ≡ j.addr → Spells i a → Spells j b → a ++ x ≡ b ++ y → (i ≡ j) × (length a ≡ length b)
spelled_once i j a b x y at s t e =
    let read_a = instr_again i a x s in
    let read_b = instr_again j b y t in
    let same : i ≡ j = same_given i j (sym read_a ∙ (ap (λ (n : ℕ). instr_at n (a ++ x)) at ∙ (ap (instr_at j.addr) e ∙ read_b))) in
    (same, len_is i a s ∙ (ap (λ (k : Instr). k.len) same ∙ sym (len_is j b t)))
  where
    len_is : (i : Instr) (a : List ℕ) → Spells i a → length a ≡ i.len
    len_is i a (inl s) = sym (ap (λ (k : Instr). k.len) s.means)
    len_is i a (inr (is, means)) = ap length is ∙ sym (ap (λ (k : Instr). k.len) means)

imm_len_is : (i : ImmSize) (w : Width) → is_length (imm_len i w) ≡ true
imm_len_is imm.Absent w = refl
imm_len_is imm.Byte w = refl
imm_len_is imm.Count w = refl
imm_len_is imm.Double w = refl
imm_len_is imm.Z W8 = refl
imm_len_is imm.Z W16 = refl
imm_len_is imm.Z W32 = refl
imm_len_is imm.Z W64 = refl
imm_len_is imm.V W8 = refl
imm_len_is imm.V W16 = refl
imm_len_is imm.V W32 = refl
imm_len_is imm.V W64 = refl

modrm_fits : (row : Row) (m : Option ModRm) → IsModRmOf row m → ForSome m FitsModRm
modrm_fits row None h x e = absurd cc
modrm_fits row (Some m) h x e = subst FitsModRm (same_given m x e) h.1

-- the parts of an encoding fit
pub parts_fit : (next : ℕ) (fs : Bool) (w v : Width) (len : ℕ) (e : Encoding) → IsEncoding e → len ≡ imm_size e → FitsParts (record { next = next; fs = fs; width = w; src_width = v; rex = e.rex; opcode = e.opcode; modrm = e.modrm; imm = e.imm; imm_len = len })
parts_fit next fs w v len e fits same = record {
  modrm = modrm_fits e.row e.modrm fits.modrm;
  len = rw same (imm_len_is e.row.imm (width e));
  imm = rw same fits.imm;
}

-- what was read stage by stage is an encoding, and is no longer than the bytes
pub stages_give : (bytes prefixes after later : List ℕ) (n : ℕ) (rex : Option ℕ) (x : Encoding × List ℕ) → prefixes ≡ take n bytes → after ≡ drop n bytes → n ≡ prefix_len bytes → rex ≡ (rex_at after).0 → later ≡ (rex_at after).1
    → fields_at (record { prefixes = prefixes; rex = rex }) later ≡ Some x → IsBytes bytes → (length x.1 ≤ length bytes) × IsEncoding x.0
unfolding encoding_at prefix_len
stages_give bytes prefixes after later n rex x p a k r b e fits =
    let read : encoding_at bytes ≡ Some x = rw (← k, ← p, ← a, ← r, ← b) e in
    let t = encoding_takes bytes x fits read in
    (omega (arith, ap length t.0.parts, length-append (bytes_of x.0) x.1), t.1)
