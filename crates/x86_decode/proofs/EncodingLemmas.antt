-- An encoding that is read begins the bytes, and one that stands there is read, whatever follows it.
use Rattle.std.proofs.Common.{◌≡◌, ℕ, ◌+◌, ◌<◌, Bool, true, false, cond, ◌&&◌, not, eqb, List, ◌∷◌, ◌++◌, length, take, drop, Option, Some, None, refl, sym, ap, subst, ◌∙◌, append_assoc}
use Rattle.std.specs.Prelude.{IfSome}
use Rattle.std.specs.List.{AllByRecursion, prefix_len as count_while}
use Rattle.std.proofs.lemmas.Bool.{and_parts, and_from, not-true, agree_below_at}
use Rattle.std.proofs.lemmas.List.{take_at, drop_at, take-append-drop}
use Rattle.x86_spelling.specs.declared.encoding.Row.{Row}
use Rattle.x86_spelling.specs.declared.encoding.ModRm.{ModRm}
use Rattle.x86_spelling.specs.Fields.{little, rex_bytes, opcode_bytes, modrm_part, is_memory}
use Rattle.x86_spelling.specs.Table.{table}
use Rattle.x86_spelling.specs.Rows.{is_at, wants, wants_rex, has_modrm, fits_operand}
use Rattle.x86_spelling.specs.Prefixes.{is_prefix, allows}
use Rattle.x86_spelling.specs.Sizes.{fits_imm}
use Rattle.x86_spelling.specs.Spells.{Encoding, IsEncoding, IsModRmOf, width, imm_size, bytes_of}
use Rattle.x86_decode.specs.Reading.{prefix_len, rex_at, opcode_at, digit_at, matches, row_at, little_at, modrm_for, Header, encoding, passes, size_at, fields_at, encoding_at}
use Rattle.x86_decode.proofs.ByteLemmas.{IsBytes, bytes_dropped, both_passed, test_passed, Takes, takes_both, little_takes, little_again}
use Rattle.x86_decode.proofs.StageLemmas.{ModRmStands, modrm_for_takes, modrm_for_again, digit_again, opcode_takes, opcode_again, is_rex, rex_takes, rex_again_some, rex_again_none, prefixes_take, prefixes_again}
use Rattle.x86_decode.proofs.RowLemmas.{find_takes, row_is_found, is_map, met, is_opcode, opcode_begins, digit_is_free}

-- the bytes after the prefixes and REX
abbrev pub after_rex : Encoding → List ℕ
after_rex e = opcode_bytes e.row.escaped e.opcode ++ (modrm_part e.modrm ++ little (imm_size e) e.imm)

abbrev Read : Type 0
Read = Encoding × List ℕ

-- the tests that the row makes, one by one
record Passed (e : Encoding) : Type 0 where
  operand : fits_operand e.row.op (is_memory e.modrm) ≡ true
  allowed : allows e.row.prefixes (is_memory e.modrm) e.prefixes ≡ true
  count : fits_imm e.row.imm (width e) e.imm ≡ true

passed : (e : Encoding) → passes e ≡ true → Passed e
passed e h =
    let first = and_parts (fits_operand e.row.op (is_memory e.modrm)) (allows e.row.prefixes (is_memory e.modrm) e.prefixes && fits_imm e.row.imm (width e) e.imm) h in
    let more = and_parts (allows e.row.prefixes (is_memory e.modrm) e.prefixes) (fits_imm e.row.imm (width e) e.imm) first.1 in
    record { operand = first.0; allowed = more.0; count = more.1 }

-- the ModRM byte that was read has the row's digit
modrm_agrees : (row : Row) (m : Option ModRm) (bytes rest : List ℕ) → ModRmStands (has_modrm row.form) m → bytes ≡ modrm_part m ++ rest → wants row.digit (digit_at bytes) ≡ true → IsModRmOf row m
modrm_agrees row None bytes rest stands e w = stands
modrm_agrees row (Some m) bytes rest stands e w =
    let reg : digit_at bytes ≡ m.reg = rw e (digit_again m rest stands.1) in
    (stands.0, stands.1, rw reg at w)

-- the row that was found is of the map that was read
map_is : (escaped : Bool) (row : Row) → is_map escaped row ≡ true → row.escaped ≡ escaped
map_is escaped row h = same_bool escaped row.escaped h
  where
    same_bool : (a b : Bool) → cond a b (cond b false true) ≡ true → b ≡ a
    same_bool true b h = h
    same_bool false true h = cc
    same_bool false false h = refl

-- an encoding with this header was read from the bytes after it
pub record Stands (header : Header) (bytes : List ℕ) (x : Read) : Type 0 where
  pub takes : Takes bytes (after_rex x.0) x.1
  pub fits : IsEncoding x.0
  pub prefixes_are : x.0.prefixes ≡ header.prefixes
  pub rex_is : x.0.rex ≡ header.rex

fields_take : (header : Header) (bytes : List ℕ) (x : Read) → IsBytes bytes → AllByRecursion (λ b. is_prefix b ≡ true) header.prefixes → IfSome header.rex (λ r. r < 16) → fields_at header bytes ≡ Some x → Stands header bytes x
unfolding fields_at row_at
fields_take header bytes x fits all low e =
    let o = both_passed (opcode_at bytes) _ x e in
    let escaped = o.0.0 in
    let opcode = o.0.1 in
    let rest = o.0.2 in
    let r = both_passed (row_at escaped opcode (digit_at rest) header.rex) _ x o.2 in
    let row = r.0 in
    let m = both_passed (modrm_for (has_modrm row.form) rest) _ x r.2 in
    let i = both_passed (little_at (size_at header row) m.0.1) _ x m.2 in
    let e0 = encoding header row opcode m.0.0 i.0.0 in
    let made : Read = (e0, i.0.1) in
    let test = test_passed (passes e0) made x i.2 in
    let tests = passed e0 test.0 in
    let o_takes = opcode_takes bytes o.0 fits o.1 in
    let found = find_takes (matches escaped opcode (digit_at rest) header.rex) table row r.1 in
    let at = and_parts (is_at escaped opcode row) (wants row.digit (digit_at rest) && wants_rex row header.rex) found.1 in
    let row_met = met escaped opcode (digit_at rest) header.rex row found.1 in
    let same_map = map_is escaped row row_met.map in
    let m_takes = modrm_for_takes (has_modrm row.form) rest m.0 o_takes.rest_fits m.1 in
    let i_takes = little_takes (size_at header row) m.0.1 i.0 m_takes.0.rest_fits i.1 in
    let tail = takes_both rest (modrm_part m.0.0) m.0.1 (little (size_at header row) i.0.0) i.0.1 m_takes.0 i_takes.0 in
    let whole = takes_both bytes (opcode_bytes escaped opcode) rest (modrm_part m.0.0 ++ little (size_at header row) i.0.0) i.0.1 o_takes tail in
    let taken : Takes bytes (after_rex e0) i.0.1 = subst (λ (t : Bool). Takes bytes (opcode_bytes t opcode ++ (modrm_part m.0.0 ++ little (size_at header row) i.0.0)) i.0.1) (sym same_map) whole in
    let good : IsEncoding e0 = record {
      prefixes = all;
      allowed = tests.allowed;
      rex = low;
      row = found.0;
      opcode = subst (λ (t : Bool). is_at t opcode row ≡ true) (sym same_map) at.0;
      rex_bits = row_met.rex_is;
      modrm = modrm_agrees row m.0.0 rest m.0.1 m_takes.1 m_takes.0.parts row_met.digit_is;
      operand = tests.operand;
      imm = i_takes.1;
      count = tests.count;
    } in
    subst (λ (y : Read). Stands header bytes y) {x = made} test.1 (record { takes = taken; fits = good; prefixes_are = refl {a = header.prefixes}; rex_is = refl {a = header.rex} })

-- an encoding that is read comes first
pub encoding_takes : (bytes : List ℕ) (x : Read) → IsBytes bytes → encoding_at bytes ≡ Some x → Takes bytes (bytes_of x.0) x.1 × IsEncoding x.0
unfolding encoding_at prefix_len
encoding_takes bytes x fits e =
    let n = count_while is_prefix bytes in
    let after = drop n bytes in
    let rex = rex_at after in
    let header : Header = record { prefixes = take n bytes; rex = rex.0 } in
    let r = rex_takes after (bytes_dropped n bytes fits) in
    let f = fields_take header rex.1 x r.0.rest_fits (prefixes_take bytes) r.1 e in
    let tail = takes_both after (rex_bytes rex.0) rex.1 (after_rex x.0) x.1 r.0 f.takes in
    let first : Takes bytes header.prefixes after = record { parts = sym (take-append-drop n bytes); rest_fits = bytes_dropped n bytes fits } in
    let whole = takes_both bytes header.prefixes after (rex_bytes rex.0 ++ after_rex x.0) x.1 first tail in
    let with_rex : Takes bytes (header.prefixes ++ (rex_bytes x.0.rex ++ after_rex x.0)) x.1 = subst (λ (o : Option ℕ). Takes bytes (header.prefixes ++ (rex_bytes o ++ after_rex x.0)) x.1) (sym f.rex_is) whole in
    (subst (λ (ps : List ℕ). Takes bytes (ps ++ (rex_bytes x.0.rex ++ after_rex x.0)) x.1) (sym f.prefixes_are) with_rex, f.fits)

-- the digit that is read is the row's, or the row has none
digit_matches : (e : Encoding) (rest : List ℕ) → IsEncoding e → wants e.row.digit (digit_at (modrm_part e.modrm ++ rest)) ≡ true
digit_matches e rest fits = by_modrm e.modrm fits.modrm
  where
    by_modrm : (m : Option ModRm) → IsModRmOf e.row m → wants e.row.digit (digit_at (modrm_part m ++ rest)) ≡ true
    by_modrm None none = digit_is_free e.row (digit_at rest) fits.row none
    by_modrm (Some m) some = rw (digit_again m rest some.1) some.2

modrm_stands : (row : Row) (m : Option ModRm) → IsModRmOf row m → ModRmStands (has_modrm row.form) m
modrm_stands row None none = none
modrm_stands row (Some m) some = (some.0, some.1)

opcode_is : (e : Encoding) → IsEncoding e → e.row.escaped ≡ false → is_opcode e.opcode ≡ true
opcode_is e fits first = opcode_begins e.opcode e.row fits.row first (subst (λ (t : Bool). is_at t e.opcode e.row ≡ true) first fits.opcode)

is_opcode_parts : (b : ℕ) → is_opcode b ≡ true → (is_prefix b ≡ false) × (is_rex b ≡ false) × (eqb b 0x0f ≡ false)
is_opcode_parts b h =
    let p = and_parts (not (is_prefix b)) (not (is_rex b) && not (eqb b 0x0f)) h in
    let q = and_parts (not (is_rex b)) (not (eqb b 0x0f)) p.1 in
    (not-true (is_prefix b) p.0, not-true (is_rex b) q.0, not-true (eqb b 0x0f) q.1)

-- what stands after the prefixes and REX is read
pub fields_again : (e : Encoding) (rest : List ℕ) → IsEncoding e → fields_at (record { prefixes = e.prefixes; rex = e.rex }) (after_rex e ++ rest) ≡ Some (e, rest)
unfolding fields_at row_at
fields_again e rest fits =
    let imm = little (imm_size e) e.imm in
    let regrouped : after_rex e ++ rest ≡ opcode_bytes e.row.escaped e.opcode ++ (modrm_part e.modrm ++ (imm ++ rest)) =
    append_assoc (opcode_bytes e.row.escaped e.opcode) (modrm_part e.modrm ++ imm) rest ∙ ap (λ (t : List ℕ). opcode_bytes e.row.escaped e.opcode ++ t) (append_assoc (modrm_part e.modrm) imm rest) in
    let opcode = opcode_again e.row.escaped e.opcode (modrm_part e.modrm ++ (imm ++ rest)) (λ first. (is_opcode_parts e.opcode (opcode_is e fits first)).2) in
    let digit = digit_at (modrm_part e.modrm ++ (imm ++ rest)) in
    let matched : matches e.row.escaped e.opcode digit e.rex e.row ≡ true = and_from (is_at e.row.escaped e.opcode e.row) (wants e.row.digit digit && wants_rex e.row e.rex) fits.opcode (and_from (wants e.row.digit digit) (wants_rex e.row e.rex) (digit_matches e (imm ++ rest) fits) fits.rex_bits) in
    let row = row_is_found e.row.escaped e.opcode digit e.rex e.row fits.row matched in
    let modrm = modrm_for_again (has_modrm e.row.form) e.modrm (imm ++ rest) (modrm_stands e.row e.modrm fits.modrm) in
    let number = little_again (imm_size e) e.imm rest fits.imm in
    let tests : passes e ≡ true = and_from (fits_operand e.row.op (is_memory e.modrm)) (allows e.row.prefixes (is_memory e.modrm) e.prefixes && fits_imm e.row.imm (width e) e.imm) fits.operand (and_from (allows e.row.prefixes (is_memory e.modrm) e.prefixes) (fits_imm e.row.imm (width e) e.imm) fits.allowed fits.count) in
    ap (fields_at (record { prefixes = e.prefixes; rex = e.rex })) regrouped ∙ rw (opcode, row, modrm, number, tests) refl

-- the first byte is neither a prefix nor REX
record Begins (bytes : List ℕ) (c : ℕ) (cs : List ℕ) : Type 0 where
  is : bytes ≡ c ∷ cs
  no_prefix : is_prefix c ≡ false
  no_rex : is_rex c ≡ false

opcode_starts : (escaped : Bool) (o : ℕ) (tail : List ℕ) → (escaped ≡ false → is_opcode o ≡ true) → (c : ℕ) × (cs : List ℕ) × Begins (opcode_bytes escaped o ++ tail) c cs
opcode_starts true o tail h = (0x0f, o ∷ tail, record { is = refl; no_prefix = refl; no_rex = refl })
opcode_starts false o tail h =
    let p = is_opcode_parts o (h refl) in
    (o, tail, record { is = refl; no_prefix = p.0; no_rex = p.1 })

rex_is_no_prefix : (r : ℕ) → r < 16 → is_prefix (0x40 + r) ≡ false
rex_is_no_prefix r lt = agree_below_at (λ n. is_prefix (0x40 + n)) (λ n. false) 16 r refl lt

-- prefixes and REX before an opcode are read, and no more
split_again : (ps : List ℕ) (rex : Option ℕ) (bytes : List ℕ) (c : ℕ) (cs : List ℕ) → AllByRecursion (λ b. is_prefix b ≡ true) ps → IfSome rex (λ r. r < 16) → Begins bytes c cs
    → (count_while is_prefix (ps ++ (rex_bytes rex ++ bytes)) ≡ length ps) × (rex_at (rex_bytes rex ++ bytes) ≡ (rex, bytes))
split_again ps None bytes c cs all low b =
    (rw b.is (prefixes_again ps c cs all b.no_prefix), rw b.is (rex_again_none c cs b.no_rex))
split_again ps (Some r) bytes c cs all low b =
    (prefixes_again ps (0x40 + r) bytes all (rex_is_no_prefix r low), rex_again_some r bytes low)

-- an encoding that comes first is read
pub encoding_again : (e : Encoding) (rest : List ℕ) → IsEncoding e → encoding_at (bytes_of e ++ rest) ≡ Some (e, rest)
unfolding encoding_at prefix_len
encoding_again e rest fits =
    let after = after_rex e ++ rest in
    let tail = modrm_part e.modrm ++ little (imm_size e) e.imm in
    let regrouped : bytes_of e ++ rest ≡ e.prefixes ++ (rex_bytes e.rex ++ after) =
    append_assoc e.prefixes (rex_bytes e.rex ++ after_rex e) rest ∙ ap (λ (t : List ℕ). e.prefixes ++ t) (append_assoc (rex_bytes e.rex) (after_rex e) rest) in
    let start = opcode_starts e.row.escaped e.opcode (tail ++ rest) (opcode_is e fits) in
    let begins : Begins after start.0 start.1 = record { is = append_assoc (opcode_bytes e.row.escaped e.opcode) tail rest ∙ start.2.is; no_prefix = start.2.no_prefix; no_rex = start.2.no_rex } in
    let split = split_again e.prefixes e.rex after start.0 start.1 fits.prefixes fits.rex begins in
    ap encoding_at regrouped ∙ rw (split.0, take_at e.prefixes (rex_bytes e.rex ++ after) (length e.prefixes) refl, drop_at e.prefixes (rex_bytes e.rex ++ after) (length e.prefixes) refl, split.1) (fields_again e rest fits)
