-- What has a spelling is in form.
use Rattle.std.proofs.Common.{◌≡◌, ℕ, ◌+◌, ◌^◌, ◌<◌, ◌≤◌, Bool, true, false, ◌&&◌, cond, ltb, leb, ◌++◌, length, Option, Some, None, refl, sym, subst, arith, inl, inr}
use Rattle.std.specs.Prelude.{unwrap_or}
use Rattle.std.proofs.lemmas.Bool.{and_parts, cases_Bool, leb-true, ltb-true}
use Rattle.std.proofs.lemmas.List.{length-append}
use Rattle.bits_core.specs.declared.width.Width.{Width}
use Rattle.x86_instr.specs.declared.instr.Op.{Op}
use Rattle.x86_instr.specs.declared.instr.Op.TheVariants as op
use Rattle.x86_instr.specs.declared.instr.Instr.{Instr}
use Rattle.x86_spelling.specs.declared.encoding.Form.{Form}
use Rattle.x86_spelling.specs.declared.encoding.Form.TheVariants as form
use Rattle.x86_spelling.specs.declared.encoding.Row.{Row}
use Rattle.x86_spelling.specs.declared.encoding.ModRm.{ModRm}
use Rattle.x86_spelling.specs.declared.encoding.Parts.{Parts}
use Rattle.x86_spelling.specs.Fields.{little, rex_bytes, rex_w, opcode_bytes, modrm_part, is_memory}
use Rattle.x86_spelling.specs.Rows.{has_modrm}
use Rattle.x86_spelling.specs.Prefixes.{is_small}
use Rattle.x86_spelling.specs.Instructions.{source}
use Rattle.x86_spelling.specs.Spells.{Encoding, IsEncoding, IsModRmOf, imm_size, bytes_of, parts, meaning, endbr64_at, IsSpelled}
use Rattle.x86_instr.specs.Kinds.{a_place}
use Rattle.x86_instr.specs.Fits.{IsOperand, InForm}
use Rattle.spelling_laws.proofs.OperandLemmas.{HasModRm, place_is, destination_fits, source_fits, one_place_of}
use Rattle.spelling_laws.proofs.TableLemmas.{is_lea, src_of_row, lea_wants, form_of_lea, operand_within, width_within, source_within, source_or, has_one_width, has_target, condition_fits, factor_fits, RowFits, row_of_table}

opcode_is_there : (escaped : Bool) (opcode : ℕ) → 1 ≤ length (opcode_bytes escaped opcode)
opcode_is_there true opcode = omega arith
opcode_is_there false opcode = omega arith

-- an encoding has at least the byte of its opcode
bytes_are_some : (e : Encoding) → 1 ≤ length (bytes_of e)
bytes_are_some e =
    let tail = modrm_part e.modrm ++ little (imm_size e) e.imm in
    let opcode = opcode_bytes e.row.escaped e.opcode in
    omega (arith, opcode_is_there e.row.escaped e.opcode, length-append opcode tail, length-append (rex_bytes e.rex) (opcode ++ tail), length-append e.prefixes (rex_bytes e.rex ++ (opcode ++ tail)))

has_modrm_of : (r : Row) (m : Option ModRm) → IsModRmOf r m → HasModRm (has_modrm r.form) m
has_modrm_of r None h = h
has_modrm_of r (Some m) h = h.1

-- the opcode is one of the row's
opcode_range : (e : Encoding) → IsEncoding e → (e.row.opcode ≤ e.opcode) × (e.opcode < e.row.opcode + e.row.span)
opcode_range e fits =
    let first = and_parts (cond e.row.escaped e.row.escaped (cond e.row.escaped false true)) (leb e.row.opcode e.opcode && ltb e.opcode (e.row.opcode + e.row.span)) fits.opcode in
    let range = and_parts (leb e.row.opcode e.opcode) (ltb e.opcode (e.row.opcode + e.row.span)) first.1 in
    (leb-true e.row.opcode e.opcode range.0, ltb-true e.opcode (e.row.opcode + e.row.span) range.1)

source_width_is : (r : Option Width) (w : Width) → unwrap_or r w ≡ source_or r w
source_width_is None w = refl
source_width_is (Some v) w = refl

lea_place : (o : Op) (f : Form) (p : Parts) → is_lea o ≡ true → form_of_lea o f ≡ true → HasModRm (has_modrm f) p.modrm → is_memory p.modrm ≡ true → IsOperand a_place p.src_width (source f p)
lea_place op.Lea form.RegRm p lea is h memory = place_is p.src_width p p.modrm h memory
lea_place op.Lea _ p lea is h memory = absurd cc
lea_place _ f p lea is h memory = absurd cc

-- the second operand is of the row's kinds
src_fits : (e : Encoding) (p : Parts) → IsEncoding e → RowFits e.row → p.modrm ≡ e.modrm → p.src_width ≡ source_or e.row.source p.width → IsOperand (src_of_row e.row) p.src_width (source e.row.form p)
src_fits e p fits row m w =
    let h : HasModRm (has_modrm e.row.form) p.modrm = rw m (has_modrm_of e.row e.modrm fits.modrm) in
    elim (cases_Bool (is_lea e.row.op)) [
      | inl lea ↦
          let memory : is_memory p.modrm ≡ true = rw m (lea_wants e.row.op (is_memory e.modrm) lea fits.operand) in
          rw lea (lea_place e.row.op e.row.form p lea row.lea_form h memory)
      | inr other ↦ rw other (source_fits e.row.form p h (has_one_width e.row.form e.row.source p row.one_source w))
    ]

-- an encoding at an address means an instruction in form
encoding_fits : (addr len : ℕ) (e : Encoding) → addr < 2 ^ 64 → 1 ≤ len → len ≤ 15 → IsEncoding e → InForm (meaning addr len e)
encoding_fits addr len e at long short fits =
    let p = parts addr len e in
    let row = row_of_table e.row fits.row in
    let h = has_modrm_of e.row e.modrm fits.modrm in
    let range = opcode_range e fits in
    let w = rex_w e.rex in
    let small = is_small e.prefixes in
    let same : p.src_width ≡ source_or e.row.source p.width = source_width_is e.row.source p.width in
    record {
      addr = at;
      long = long;
      short = short;
      width = width_within e.row.size _ w small row.sizes;
      src_width = rw same (source_within e.row.op e.row.size e.row.source w small row.sources);
      cc = condition_fits e.row.op e.row.opcode e.row.span e.opcode row.conditions range.0 range.1;
      dst = operand_within _ _ p.width _ row.dst (destination_fits e.row.form p h (has_target e.row.form e.row.size w small row.targets));
      src = operand_within _ _ p.src_width _ row.src (src_fits e p fits row refl same);
      one_place = one_place_of e.row.form p h;
      extra = factor_fits e.row.form e.row.op p row.factors;
    }

endbr64_fits : (addr : ℕ) → addr < 2 ^ 64 → InForm (endbr64_at addr)
endbr64_fits addr at = record { addr = at; long = omega arith; short = omega arith; width = refl; src_width = refl; cc = refl; dst = refl; src = refl; one_place = refl; extra = refl }

-- whatever has a spelling at an address is in form
pub spelled_fits : (i : Instr) → i.addr < 2 ^ 64 → IsSpelled i → InForm i
spelled_fits i at (bytes, inl s) =
    let some : 1 ≤ length bytes = rw s.bytes_are (bytes_are_some s.encoding) in
    subst InForm (sym s.means) (encoding_fits i.addr (length bytes) s.encoding at some s.short s.fits)
spelled_fits i at (bytes, inr (is, means)) = subst InForm (sym means) (endbr64_fits i.addr at)
