-- What each row of the opcode map has: operands and sizes of its operation, by one test over all rows.
use Rattle.std.proofs.Common.{◌≡◌, ℕ, ◌+◌, ◌%◌, ◌^◌, ◌<◌, ◌≤◌, Bool, true, false, not, ◌&&◌, ◌||◌, cond, leb, eqb, Option, Some, None, refl, ◌∙◌, arith, inl, inr}
use Rattle.std.specs.Prelude.{Contains, is_none}
use Rattle.std.specs.List.{list_all}
use Rattle.std.proofs.lemmas.Nat.{pow_pos}
use Rattle.std.proofs.lemmas.Bool.{and_parts, or_cases, cond_both, eqb-true, leb-true}
use Rattle.std.proofs.lemmas.List.Sums.{AllPass-from_list_all}
use Rattle.std.proofs.lemmas.List.Elements.{All-contains}
use Rattle.bits_core.specs.declared.width.Width.{Width}
use Rattle.bits_core.specs.declared.width.Width.TheVariants.{W8, W16, W32, W64}
use Rattle.bits_core.specs.Width.{bits_of}
use Rattle.x86_instr.specs.declared.instr.Op.{Op}
use Rattle.x86_instr.specs.declared.instr.Op.TheVariants as op
use Rattle.x86_instr.specs.declared.instr.Operand.{Operand}
use Rattle.x86_instr.specs.declared.instr.Operand.TheVariants as operand
use Rattle.x86_spelling.specs.declared.encoding.Form.{Form}
use Rattle.x86_spelling.specs.declared.encoding.Form.TheVariants as form
use Rattle.x86_spelling.specs.declared.encoding.Size.{Size}
use Rattle.x86_spelling.specs.declared.encoding.Size.TheVariants as size
use Rattle.x86_spelling.specs.declared.encoding.Row.{Row}
use Rattle.x86_spelling.specs.declared.encoding.Parts.{Parts}
use Rattle.x86_spelling.specs.Table.{table}
use Rattle.x86_spelling.specs.Rows.{fits_operand}
use Rattle.x86_spelling.specs.Sizes.{width_of}
use Rattle.x86_spelling.specs.Instructions.{condition, factor}
use Rattle.x86_instr.specs.Kinds.{Kinds, a_place, dst_kinds, src_kinds, Widths, has_width, widths_of}
use Rattle.x86_instr.specs.Fits.{IsOperand, is_narrow, is_extended, IsSourceWidth, FitsCondition, IsCondition, IsFactor}
use Rattle.spelling_laws.proofs.OperandLemmas.{form_dst, form_src, number_fits, HasTarget, HasOneWidth}

-- one answer is given where another is
abbrev pub only_if : Bool → Bool → Bool
only_if a b = not a || b

only_if_true : (a b : Bool) → only_if a b ≡ true → a ≡ true → b ≡ true
only_if_true true b h t = h
only_if_true false b h t = absurd cc

-- all of the first kinds are among the second
abbrev pub kinds_within : Kinds → Kinds → Bool
kinds_within a b =
    only_if a.nothing b.nothing && (only_if a.register b.register && (only_if a.cl (b.cl || b.register) && (only_if a.immediate b.immediate && only_if a.place b.place)))

record Within (a b : Kinds) : Type 0 where
  nothing : a.nothing ≡ true → b.nothing ≡ true
  register : a.register ≡ true → b.register ≡ true
  cl : a.cl ≡ true → (b.cl || b.register) ≡ true
  immediate : a.immediate ≡ true → b.immediate ≡ true
  place : a.place ≡ true → b.place ≡ true

within : (a b : Kinds) → kinds_within a b ≡ true → Within a b
within a b h =
    let p = and_parts (only_if a.nothing b.nothing) (only_if a.register b.register && (only_if a.cl (b.cl || b.register) && (only_if a.immediate b.immediate && only_if a.place b.place))) h in
    let q = and_parts (only_if a.register b.register) (only_if a.cl (b.cl || b.register) && (only_if a.immediate b.immediate && only_if a.place b.place)) p.1 in
    let r = and_parts (only_if a.cl (b.cl || b.register)) (only_if a.immediate b.immediate && only_if a.place b.place) q.1 in
    let s = and_parts (only_if a.immediate b.immediate) (only_if a.place b.place) r.1 in
    record {
      nothing = only_if_true a.nothing b.nothing p.0;
      register = only_if_true a.register b.register q.0;
      cl = only_if_true a.cl (b.cl || b.register) r.0;
      immediate = only_if_true a.immediate b.immediate s.0;
      place = only_if_true a.place b.place s.1;
    }

register_or_cl : (register cl : Bool) (here : Bool) → (cl || register) ≡ true → here ≡ true → (register || (cl && here)) ≡ true
register_or_cl true cl here h t = refl
register_or_cl false true here h t = t
register_or_cl false false here h t = absurd cc

left_true : (a b : Bool) → a ≡ true → (a || b) ≡ true
left_true true b h = refl
left_true false b h = absurd cc

-- an operand of the first kinds is one of the second
pub operand_within : (a b : Kinds) (w : Width) (o : Operand) → kinds_within a b ≡ true → IsOperand a w o → IsOperand b w o
operand_within a b w operand.None h fits = (within a b h).nothing fits
operand_within a b w (operand.Reg r) h fits =
    let k = within a b h in
    elim (or_cases a.register (a.cl && eqb r 1) fits.0) [
      | inl t ↦ (left_true b.register (b.cl && eqb r 1) (k.register t), fits.1)
      | inr t ↦
          let parts = and_parts a.cl (eqb r 1) t in
          (register_or_cl b.register b.cl (eqb r 1) (k.cl parts.0) parts.1, fits.1)
    ]
operand_within a b w (operand.High r) h fits = ((within a b h).register fits.0, fits.1, fits.2)
operand_within a b w (operand.Imm n) h fits = ((within a b h).immediate fits.0, fits.1)
operand_within a b w (operand.Mem p) h fits = ((within a b h).place fits.0, fits.1)

abbrev pub is_lea : Op → Bool
is_lea op.Lea = true
is_lea _ = false

-- lea has a place, so its form's register doesn't count
abbrev pub src_of_row : Row → Kinds
src_of_row r = cond (is_lea r.op) a_place (form_src r.form)

-- all operand sizes of a row are those of the operation
abbrev pub size_within : Size → Widths → Bool
size_within size.Byte ws = ws.byte
size_within size.V ws = ws.word && (ws.double && ws.quad)
size_within size.Y ws = ws.double && ws.quad
size_within size.Quad ws = ws.quad

pub width_within : (s : Size) (ws : Widths) (w : ℕ) (small : Bool) → size_within s ws ≡ true → has_width ws (width_of s w small) ≡ true
width_within size.Byte ws w small h = h
width_within size.Quad ws w small h = h
width_within size.Y ws w small h =
    let parts = and_parts ws.double ws.quad h in
    cond_both (eqb w 1) W64 W32 (λ v. has_width ws v ≡ true) (λ t. parts.1) (λ t. parts.0)
width_within size.V ws w small h =
    let p = and_parts ws.word (ws.double && ws.quad) h in
    let q = and_parts ws.double ws.quad p.1 in
    cond_both (eqb w 1) W64 (cond small W16 W32) (λ v. has_width ws v ≡ true) (λ t. q.1) (λ t. cond_both small W16 W32 (λ v. has_width ws v ≡ true) (λ u. p.0) (λ u. q.0))

abbrev pub is_movzx : Op → Bool
is_movzx op.Movzx = true
is_movzx _ = false

abbrev pub is_movsx : Op → Bool
is_movsx op.Movsx = true
is_movsx _ = false

abbrev pub is_quad : Size → Bool
is_quad size.Quad = true
is_quad _ = false

-- a row names a source width only for movzx and movsx
abbrev pub source_fits_op : Op → Size → Option Width → Bool
source_fits_op o s None = not (is_movzx o || is_movsx o)
source_fits_op o s (Some W8) = is_movzx o || is_movsx o
source_fits_op o s (Some W16) = is_movzx o || is_movsx o
source_fits_op o s (Some W32) = is_movsx o && is_quad s
source_fits_op o s (Some W64) = false

narrow_extends : (w v : Width) → is_narrow v ≡ true → is_extended w v ≡ true
narrow_extends W64 W8 h = refl
narrow_extends W64 W16 h = refl
narrow_extends W64 W32 h = absurd cc
narrow_extends W64 W64 h = absurd cc
narrow_extends W8 v h = h
narrow_extends W16 v h = h
narrow_extends W32 v h = h

same_width : (o : Op) (w : Width) → not (is_movzx o || is_movsx o) ≡ true → IsSourceWidth o w w
same_width op.Movzx w h = absurd cc
same_width op.Movsx w h = absurd cc
same_width _ w h = refl

narrow_width : (o : Op) (w v : Width) → is_narrow v ≡ true → (is_movzx o || is_movsx o) ≡ true → IsSourceWidth o w v
narrow_width op.Movzx w v n h = n
narrow_width op.Movsx w v n h = narrow_extends w v n
narrow_width _ w v n h = absurd cc

double_width : (o : Op) → is_movsx o ≡ true → IsSourceWidth o W64 W32
double_width op.Movsx h = refl
double_width _ h = absurd cc

quad_is : (s : Size) (w : ℕ) (small : Bool) → is_quad s ≡ true → width_of s w small ≡ W64
quad_is size.Quad w small h = refl
quad_is size.Byte w small h = absurd cc
quad_is size.V w small h = absurd cc
quad_is size.Y w small h = absurd cc

abbrev pub source_or : Option Width → Width → Width
source_or None w = w
source_or (Some v) w = v

pub source_within : (o : Op) (s : Size) (source : Option Width) (w : ℕ) (small : Bool) → source_fits_op o s source ≡ true → IsSourceWidth o (width_of s w small) (source_or source (width_of s w small))
source_within o s None w small h = same_width o (width_of s w small) h
source_within o s (Some W8) w small h = narrow_width o (width_of s w small) W8 refl h
source_within o s (Some W16) w small h = narrow_width o (width_of s w small) W16 refl h
source_within o s (Some W32) w small h =
    let parts = and_parts (is_movsx o) (is_quad s) h in
    rw (quad_is s w small parts.1) (double_width o parts.0)
source_within o s (Some W64) w small h = absurd cc

-- a row has a source width only where r/m is the second operand
abbrev pub one_width : Form → Option Width → Bool
one_width form.RegRm source = true
one_width form.RegRmImm source = true
one_width _ source = is_none source

none_or : (source : Option Width) (w : Width) → is_none source ≡ true → source_or source w ≡ w
none_or None w h = refl
none_or (Some v) w h = absurd cc

pub has_one_width : (f : Form) (source : Option Width) (p : Parts) → one_width f source ≡ true → p.src_width ≡ source_or source p.width → HasOneWidth f p
has_one_width form.RegRm source p h e = tt
has_one_width form.RegRmImm source p h e = tt
has_one_width _ source p h e = e ∙ none_or source p.width h

-- a direct target has a row of 64 bits
abbrev pub target_size : Form → Size → Bool
target_size form.Offset s = is_quad s
target_size _ s = true

pub has_target : (f : Form) (s : Size) (w : ℕ) (small : Bool) → target_size f s ≡ true → HasTarget f (width_of s w small)
has_target form.Offset s w small h = quad_is s w small h
has_target _ s w small h = tt

-- the opcodes of conditions begin at a multiple of 16 or 12 after one, and leave out 10 and 11
abbrev pub condition_range : ℕ → ℕ → Bool
condition_range first span = (eqb (first % 16) 0 && leb span 10) || (eqb (first % 16) 12 && leb span 4)

abbrev pub condition_opcodes : Op → ℕ → ℕ → Bool
condition_opcodes op.Jcc first span = condition_range first span
condition_opcodes op.Cmov first span = condition_range first span
condition_opcodes op.Setcc first span = condition_range first span
condition_opcodes _ first span = true

in_range : (first span o : ℕ) → condition_range first span ≡ true → first ≤ o → o < first + span → FitsCondition (o % 16)
in_range first span o h low high =
    elim (or_cases (eqb (first % 16) 0 && leb span 10) (eqb (first % 16) 12 && leb span 4) h) [
      | inl t ↦
          let p = and_parts (eqb (first % 16) 0) (leb span 10) t in
          let start : first % 16 ≡ 0 = eqb-true (first % 16) 0 p.0 in
          let few : span ≤ 10 = leb-true span 10 p.1 in
          let below : o % 16 < 10 = omega arith in
          (omega arith, λ e. omega (arith, e, below), λ e. omega (arith, e, below))
      | inr t ↦
          let p = and_parts (eqb (first % 16) 12) (leb span 4) t in
          let start : first % 16 ≡ 12 = eqb-true (first % 16) 12 p.0 in
          let few : span ≤ 4 = leb-true span 4 p.1 in
          let above : 12 ≤ o % 16 = omega arith in
          (omega arith, λ e. omega (arith, e, above), λ e. omega (arith, e, above))
    ]

pub condition_fits : (op : Op) (first span o : ℕ) → condition_opcodes op first span ≡ true → first ≤ o → o < first + span → IsCondition op (condition op o)
condition_fits op.Jcc first span o h low high = in_range first span o h low high
condition_fits op.Cmov first span o h low high = in_range first span o h low high
condition_fits op.Setcc first span o h low high = in_range first span o h low high
condition_fits _ first span o h low high = refl

abbrev pub is_imul3 : Op → Bool
is_imul3 op.Imul3 = true
is_imul3 _ = false

-- only a multiplication with three operands has a factor
abbrev pub factor_form : Form → Op → Bool
factor_form form.RegRmImm o = is_imul3 o
factor_form _ o = true

zero_factor : (o : Op) (w : Width) → IsFactor o w 0
zero_factor op.Imul3 w = pow_pos (bits_of w)
zero_factor _ w = refl

a_factor : (o : Op) (w : Width) (n : ℕ) → is_imul3 o ≡ true → n < 2 ^ bits_of w → IsFactor o w n
a_factor op.Imul3 w n h lt = lt
a_factor _ w n h lt = absurd cc

pub factor_fits : (f : Form) (o : Op) (p : Parts) → factor_form f o ≡ true → IsFactor o p.width (factor f p)
factor_fits form.RegRmImm o p h = a_factor o p.width (factor form.RegRmImm p) h (number_fits p)
factor_fits _ o p h = zero_factor o p.width

-- lea alone wants a place
pub lea_wants : (o : Op) (memory : Bool) → is_lea o ≡ true → fits_operand o memory ≡ true → memory ≡ true
lea_wants op.Lea memory h fits = fits
lea_wants _ memory h fits = absurd cc

abbrev pub form_of_lea : Op → Form → Bool
form_of_lea op.Lea form.RegRm = true
form_of_lea op.Lea _ = false
form_of_lea _ f = true

-- all that a row must have
abbrev row_fits : Row → Bool
row_fits r =
    kinds_within (form_dst r.form) (dst_kinds r.op)
    && (kinds_within (src_of_row r) (src_kinds r.op)
    && (size_within r.size (widths_of r.op)
    && (source_fits_op r.op r.size r.source
    && (one_width r.form r.source
    && (target_size r.form r.size
    && (condition_opcodes r.op r.opcode r.span
    && (factor_form r.form r.op
    && form_of_lea r.op r.form)))))))

table_fits : list_all row_fits table ≡ true
table_fits = refl

-- the tests of a row, one by one
pub record RowFits (r : Row) : Type 0 where
  pub dst : kinds_within (form_dst r.form) (dst_kinds r.op) ≡ true
  pub src : kinds_within (src_of_row r) (src_kinds r.op) ≡ true
  pub sizes : size_within r.size (widths_of r.op) ≡ true
  pub sources : source_fits_op r.op r.size r.source ≡ true
  pub one_source : one_width r.form r.source ≡ true
  pub targets : target_size r.form r.size ≡ true
  pub conditions : condition_opcodes r.op r.opcode r.span ≡ true
  pub factors : factor_form r.form r.op ≡ true
  pub lea_form : form_of_lea r.op r.form ≡ true

tests_of : (r : Row) → row_fits r ≡ true → RowFits r
tests_of r h0 =
    let p1 = and_parts _ _ h0 in
    let p2 = and_parts _ _ p1.1 in
    let p3 = and_parts _ _ p2.1 in
    let p4 = and_parts _ _ p3.1 in
    let p5 = and_parts _ _ p4.1 in
    let p6 = and_parts _ _ p5.1 in
    let p7 = and_parts _ _ p6.1 in
    let p8 = and_parts _ _ p7.1 in
    record { dst = p1.0; src = p2.0; sizes = p3.0; sources = p4.0; one_source = p5.0; targets = p6.0; conditions = p7.0; factors = p8.0; lea_form = p8.1 }

-- each row of the table has it
pub row_of_table : (r : Row) → Contains table r → RowFits r
row_of_table r there = tests_of r (All-contains (λ (x : Row). row_fits x ≡ true) table r (AllPass-from_list_all row_fits table table_fits) there)
