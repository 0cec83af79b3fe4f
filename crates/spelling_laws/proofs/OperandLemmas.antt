-- The operands that an encoding's fields give are of the kinds of its form, and in range.
use Rattle.std.proofs.Common.{◌≡◌, ◌≢◌, ℕ, ◌+◌, ◌-◌, ◌*◌, ◌%◌, ◌^◌, ◌<◌, ◌≤◌, Bool, true, false, ◌&&◌, cond, ltb, eqb, Option, Some, None, refl, sym, subst, arith}
use Rattle.std.specs.Prelude.{IfSome, IsTrue}
use Rattle.std.proofs.Math.Nat.{pow-le-pow_right, mod-lt}
use Rattle.std.proofs.lemmas.Nat.{pow_pos}
use Rattle.std.proofs.lemmas.Bool.{cond_both, eqb-false, agree_below_at, not-true}
use Rattle.bits_core.specs.declared.width.Width.{Width}
use Rattle.bits_core.specs.declared.width.Width.TheVariants.{W8, W16, W32, W64}
use Rattle.bits_core.specs.Width.{bits_of}
use Rattle.x86_instr.specs.declared.instr.Operand.{Operand}
use Rattle.x86_instr.specs.declared.instr.Operand.TheVariants as operand
use Rattle.x86_spelling.specs.declared.encoding.Form.{Form}
use Rattle.x86_spelling.specs.declared.encoding.Form.TheVariants as form
use Rattle.x86_spelling.specs.declared.encoding.Sib.{Sib}
use Rattle.x86_spelling.specs.declared.encoding.ModRm.{ModRm}
use Rattle.x86_spelling.specs.declared.encoding.Parts.{Parts}
use Rattle.x86_spelling.specs.Fields.{rex_b, rex_x, rex_r, base_field, is_baseless, disp_len, has_sib, SibStands, FitsModRm, is_memory}
use Rattle.x86_spelling.specs.Rows.{has_modrm}
use Rattle.x86_spelling.specs.Sizes.{sign_extend}
use Rattle.x86_spelling.specs.Operands.{register, index_of, scale_of, is_relative, place, rm_operand, reg_operand, opcode_operand, imm_number}
use Rattle.x86_spelling.specs.Instructions.{destination, source}
use Rattle.x86_instr.specs.Kinds.{Kinds, no_operand, a_register, an_immediate, a_place, register_or_place}
use Rattle.x86_instr.specs.Fits.{is_scale, FitsPlace, IsOperand, is_place}

-- CL alone
abbrev pub cl_only : Kinds
cl_only = record { nothing = false; register = false; cl = true; immediate = false; place = false }

-- what the first operand of a form may be
abbrev pub form_dst : Form → Kinds
form_dst form.RmReg = register_or_place
form_dst form.RegRm = a_register
form_dst form.RmImm = register_or_place
form_dst form.RmCount = register_or_place
form_dst form.AccImm = a_register
form_dst form.OpImm = a_register
form_dst form.OpReg = a_register
form_dst form.Rm = register_or_place
form_dst form.Offset = an_immediate
form_dst form.ImmOnly = an_immediate
form_dst form.RegRmImm = a_register
form_dst form.RmOne = register_or_place
form_dst form.RmCl = register_or_place
form_dst form.AccOp = a_register
form_dst form.RmIgnored = no_operand
form_dst form.Nothing = no_operand

-- what the second operand of a form may be
abbrev pub form_src : Form → Kinds
form_src form.RmReg = a_register
form_src form.RegRm = register_or_place
form_src form.RmImm = an_immediate
form_src form.RmCount = an_immediate
form_src form.AccImm = an_immediate
form_src form.OpImm = an_immediate
form_src form.OpReg = no_operand
form_src form.Rm = no_operand
form_src form.Offset = no_operand
form_src form.ImmOnly = no_operand
form_src form.RegRmImm = register_or_place
form_src form.RmOne = an_immediate
form_src form.RmCl = cl_only
form_src form.AccOp = a_register
form_src form.RmIgnored = no_operand
form_src form.Nothing = no_operand

-- there is a ModRm byte where there must be, and its fields fit
abbrev pub HasModRm : Bool → Option ModRm → Type 0
HasModRm stands None = stands ≡ false
HasModRm stands (Some m) = FitsModRm m

-- a register that three bits of a field and a bit of REX name
register_fits : (w : Width) (rex : Option ℕ) (bit low : ℕ) → low < 8 → bit < 2 → (rex ≡ None → bit ≡ 0) → IsOperand a_register w (register w rex (8 * bit + low))
register_fits W8 None bit low l b none =
    let zero_bit : bit ≡ 0 = none refl in
    cond_both (ltb (8 * bit + low) 4) (operand.Reg (8 * bit + low)) (operand.High (8 * bit + low - 4)) (IsOperand a_register W8) (λ h. (refl, omega arith)) (λ h. (refl, refl, omega arith))
register_fits W8 (Some r) bit low l b none = (refl, omega arith)
register_fits W16 rex bit low l b none = (refl, omega arith)
register_fits W32 rex bit low l b none = (refl, omega arith)
register_fits W64 rex bit low l b none = (refl, omega arith)

no_b : (rex : Option ℕ) → rex ≡ None → rex_b rex ≡ 0
no_b rex e = rw e refl

no_r : (rex : Option ℕ) → rex ≡ None → rex_r rex ≡ 0
no_r rex e = rw e refl

-- a number extended by its sign is below 2^64
extended_fits : (len n : ℕ) → len ≤ 8 → n < 256 ^ len → sign_extend len n < 2 ^ 64
extended_fits len n le lt =
    let power : 256 ^ len ≤ 256 ^ 8 = pow-le-pow_right (omega arith) le in
    cond_both (ltb (2 * n) (256 ^ len)) n (n + 2 ^ 64 - 256 ^ len) (λ x. x < 2 ^ 64) (λ h. omega arith) (λ h. omega arith)

disp_len_small : (mode rm : ℕ) (sib : Option Sib) → disp_len mode rm sib ≤ 8
disp_len_small mode rm sib = grind arith

-- there is a SIB byte where there must be
abbrev SibFits : ModRm → Option Sib → Type 0
SibFits m sib = SibStands (has_sib m.mode m.rm) sib

base_small : (m : ModRm) → FitsModRm m → base_field m.rm m.sib < 8
base_small m fits = by_sib m.sib fits.sib
  where
    by_sib : (sib : Option Sib) → SibFits m sib → base_field m.rm sib < 8
    by_sib None h = fits.rm
    by_sib (Some s) h = h.1.base

index_fits : (rex : Option ℕ) (m : ModRm) (sib : Option Sib) → SibFits m sib → IfSome (index_of rex sib) (λ r. (r < 16) × (r ≢ 4))
index_fits rex m None h = tt
index_fits rex m (Some s) h = cond_both (eqb (8 * rex_x rex + s.index) 4) None (Some (8 * rex_x rex + s.index)) (λ o. IfSome o (λ r. (r < 16) × (r ≢ 4))) (λ t. tt) (λ t. (omega (arith, h.1.index), eqb-false (8 * rex_x rex + s.index) 4 t))

power_fits : (scale : ℕ) → scale < 4 → is_scale (2 ^ scale) ≡ true
power_fits scale lt = agree_below_at (λ n. is_scale (2 ^ n)) (λ n. true) 4 scale refl lt

scale_fits : (rex : Option ℕ) (m : ModRm) (sib : Option Sib) → SibFits m sib → IsTrue (is_scale (scale_of rex sib))
scale_fits rex m None h = refl
scale_fits rex m (Some s) h = cond_both (eqb (8 * rex_x rex + s.index) 4) 1 (2 ^ s.scale) (λ n. IsTrue (is_scale n)) (λ t. refl) (λ t. power_fits s.scale h.1.scale)

scale_alone : (rex : Option ℕ) (sib : Option Sib) → index_of rex sib ≡ None → scale_of rex sib ≡ 1
scale_alone rex None e = refl
scale_alone rex (Some s) e = by_test (eqb (8 * rex_x rex + s.index) 4) e
  where
    by_test : (t : Bool) → cond t None (Some (8 * rex_x rex + s.index)) ≡ None → cond t 1 (2 ^ s.scale) ≡ 1
    by_test true h = refl
    by_test false h = absurd cc

place_fits : (p : Parts) (m : ModRm) → FitsModRm m → FitsPlace (place p m)
place_fits p m fits = record {
  base = cond_both (is_baseless m.mode m.rm m.sib) None (Some (8 * rex_b p.rex + base_field m.rm m.sib)) (λ o. IfSome o (λ r. r < 16)) (λ h. tt) (λ h. omega (arith, base_small m fits));
  index = index_fits p.rex m m.sib fits.sib;
  scale = scale_fits p.rex m m.sib fits.sib;
  unscaled = scale_alone p.rex m.sib;
  disp = cond_both (is_relative m) ((p.next + sign_extend 4 m.disp) % 2 ^ 64) (sign_extend (disp_len m.mode m.rm m.sib) m.disp) (λ x. x < 2 ^ 64) (λ h. omega arith) (λ h. extended_fits (disp_len m.mode m.rm m.sib) m.disp (disp_len_small m.mode m.rm m.sib) fits.disp);
}

-- a register is a register or a place
wider : (w : Width) (o : Operand) → IsOperand a_register w o → IsOperand register_or_place w o
wider w operand.None h = absurd cc
wider w (operand.Reg r) h = (refl, h.1)
wider w (operand.High r) h = h
wider w (operand.Imm n) h = absurd cc
wider w (operand.Mem p) h = absurd cc

rm_fits : (w : Width) (p : Parts) (m : Option ModRm) → HasModRm true m → IsOperand register_or_place w (rm_operand w p m)
rm_fits w p None h = absurd cc
rm_fits w p (Some m) h = cond_both (eqb m.mode 3) (register w p.rex (8 * rex_b p.rex + m.rm)) (operand.Mem (place p m)) (IsOperand register_or_place w)
    (λ t. wider w (register w p.rex (8 * rex_b p.rex + m.rm)) (register_fits w p.rex (rex_b p.rex) m.rm h.rm (omega arith) (no_b p.rex))) (λ t. (refl, place_fits p m h))

-- r/m that isn't a register is a place
pub place_is : (w : Width) (p : Parts) (m : Option ModRm) → HasModRm true m → is_memory m ≡ true → IsOperand a_place w (rm_operand w p m)
place_is w p None h t = absurd cc
place_is w p (Some m) h t = rw (not-true (eqb m.mode 3) t) (refl, place_fits p m h)

reg_fits : (p : Parts) (m : Option ModRm) → HasModRm true m → IsOperand a_register p.width (reg_operand p m)
reg_fits p None h = absurd cc
reg_fits p (Some m) h = register_fits p.width p.rex (rex_r p.rex) m.reg h.reg (omega arith) (no_r p.rex)

opcode_fits : (p : Parts) → IsOperand a_register p.width (opcode_operand p)
opcode_fits p = register_fits p.width p.rex (rex_b p.rex) (p.opcode % 8) (omega arith) (omega arith) (no_b p.rex)

pub number_fits : (p : Parts) → imm_number p < 2 ^ bits_of p.width
number_fits p = mod-lt (sign_extend p.imm_len p.imm) (pow_pos (bits_of p.width))

-- a byte fits every width
count_fits : (w : Width) (n : ℕ) → n % 256 < 2 ^ bits_of w
count_fits W8 n = omega arith
count_fits W16 n = omega arith
count_fits W32 n = omega arith
count_fits W64 n = omega arith

one_fits : (w : Width) → 1 < 2 ^ bits_of w
one_fits W8 = omega arith
one_fits W16 = omega arith
one_fits W32 = omega arith
one_fits W64 = omega arith

-- a direct target has the size of an address
abbrev pub HasTarget : Form → Width → Type 0
HasTarget form.Offset w = w ≡ W64
HasTarget _ w = Unit {0}

target_fits : (w : Width) (n : ℕ) → w ≡ W64 → n % 2 ^ 64 < 2 ^ bits_of w
target_fits w n e = rw e (omega arith)

-- the first operand is of its form's kinds
pub destination_fits : (f : Form) (p : Parts) → HasModRm (has_modrm f) p.modrm → HasTarget f p.width → IsOperand (form_dst f) p.width (destination f p)
destination_fits form.RmReg p h t = rm_fits p.width p p.modrm h
destination_fits form.RegRm p h t = reg_fits p p.modrm h
destination_fits form.RmImm p h t = rm_fits p.width p p.modrm h
destination_fits form.RmCount p h t = rm_fits p.width p p.modrm h
destination_fits form.AccImm p h t = (refl, omega arith)
destination_fits form.OpImm p h t = opcode_fits p
destination_fits form.OpReg p h t = opcode_fits p
destination_fits form.Rm p h t = rm_fits p.width p p.modrm h
destination_fits form.Offset p h t = (refl, target_fits p.width (p.next + sign_extend p.imm_len p.imm) t)
destination_fits form.ImmOnly p h t = (refl, number_fits p)
destination_fits form.RegRmImm p h t = reg_fits p p.modrm h
destination_fits form.RmOne p h t = rm_fits p.width p p.modrm h
destination_fits form.RmCl p h t = rm_fits p.width p p.modrm h
destination_fits form.AccOp p h t = (refl, omega arith)
destination_fits form.RmIgnored p h t = refl
destination_fits form.Nothing p h t = refl

-- the second operand has the operand size, where it isn't r/m
abbrev pub HasOneWidth : Form → Parts → Type 0
HasOneWidth form.RegRm p = Unit {0}
HasOneWidth form.RegRmImm p = Unit {0}
HasOneWidth _ p = p.src_width ≡ p.width

at_source : (k : Kinds) (p : Parts) (o : Operand) → p.src_width ≡ p.width → IsOperand k p.width o → IsOperand k p.src_width o
at_source k p o e h = subst (λ (w : Width). IsOperand k w o) (sym e) h

-- the second operand is of its form's kinds
pub source_fits : (f : Form) (p : Parts) → HasModRm (has_modrm f) p.modrm → HasOneWidth f p → IsOperand (form_src f) p.src_width (source f p)
source_fits form.RmReg p h e = at_source a_register p (reg_operand p p.modrm) e (reg_fits p p.modrm h)
source_fits form.RegRm p h e = rm_fits p.src_width p p.modrm h
source_fits form.RmImm p h e = at_source an_immediate p (operand.Imm (imm_number p)) e (refl, number_fits p)
source_fits form.RmCount p h e = (refl, count_fits p.src_width p.imm)
source_fits form.AccImm p h e = at_source an_immediate p (operand.Imm (imm_number p)) e (refl, number_fits p)
source_fits form.OpImm p h e = at_source an_immediate p (operand.Imm (imm_number p)) e (refl, number_fits p)
source_fits form.OpReg p h e = refl
source_fits form.Rm p h e = refl
source_fits form.Offset p h e = refl
source_fits form.ImmOnly p h e = refl
source_fits form.RegRmImm p h e = rm_fits p.src_width p p.modrm h
source_fits form.RmOne p h e = (refl, one_fits p.src_width)
source_fits form.RmCl p h e = (refl, omega arith)
source_fits form.AccOp p h e = at_source a_register p (opcode_operand p) e (opcode_fits p)
source_fits form.RmIgnored p h e = refl
source_fits form.Nothing p h e = refl

no_place : (w : Width) (o : Operand) → IsOperand a_register w o → is_place o ≡ false
no_place w operand.None h = refl
no_place w (operand.Reg r) h = refl
no_place w (operand.High r) h = refl
no_place w (operand.Imm n) h = refl
no_place w (operand.Mem p) h = absurd cc

and_false : (b : Bool) → (b && false) ≡ false
and_false true = refl
and_false false = refl

-- at most one operand is a place
pub one_place_of : (f : Form) (p : Parts) → HasModRm (has_modrm f) p.modrm → (is_place (destination f p) && is_place (source f p)) ≡ false
one_place_of form.RmReg p h = rw (no_place p.width (reg_operand p p.modrm) (reg_fits p p.modrm h)) (and_false (is_place (rm_operand p.width p p.modrm)))
one_place_of form.RegRm p h = rw (no_place p.width (reg_operand p p.modrm) (reg_fits p p.modrm h)) refl
one_place_of form.RmImm p h = and_false (is_place (rm_operand p.width p p.modrm))
one_place_of form.RmCount p h = and_false (is_place (rm_operand p.width p p.modrm))
one_place_of form.AccImm p h = refl
one_place_of form.OpImm p h = and_false (is_place (opcode_operand p))
one_place_of form.OpReg p h = and_false (is_place (opcode_operand p))
one_place_of form.Rm p h = and_false (is_place (rm_operand p.width p p.modrm))
one_place_of form.Offset p h = refl
one_place_of form.ImmOnly p h = refl
one_place_of form.RegRmImm p h = rw (no_place p.width (reg_operand p p.modrm) (reg_fits p p.modrm h)) refl
one_place_of form.RmOne p h = and_false (is_place (rm_operand p.width p p.modrm))
one_place_of form.RmCl p h = and_false (is_place (rm_operand p.width p p.modrm))
one_place_of form.AccOp p h = refl
one_place_of form.RmIgnored p h = refl
one_place_of form.Nothing p h = refl
