-- What the value that an instruction names stands for.
use Rattle.std.proofs.Common.{◌≡◌, ℕ, ◌^◌, ◌<◌, Bool, true, false, refl, ap, subst, arith, inl, inr}
use Rattle.std.proofs.lemmas.Bool.{cond_both}
use Rattle.bits_core.specs.declared.width.Width.{Width}
use Rattle.bits_core.specs.declared.width.Width.TheVariants.{W8, W16, W32, W64}
use Rattle.bits_core.specs.Width.{bytes_of}
use Rattle.x86_instr.specs.declared.instr.Op.{Op}
use Rattle.x86_instr.specs.declared.instr.Op.TheVariants as op
use Rattle.x86_instr.specs.declared.instr.Place.{Place}
use Rattle.x86_instr.specs.declared.instr.Operand.{Operand}
use Rattle.x86_instr.specs.declared.instr.Operand.TheVariants as operand
use Rattle.x86_instr.specs.declared.instr.Instr.{Instr}
use Rattle.x86_instr.specs.Kinds.{dst_kinds, src_kinds, has_width, widths_of}
use Rattle.x86_instr.specs.Fits.{InForm, IsOperand, IsSourceWidth, is_place}
use Rattle.x86_machine.specs.Memory.{loaded}
use Rattle.x86_machine.specs.State.{State}
use Rattle.x86_machine.specs.Access.{address, address_of, read}
use Rattle.x86_machine.specs.Moves.{below_top}
use Rattle.x86_machine.specs.Named.{Name, Loaded, Stored, Nothing, written, loaded_or, exchange_name, names_by, loaded_value, store_address, value_of}
use Rattle.x86_machine.specs.Preserves.{Byte, IsApart, IsNotDestination, Preserves}
use Rattle.x86_machine.specs.NamedLaws.{IsLoaded, NamedLaws}
use Rattle.machine_laws.proofs.StateLemmas.{address_below}
use Rattle.machine_laws.proofs.PreserveLemmas.{preserve_law}

read_place : (s : State) (w : Width) (p : Place) → read s w (operand.Mem p) ≡ loaded s.memory (bytes_of w) (address s p)
unfolding read
read_place s w p = refl

-- what is written is not loaded
written_unloaded : (o : Operand) → written o ≡ Loaded → ⊥
written_unloaded operand.None e = absurd cc
written_unloaded (operand.Reg r) e = absurd cc
written_unloaded (operand.High r) e = absurd cc
written_unloaded (operand.Imm n) e = absurd cc
written_unloaded (operand.Mem p) e = absurd cc

exchange_unloaded : (first second : Operand) → exchange_name first second ≡ Loaded → ⊥
exchange_unloaded operand.None second e = absurd cc
exchange_unloaded (operand.Reg r) second e = absurd cc
exchange_unloaded (operand.High r) second e = absurd cc
exchange_unloaded (operand.Imm n) second e = absurd cc
exchange_unloaded (operand.Mem p) second e = written_unloaded second e

-- a load is of the operand that is a place
load_first : (s : State) (i : Instr) (d : Operand) → i.dst ≡ d → is_place d ≡ true → IsLoaded s i (loaded_value s i)
load_first s i operand.None e h = absurd cc
load_first s i (operand.Reg r) e h = absurd cc
load_first s i (operand.High r) e h = absurd cc
load_first s i (operand.Imm n) e h = absurd cc
load_first s i (operand.Mem p) e h = (p, inl e, rw e (read_place s i.width p))

load_second : (s : State) (i : Instr) (d : Operand) → i.src ≡ d → is_place i.dst ≡ false → i.src_width ≡ i.width → is_place d ≡ true → IsLoaded s i (loaded_value s i)
load_second s i operand.None e first w h = absurd cc
load_second s i (operand.Reg r) e first w h = absurd cc
load_second s i (operand.High r) e first w h = absurd cc
load_second s i (operand.Imm n) e first w h = absurd cc
load_second s i (operand.Mem p) e first w h = (p, inr e, rw (first, w, e) (read_place s i.width p))

-- a name that is the loaded value comes from a place
loaded_place : (b : Bool) (other : Name) → (other ≡ Loaded → ⊥) → loaded_or b other ≡ Loaded → b ≡ true
loaded_place true other h e = refl
loaded_place false other h e = absurd (h e)

stored_unloaded : Stored ≡ Loaded → ⊥
stored_unloaded e = absurd cc

nothing_unloaded : Nothing ≡ Loaded → ⊥
nothing_unloaded e = absurd cc

-- cmp and test load either operand
load_either : (s : State) (i : Instr) (b : Bool) → is_place i.dst ≡ b → i.src_width ≡ i.width → loaded_or b (loaded_or (is_place i.src) Nothing) ≡ Loaded → IsLoaded s i (loaded_value s i)
load_either s i true first w e = load_first s i i.dst refl first
load_either s i false first w e = load_second s i i.src refl first w (loaded_place (is_place i.src) Nothing nothing_unloaded e)

source_as : (o : Op) (i : Instr) → i.op ≡ o → InForm i → IsSourceWidth o i.width i.src_width
source_as o i e h = subst (λ (o : Op). IsSourceWidth o i.width i.src_width) e h.src_width

loads : (o : Op) (s : State) (i : Instr) → i.op ≡ o → InForm i → names_by o i ≡ Loaded → IsLoaded s i (loaded_value s i)
loads op.Add s i e h n = absurd (written_unloaded i.dst n)
loads op.Or s i e h n = absurd (written_unloaded i.dst n)
loads op.Adc s i e h n = absurd (written_unloaded i.dst n)
loads op.Sbb s i e h n = absurd (written_unloaded i.dst n)
loads op.And s i e h n = absurd (written_unloaded i.dst n)
loads op.Sub s i e h n = absurd (written_unloaded i.dst n)
loads op.Xor s i e h n = absurd (written_unloaded i.dst n)
loads op.Cmp s i e h n = load_either s i (is_place i.dst) refl (source_as op.Cmp i e h) n
loads op.Test s i e h n = load_either s i (is_place i.dst) refl (source_as op.Test i e h) n
loads op.Mov s i e h n = absurd (written_unloaded i.dst n)
loads op.Lea s i e h n = absurd (written_unloaded i.dst n)
loads op.Movzx s i e h n = absurd (written_unloaded i.dst n)
loads op.Movsx s i e h n = absurd (written_unloaded i.dst n)
loads op.Not s i e h n = absurd (written_unloaded i.dst n)
loads op.Neg s i e h n = absurd (written_unloaded i.dst n)
loads op.Mul s i e h n = absurd cc
loads op.Imul1 s i e h n = absurd cc
loads op.Div s i e h n = absurd cc
loads op.Idiv s i e h n = absurd cc
loads op.Imul2 s i e h n = absurd (written_unloaded i.dst n)
loads op.Imul3 s i e h n = absurd (written_unloaded i.dst n)
loads op.Inc s i e h n = absurd (written_unloaded i.dst n)
loads op.Dec s i e h n = absurd (written_unloaded i.dst n)
loads op.Rol s i e h n = absurd (written_unloaded i.dst n)
loads op.Ror s i e h n = absurd (written_unloaded i.dst n)
loads op.Shl s i e h n = absurd (written_unloaded i.dst n)
loads op.Shr s i e h n = absurd (written_unloaded i.dst n)
loads op.Sar s i e h n = absurd (written_unloaded i.dst n)
loads op.Push s i e h n = load_first s i i.dst refl (loaded_place (is_place i.dst) Stored stored_unloaded n)
loads op.Pop s i e h n = absurd (written_unloaded i.dst n)
loads op.Leave s i e h n = absurd cc
loads op.Widen s i e h n = absurd cc
loads op.Signs s i e h n = absurd cc
loads op.Xchg s i e h n = absurd (exchange_unloaded i.dst i.src n)
loads op.Bswap s i e h n = absurd (written_unloaded i.dst n)
loads op.Cmov s i e h n = absurd (written_unloaded i.dst n)
loads op.Setcc s i e h n = absurd (written_unloaded i.dst n)
loads op.Jcc s i e h n = absurd cc
loads op.Jmp s i e h n = load_first s i i.dst refl (loaded_place (is_place i.dst) Nothing nothing_unloaded n)
loads op.Call s i e h n = absurd cc
loads op.Ret s i e h n = absurd cc
loads op.Nop s i e h n = absurd cc
loads op.Syscall s i e h n = absurd cc
loads op.Hlt s i e h n = absurd cc
loads op.Ud2 s i e h n = absurd cc
loads op.Int3 s i e h n = absurd cc

operand_below : (s : State) (o : Operand) → address_of s o < 2 ^ 64
unfolding address_of
operand_below s operand.None = omega arith
operand_below s (operand.Reg r) = omega arith
operand_below s (operand.High r) = omega arith
operand_below s (operand.Imm n) = omega arith
operand_below s (operand.Mem p) = address_below s p

store_below : (s : State) (i : Instr) → store_address s i < 2 ^ 64
store_below s i = cond_both (is_place i.dst) (address_of s i.dst) (below_top s) (λ n. n < 2 ^ 64) (λ h. operand_below s i.dst) (λ h. omega arith)

place_address : (s : State) (p : Place) → address_of s (operand.Mem p) ≡ address s p
unfolding address_of
place_address s p = refl

-- where a byte is apart from the store, a write of the first operand leaves it
apart_first : (s : State) (i : Instr) (w : Width) (d : Operand) (x : ℕ) → i.dst ≡ d → i.width ≡ w → IsApart (bytes_of i.width) (store_address s i) x → IsNotDestination s w d (Byte x)
apart_first s i w operand.None x e same h = tt
apart_first s i w (operand.Reg r) x e same h = tt
apart_first s i w (operand.High r) x e same h = tt
apart_first s i w (operand.Imm n) x e same h = tt
apart_first s i w (operand.Mem p) x e same h =
    let at : store_address s i ≡ address s p = rw e (place_address s p) in
    subst (λ (a : ℕ). IsApart (bytes_of w) a x) at (subst (λ (w : Width). IsApart (bytes_of w) (store_address s i) x) same h)

-- a push that names its store has no place
pushed_at : (s : State) (i : Instr) (b : Bool) → is_place i.dst ≡ b → loaded_or b Stored ≡ Stored → store_address s i ≡ below_top s
pushed_at s i true first e = absurd cc
pushed_at s i false first e = rw first refl

quad_width : (w : Width) → has_width (widths_of op.Push) w ≡ true → w ≡ W64
quad_width W8 h = absurd cc
quad_width W16 h = absurd cc
quad_width W32 h = absurd cc
quad_width W64 h = refl

byte_width : (w : Width) → has_width (widths_of op.Setcc) w ≡ true → w ≡ W8
byte_width W8 h = refl
byte_width W16 h = absurd cc
byte_width W32 h = absurd cc
byte_width W64 h = absurd cc

width_as : (o : Op) (i : Instr) → i.op ≡ o → InForm i → has_width (widths_of o) i.width ≡ true
width_as o i e h = subst (λ (o : Op). has_width (widths_of o) i.width ≡ true) e h.width

dst_as : (o : Op) (i : Instr) → i.op ≡ o → InForm i → IsOperand (dst_kinds o) i.width i.dst
dst_as o i e h = subst (λ (o : Op). IsOperand (dst_kinds o) i.width i.dst) e h.dst

src_as : (o : Op) (i : Instr) → i.op ≡ o → InForm i → IsOperand (src_kinds o) i.src_width i.src
src_as o i e h = subst (λ (o : Op). IsOperand (src_kinds o) i.src_width i.src) e h.src

-- a register is no store
register_unstored : (w : Width) (o : Operand) → IsOperand (dst_kinds op.Pop) w o → written o ≡ Stored → ⊥
register_unstored w operand.None h e = absurd cc
register_unstored w (operand.Reg r) h e = absurd cc
register_unstored w (operand.High r) h e = absurd cc
register_unstored w (operand.Imm n) h e = absurd cc
register_unstored w (operand.Mem p) h e = absurd cc

exchange_unstored : (w : Width) (first second : Operand) → IsOperand (src_kinds op.Xchg) w second → exchange_name first second ≡ Stored → ⊥
exchange_unstored w operand.None second h e = absurd cc
exchange_unstored w (operand.Reg r) second h e = absurd cc
exchange_unstored w (operand.High r) second h e = absurd cc
exchange_unstored w (operand.Imm n) second h e = absurd cc
exchange_unstored w (operand.Mem p) second h e = register_unstored w second h e

-- a step writes no byte apart from the store that its name is
stores : (o : Op) (s : State) (i : Instr) (x : ℕ) → i.op ≡ o → InForm i → names_by o i ≡ Stored → IsApart (bytes_of i.width) (store_address s i) x → Preserves o s i (Byte x)
stores op.Add s i x e h n away = apart_first s i i.width i.dst x refl refl away
stores op.Or s i x e h n away = apart_first s i i.width i.dst x refl refl away
stores op.Adc s i x e h n away = apart_first s i i.width i.dst x refl refl away
stores op.Sbb s i x e h n away = apart_first s i i.width i.dst x refl refl away
stores op.And s i x e h n away = apart_first s i i.width i.dst x refl refl away
stores op.Sub s i x e h n away = apart_first s i i.width i.dst x refl refl away
stores op.Xor s i x e h n away = apart_first s i i.width i.dst x refl refl away
stores op.Cmp s i x e h n away = tt
stores op.Test s i x e h n away = tt
stores op.Mov s i x e h n away = apart_first s i i.width i.dst x refl refl away
stores op.Lea s i x e h n away = apart_first s i i.width i.dst x refl refl away
stores op.Movzx s i x e h n away = apart_first s i i.width i.dst x refl refl away
stores op.Movsx s i x e h n away = apart_first s i i.width i.dst x refl refl away
stores op.Not s i x e h n away = apart_first s i i.width i.dst x refl refl away
stores op.Neg s i x e h n away = apart_first s i i.width i.dst x refl refl away
stores op.Mul s i x e h n away = absurd cc
stores op.Imul1 s i x e h n away = absurd cc
stores op.Div s i x e h n away = absurd cc
stores op.Idiv s i x e h n away = absurd cc
stores op.Imul2 s i x e h n away = apart_first s i i.width i.dst x refl refl away
stores op.Imul3 s i x e h n away = apart_first s i i.width i.dst x refl refl away
stores op.Inc s i x e h n away = apart_first s i i.width i.dst x refl refl away
stores op.Dec s i x e h n away = apart_first s i i.width i.dst x refl refl away
stores op.Rol s i x e h n away = apart_first s i i.width i.dst x refl refl away
stores op.Ror s i x e h n away = apart_first s i i.width i.dst x refl refl away
stores op.Shl s i x e h n away = apart_first s i i.width i.dst x refl refl away
stores op.Shr s i x e h n away = apart_first s i i.width i.dst x refl refl away
stores op.Sar s i x e h n away = apart_first s i i.width i.dst x refl refl away
stores op.Push s i x e h n away = (tt, subst (λ (w : Width). IsApart (bytes_of w) (below_top s) x) (quad_width i.width (width_as op.Push i e h)) (subst (λ (a : ℕ). IsApart (bytes_of i.width) a x) (pushed_at s i (is_place i.dst) refl n) away))
stores op.Pop s i x e h n away = absurd (register_unstored i.width i.dst (dst_as op.Pop i e h) n)
stores op.Leave s i x e h n away = absurd cc
stores op.Widen s i x e h n away = absurd cc
stores op.Signs s i x e h n away = absurd cc
stores op.Xchg s i x e h n away = absurd (exchange_unstored i.src_width i.dst i.src (src_as op.Xchg i e h) n)
stores op.Bswap s i x e h n away = apart_first s i i.width i.dst x refl refl away
stores op.Cmov s i x e h n away = apart_first s i i.width i.dst x refl refl away
stores op.Setcc s i x e h n away = apart_first s i W8 i.dst x refl (byte_width i.width (width_as op.Setcc i e h)) away
stores op.Jcc s i x e h n away = absurd cc
stores op.Jmp s i x e h n away = tt
stores op.Call s i x e h n away = absurd cc
stores op.Ret s i x e h n away = absurd cc
stores op.Nop s i x e h n away = absurd cc
stores op.Syscall s i x e h n away = absurd cc
stores op.Hlt s i x e h n away = absurd cc
stores op.Ud2 s i x e h n away = absurd cc
stores op.Int3 s i x e h n away = absurd cc

pub named_laws : NamedLaws
named_laws = record {
  of_register = λ s t i r named. ap (λ name. value_of name s i t) named;
  of_load = λ s t i h named. (loaded_value s i, ap (λ name. value_of name s i t) named, loads i.op s i refl h named);
  of_store = λ s t i choice h named e. (store_address s i, ap (λ name. value_of name s i t) named, store_below s i, λ x away. preserve_law s t i choice (Byte x) e (stores i.op s i x refl h named away));
  of_none = λ s t i named. ap (λ name. value_of name s i t) named;
}
