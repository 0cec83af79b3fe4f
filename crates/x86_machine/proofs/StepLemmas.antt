-- What an instruction in form has, and which operations the classes have.
use Rattle.std.proofs.Common.{◌≡◌, ◌≢◌, ℕ, ◌<◌, false, Option, Some, None, refl, sym, ap, subst, ◌∙◌}
use Rattle.std.specs.Prelude.{IfSome}
use Rattle.std.proofs.lemmas.Bool.{false≢true}
use Rattle.bits_core.specs.declared.width.Width.{Width}
use Rattle.x86_instr.specs.declared.instr.Op.{Op}
use Rattle.x86_instr.specs.declared.instr.Op.TheVariants as op
use Rattle.x86_instr.specs.declared.instr.Operand.{Operand}
use Rattle.x86_instr.specs.declared.instr.Operand.TheVariants as operand
use Rattle.x86_instr.specs.declared.instr.Instr.{Instr}
use Rattle.x86_instr.specs.declared.class.Class.TheVariants as class
use Rattle.x86_instr.specs.Classes.{class_of}
use Rattle.x86_instr.specs.Registers.{rsp}
use Rattle.x86_instr.specs.Kinds.{Kinds, dst_kinds, src_kinds}
use Rattle.x86_instr.specs.Fits.{IsOperand, IsCondition, FitsCondition, InForm, is_place}
use Rattle.x86_machine.specs.Access.{NamesRegisters, NamesInstr}

index_names : (x : Option ℕ) → IfSome x (λ r. (r < 16) × (r ≢ rsp)) → IfSome x (λ r. r < 16)
index_names None h = tt
index_names (Some r) h = h.0

names_operand : (k : Kinds) (w : Width) (o : Operand) → IsOperand k w o → NamesRegisters o
names_operand k w operand.None h = tt
names_operand k w (operand.Reg r) h = h.1
names_operand k w (operand.High r) h = h.2
names_operand k w (operand.Imm n) h = tt
names_operand k w (operand.Mem p) h = record { base = h.1.base; index = index_names p.index h.1.index }

-- the registers of an instruction in form are among the sixteen
pub form_names : (i : Instr) → InForm i → NamesInstr i
form_names i h = record { dst = names_operand (dst_kinds i.op) i.width i.dst h.dst; src = names_operand (src_kinds i.op) i.src_width i.src h.src }

no_place : (k : Kinds) (w : Width) (o : Operand) → k.place ≡ false → IsOperand k w o → is_place o ≡ false
no_place k w operand.None e h = refl
no_place k w (operand.Reg r) e h = refl
no_place k w (operand.High r) e h = refl
no_place k w (operand.Imm n) e h = refl
no_place k w (operand.Mem p) e h = absurd (false≢true (sym e ∙ h.0))

-- pop and xchg have registers where they write last
pub pop_register : (i : Instr) → InForm i → i.op ≡ op.Pop → is_place i.dst ≡ false
pop_register i h e = no_place (dst_kinds i.op) i.width i.dst (ap (λ o. (dst_kinds o).place) e) h.dst

pub exchange_register : (i : Instr) → InForm i → i.op ≡ op.Xchg → is_place i.src ≡ false
exchange_register i h e = no_place (src_kinds i.op) i.src_width i.src (ap (λ o. (src_kinds o).place) e) h.src

-- the instructions with a condition have one
pub choose_condition : (i : Instr) → InForm i → i.op ≡ op.Cmov → FitsCondition i.cc
choose_condition i h e = subst (λ (o : Op). IsCondition o i.cc) e h.cc

pub set_condition : (i : Instr) → InForm i → i.op ≡ op.Setcc → FitsCondition i.cc
set_condition i h e = subst (λ (o : Op). IsCondition o i.cc) e h.cc

pub jump_condition : (i : Instr) → InForm i → i.op ≡ op.Jcc → FitsCondition i.cc
jump_condition i h e = subst (λ (o : Op). IsCondition o i.cc) e h.cc

-- these are all that calculate
pub all_calculations : (o : Op) → class_of o ≡ class.Calculation → o ≢ op.Add → o ≢ op.Or → o ≢ op.Adc → o ≢ op.Sbb → o ≢ op.And → o ≢ op.Sub → o ≢ op.Xor → o ≢ op.Cmp → o ≢ op.Test → o ≢ op.Not → o ≢ op.Neg → o ≢ op.Mul → o ≢ op.Imul1 → o ≢ op.Imul2 → o ≢ op.Imul3 → o ≢ op.Inc → o ≢ op.Dec → o ≢ op.Rol → o ≢ op.Ror → o ≢ op.Shl → o ≢ op.Shr → o ≢ op.Sar → ⊥
all_calculations op.Add c h0 h1 h2 h3 h4 h5 h6 h7 h8 h9 h10 h11 h12 h13 h14 h15 h16 h17 h18 h19 h20 h21 = h0 refl
all_calculations op.Or c h0 h1 h2 h3 h4 h5 h6 h7 h8 h9 h10 h11 h12 h13 h14 h15 h16 h17 h18 h19 h20 h21 = h1 refl
all_calculations op.Adc c h0 h1 h2 h3 h4 h5 h6 h7 h8 h9 h10 h11 h12 h13 h14 h15 h16 h17 h18 h19 h20 h21 = h2 refl
all_calculations op.Sbb c h0 h1 h2 h3 h4 h5 h6 h7 h8 h9 h10 h11 h12 h13 h14 h15 h16 h17 h18 h19 h20 h21 = h3 refl
all_calculations op.And c h0 h1 h2 h3 h4 h5 h6 h7 h8 h9 h10 h11 h12 h13 h14 h15 h16 h17 h18 h19 h20 h21 = h4 refl
all_calculations op.Sub c h0 h1 h2 h3 h4 h5 h6 h7 h8 h9 h10 h11 h12 h13 h14 h15 h16 h17 h18 h19 h20 h21 = h5 refl
all_calculations op.Xor c h0 h1 h2 h3 h4 h5 h6 h7 h8 h9 h10 h11 h12 h13 h14 h15 h16 h17 h18 h19 h20 h21 = h6 refl
all_calculations op.Cmp c h0 h1 h2 h3 h4 h5 h6 h7 h8 h9 h10 h11 h12 h13 h14 h15 h16 h17 h18 h19 h20 h21 = h7 refl
all_calculations op.Test c h0 h1 h2 h3 h4 h5 h6 h7 h8 h9 h10 h11 h12 h13 h14 h15 h16 h17 h18 h19 h20 h21 = h8 refl
all_calculations op.Not c h0 h1 h2 h3 h4 h5 h6 h7 h8 h9 h10 h11 h12 h13 h14 h15 h16 h17 h18 h19 h20 h21 = h9 refl
all_calculations op.Neg c h0 h1 h2 h3 h4 h5 h6 h7 h8 h9 h10 h11 h12 h13 h14 h15 h16 h17 h18 h19 h20 h21 = h10 refl
all_calculations op.Mul c h0 h1 h2 h3 h4 h5 h6 h7 h8 h9 h10 h11 h12 h13 h14 h15 h16 h17 h18 h19 h20 h21 = h11 refl
all_calculations op.Imul1 c h0 h1 h2 h3 h4 h5 h6 h7 h8 h9 h10 h11 h12 h13 h14 h15 h16 h17 h18 h19 h20 h21 = h12 refl
all_calculations op.Imul2 c h0 h1 h2 h3 h4 h5 h6 h7 h8 h9 h10 h11 h12 h13 h14 h15 h16 h17 h18 h19 h20 h21 = h13 refl
all_calculations op.Imul3 c h0 h1 h2 h3 h4 h5 h6 h7 h8 h9 h10 h11 h12 h13 h14 h15 h16 h17 h18 h19 h20 h21 = h14 refl
all_calculations op.Inc c h0 h1 h2 h3 h4 h5 h6 h7 h8 h9 h10 h11 h12 h13 h14 h15 h16 h17 h18 h19 h20 h21 = h15 refl
all_calculations op.Dec c h0 h1 h2 h3 h4 h5 h6 h7 h8 h9 h10 h11 h12 h13 h14 h15 h16 h17 h18 h19 h20 h21 = h16 refl
all_calculations op.Rol c h0 h1 h2 h3 h4 h5 h6 h7 h8 h9 h10 h11 h12 h13 h14 h15 h16 h17 h18 h19 h20 h21 = h17 refl
all_calculations op.Ror c h0 h1 h2 h3 h4 h5 h6 h7 h8 h9 h10 h11 h12 h13 h14 h15 h16 h17 h18 h19 h20 h21 = h18 refl
all_calculations op.Shl c h0 h1 h2 h3 h4 h5 h6 h7 h8 h9 h10 h11 h12 h13 h14 h15 h16 h17 h18 h19 h20 h21 = h19 refl
all_calculations op.Shr c h0 h1 h2 h3 h4 h5 h6 h7 h8 h9 h10 h11 h12 h13 h14 h15 h16 h17 h18 h19 h20 h21 = h20 refl
all_calculations op.Sar c h0 h1 h2 h3 h4 h5 h6 h7 h8 h9 h10 h11 h12 h13 h14 h15 h16 h17 h18 h19 h20 h21 = h21 refl
all_calculations _ c h0 h1 h2 h3 h4 h5 h6 h7 h8 h9 h10 h11 h12 h13 h14 h15 h16 h17 h18 h19 h20 h21 = absurd cc

-- these are all that move data or do nothing
pub all_transfers : (o : Op) → class_of o ≡ class.Transfer → o ≢ op.Mov → o ≢ op.Lea → o ≢ op.Movzx → o ≢ op.Movsx → o ≢ op.Push → o ≢ op.Pop → o ≢ op.Leave → o ≢ op.Widen → o ≢ op.Signs → o ≢ op.Xchg → o ≢ op.Bswap → o ≢ op.Cmov → o ≢ op.Setcc → o ≢ op.Nop → ⊥
all_transfers op.Mov c h0 h1 h2 h3 h4 h5 h6 h7 h8 h9 h10 h11 h12 h13 = h0 refl
all_transfers op.Lea c h0 h1 h2 h3 h4 h5 h6 h7 h8 h9 h10 h11 h12 h13 = h1 refl
all_transfers op.Movzx c h0 h1 h2 h3 h4 h5 h6 h7 h8 h9 h10 h11 h12 h13 = h2 refl
all_transfers op.Movsx c h0 h1 h2 h3 h4 h5 h6 h7 h8 h9 h10 h11 h12 h13 = h3 refl
all_transfers op.Push c h0 h1 h2 h3 h4 h5 h6 h7 h8 h9 h10 h11 h12 h13 = h4 refl
all_transfers op.Pop c h0 h1 h2 h3 h4 h5 h6 h7 h8 h9 h10 h11 h12 h13 = h5 refl
all_transfers op.Leave c h0 h1 h2 h3 h4 h5 h6 h7 h8 h9 h10 h11 h12 h13 = h6 refl
all_transfers op.Widen c h0 h1 h2 h3 h4 h5 h6 h7 h8 h9 h10 h11 h12 h13 = h7 refl
all_transfers op.Signs c h0 h1 h2 h3 h4 h5 h6 h7 h8 h9 h10 h11 h12 h13 = h8 refl
all_transfers op.Xchg c h0 h1 h2 h3 h4 h5 h6 h7 h8 h9 h10 h11 h12 h13 = h9 refl
all_transfers op.Bswap c h0 h1 h2 h3 h4 h5 h6 h7 h8 h9 h10 h11 h12 h13 = h10 refl
all_transfers op.Cmov c h0 h1 h2 h3 h4 h5 h6 h7 h8 h9 h10 h11 h12 h13 = h11 refl
all_transfers op.Setcc c h0 h1 h2 h3 h4 h5 h6 h7 h8 h9 h10 h11 h12 h13 = h12 refl
all_transfers op.Nop c h0 h1 h2 h3 h4 h5 h6 h7 h8 h9 h10 h11 h12 h13 = h13 refl
all_transfers _ c h0 h1 h2 h3 h4 h5 h6 h7 h8 h9 h10 h11 h12 h13 = absurd cc

-- these are all that divide
pub all_divisions : (o : Op) → class_of o ≡ class.Division → o ≢ op.Div → o ≢ op.Idiv → ⊥
all_divisions op.Div c h0 h1 = h0 refl
all_divisions op.Idiv c h0 h1 = h1 refl
all_divisions _ c h0 h1 = absurd cc

-- these are all that jump
pub all_jumps : (o : Op) → class_of o ≡ class.Jump → o ≢ op.Jcc → o ≢ op.Jmp → ⊥
all_jumps op.Jcc c h0 h1 = h0 refl
all_jumps op.Jmp c h0 h1 = h1 refl
all_jumps _ c h0 h1 = absurd cc

-- one operation calls, one returns
pub call_is : (o : Op) → class_of o ≡ class.Call → o ≡ op.Call
call_is op.Call c = refl
call_is _ c = absurd cc

pub return_is : (o : Op) → class_of o ≡ class.Return → o ≡ op.Ret
return_is op.Ret c = refl
return_is _ c = absurd cc
