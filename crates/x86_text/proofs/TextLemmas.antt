-- Which operations the functions of mnemonics and operands leave.
use Rattle.std.proofs.Common.{◌≡◌, ◌≢◌, ℕ, [], refl}
use Rattle.x86_instr.specs.declared.instr.Op.{Op}
use Rattle.x86_instr.specs.declared.instr.Op.TheVariants as op
use Rattle.x86_instr.specs.declared.instr.Instr.{Instr}
use Rattle.x86_instr.specs.declared.class.Class.TheVariants as class
use Rattle.x86_instr.specs.Classes.{class_of}
use Rattle.x86_text.specs.Names.{suffix_of}
use Rattle.x86_text.specs.InstructionText.{operand_text, first_text, second_text, third_text}

-- these are all that do not calculate
pub all_others : (o : Op) → class_of o ≢ class.Calculation → o ≢ op.Mov → o ≢ op.Lea → o ≢ op.Movzx → o ≢ op.Movsx → o ≢ op.Div → o ≢ op.Idiv → o ≢ op.Push → o ≢ op.Pop → o ≢ op.Leave → o ≢ op.Widen → o ≢ op.Signs → o ≢ op.Xchg → o ≢ op.Bswap → o ≢ op.Cmov → o ≢ op.Setcc → o ≢ op.Jcc → o ≢ op.Jmp → o ≢ op.Call → o ≢ op.Ret → o ≢ op.Nop → o ≢ op.Syscall → o ≢ op.Hlt → o ≢ op.Ud2 → o ≢ op.Int3 → ⊥
all_others op.Mov c h0 h1 h2 h3 h4 h5 h6 h7 h8 h9 h10 h11 h12 h13 h14 h15 h16 h17 h18 h19 h20 h21 h22 h23 = h0 refl
all_others op.Lea c h0 h1 h2 h3 h4 h5 h6 h7 h8 h9 h10 h11 h12 h13 h14 h15 h16 h17 h18 h19 h20 h21 h22 h23 = h1 refl
all_others op.Movzx c h0 h1 h2 h3 h4 h5 h6 h7 h8 h9 h10 h11 h12 h13 h14 h15 h16 h17 h18 h19 h20 h21 h22 h23 = h2 refl
all_others op.Movsx c h0 h1 h2 h3 h4 h5 h6 h7 h8 h9 h10 h11 h12 h13 h14 h15 h16 h17 h18 h19 h20 h21 h22 h23 = h3 refl
all_others op.Div c h0 h1 h2 h3 h4 h5 h6 h7 h8 h9 h10 h11 h12 h13 h14 h15 h16 h17 h18 h19 h20 h21 h22 h23 = h4 refl
all_others op.Idiv c h0 h1 h2 h3 h4 h5 h6 h7 h8 h9 h10 h11 h12 h13 h14 h15 h16 h17 h18 h19 h20 h21 h22 h23 = h5 refl
all_others op.Push c h0 h1 h2 h3 h4 h5 h6 h7 h8 h9 h10 h11 h12 h13 h14 h15 h16 h17 h18 h19 h20 h21 h22 h23 = h6 refl
all_others op.Pop c h0 h1 h2 h3 h4 h5 h6 h7 h8 h9 h10 h11 h12 h13 h14 h15 h16 h17 h18 h19 h20 h21 h22 h23 = h7 refl
all_others op.Leave c h0 h1 h2 h3 h4 h5 h6 h7 h8 h9 h10 h11 h12 h13 h14 h15 h16 h17 h18 h19 h20 h21 h22 h23 = h8 refl
all_others op.Widen c h0 h1 h2 h3 h4 h5 h6 h7 h8 h9 h10 h11 h12 h13 h14 h15 h16 h17 h18 h19 h20 h21 h22 h23 = h9 refl
all_others op.Signs c h0 h1 h2 h3 h4 h5 h6 h7 h8 h9 h10 h11 h12 h13 h14 h15 h16 h17 h18 h19 h20 h21 h22 h23 = h10 refl
all_others op.Xchg c h0 h1 h2 h3 h4 h5 h6 h7 h8 h9 h10 h11 h12 h13 h14 h15 h16 h17 h18 h19 h20 h21 h22 h23 = h11 refl
all_others op.Bswap c h0 h1 h2 h3 h4 h5 h6 h7 h8 h9 h10 h11 h12 h13 h14 h15 h16 h17 h18 h19 h20 h21 h22 h23 = h12 refl
all_others op.Cmov c h0 h1 h2 h3 h4 h5 h6 h7 h8 h9 h10 h11 h12 h13 h14 h15 h16 h17 h18 h19 h20 h21 h22 h23 = h13 refl
all_others op.Setcc c h0 h1 h2 h3 h4 h5 h6 h7 h8 h9 h10 h11 h12 h13 h14 h15 h16 h17 h18 h19 h20 h21 h22 h23 = h14 refl
all_others op.Jcc c h0 h1 h2 h3 h4 h5 h6 h7 h8 h9 h10 h11 h12 h13 h14 h15 h16 h17 h18 h19 h20 h21 h22 h23 = h15 refl
all_others op.Jmp c h0 h1 h2 h3 h4 h5 h6 h7 h8 h9 h10 h11 h12 h13 h14 h15 h16 h17 h18 h19 h20 h21 h22 h23 = h16 refl
all_others op.Call c h0 h1 h2 h3 h4 h5 h6 h7 h8 h9 h10 h11 h12 h13 h14 h15 h16 h17 h18 h19 h20 h21 h22 h23 = h17 refl
all_others op.Ret c h0 h1 h2 h3 h4 h5 h6 h7 h8 h9 h10 h11 h12 h13 h14 h15 h16 h17 h18 h19 h20 h21 h22 h23 = h18 refl
all_others op.Nop c h0 h1 h2 h3 h4 h5 h6 h7 h8 h9 h10 h11 h12 h13 h14 h15 h16 h17 h18 h19 h20 h21 h22 h23 = h19 refl
all_others op.Syscall c h0 h1 h2 h3 h4 h5 h6 h7 h8 h9 h10 h11 h12 h13 h14 h15 h16 h17 h18 h19 h20 h21 h22 h23 = h20 refl
all_others op.Hlt c h0 h1 h2 h3 h4 h5 h6 h7 h8 h9 h10 h11 h12 h13 h14 h15 h16 h17 h18 h19 h20 h21 h22 h23 = h21 refl
all_others op.Ud2 c h0 h1 h2 h3 h4 h5 h6 h7 h8 h9 h10 h11 h12 h13 h14 h15 h16 h17 h18 h19 h20 h21 h22 h23 = h22 refl
all_others op.Int3 c h0 h1 h2 h3 h4 h5 h6 h7 h8 h9 h10 h11 h12 h13 h14 h15 h16 h17 h18 h19 h20 h21 h22 h23 = h23 refl
all_others _ c h0 h1 h2 h3 h4 h5 h6 h7 h8 h9 h10 h11 h12 h13 h14 h15 h16 h17 h18 h19 h20 h21 h22 h23 = c refl

-- these are all that calculate
pub all_calculations : (o : Op) → o ≢ op.Add → o ≢ op.Or → o ≢ op.Adc → o ≢ op.Sbb → o ≢ op.And → o ≢ op.Sub → o ≢ op.Xor → o ≢ op.Cmp → o ≢ op.Test → o ≢ op.Not → o ≢ op.Neg → o ≢ op.Mul → o ≢ op.Imul1 → o ≢ op.Imul2 → o ≢ op.Imul3 → o ≢ op.Inc → o ≢ op.Dec → o ≢ op.Rol → o ≢ op.Ror → o ≢ op.Shl → o ≢ op.Shr → o ≢ op.Sar → class_of o ≢ class.Calculation
all_calculations op.Add h0 h1 h2 h3 h4 h5 h6 h7 h8 h9 h10 h11 h12 h13 h14 h15 h16 h17 h18 h19 h20 h21 c = h0 refl
all_calculations op.Or h0 h1 h2 h3 h4 h5 h6 h7 h8 h9 h10 h11 h12 h13 h14 h15 h16 h17 h18 h19 h20 h21 c = h1 refl
all_calculations op.Adc h0 h1 h2 h3 h4 h5 h6 h7 h8 h9 h10 h11 h12 h13 h14 h15 h16 h17 h18 h19 h20 h21 c = h2 refl
all_calculations op.Sbb h0 h1 h2 h3 h4 h5 h6 h7 h8 h9 h10 h11 h12 h13 h14 h15 h16 h17 h18 h19 h20 h21 c = h3 refl
all_calculations op.And h0 h1 h2 h3 h4 h5 h6 h7 h8 h9 h10 h11 h12 h13 h14 h15 h16 h17 h18 h19 h20 h21 c = h4 refl
all_calculations op.Sub h0 h1 h2 h3 h4 h5 h6 h7 h8 h9 h10 h11 h12 h13 h14 h15 h16 h17 h18 h19 h20 h21 c = h5 refl
all_calculations op.Xor h0 h1 h2 h3 h4 h5 h6 h7 h8 h9 h10 h11 h12 h13 h14 h15 h16 h17 h18 h19 h20 h21 c = h6 refl
all_calculations op.Cmp h0 h1 h2 h3 h4 h5 h6 h7 h8 h9 h10 h11 h12 h13 h14 h15 h16 h17 h18 h19 h20 h21 c = h7 refl
all_calculations op.Test h0 h1 h2 h3 h4 h5 h6 h7 h8 h9 h10 h11 h12 h13 h14 h15 h16 h17 h18 h19 h20 h21 c = h8 refl
all_calculations op.Not h0 h1 h2 h3 h4 h5 h6 h7 h8 h9 h10 h11 h12 h13 h14 h15 h16 h17 h18 h19 h20 h21 c = h9 refl
all_calculations op.Neg h0 h1 h2 h3 h4 h5 h6 h7 h8 h9 h10 h11 h12 h13 h14 h15 h16 h17 h18 h19 h20 h21 c = h10 refl
all_calculations op.Mul h0 h1 h2 h3 h4 h5 h6 h7 h8 h9 h10 h11 h12 h13 h14 h15 h16 h17 h18 h19 h20 h21 c = h11 refl
all_calculations op.Imul1 h0 h1 h2 h3 h4 h5 h6 h7 h8 h9 h10 h11 h12 h13 h14 h15 h16 h17 h18 h19 h20 h21 c = h12 refl
all_calculations op.Imul2 h0 h1 h2 h3 h4 h5 h6 h7 h8 h9 h10 h11 h12 h13 h14 h15 h16 h17 h18 h19 h20 h21 c = h13 refl
all_calculations op.Imul3 h0 h1 h2 h3 h4 h5 h6 h7 h8 h9 h10 h11 h12 h13 h14 h15 h16 h17 h18 h19 h20 h21 c = h14 refl
all_calculations op.Inc h0 h1 h2 h3 h4 h5 h6 h7 h8 h9 h10 h11 h12 h13 h14 h15 h16 h17 h18 h19 h20 h21 c = h15 refl
all_calculations op.Dec h0 h1 h2 h3 h4 h5 h6 h7 h8 h9 h10 h11 h12 h13 h14 h15 h16 h17 h18 h19 h20 h21 c = h16 refl
all_calculations op.Rol h0 h1 h2 h3 h4 h5 h6 h7 h8 h9 h10 h11 h12 h13 h14 h15 h16 h17 h18 h19 h20 h21 c = h17 refl
all_calculations op.Ror h0 h1 h2 h3 h4 h5 h6 h7 h8 h9 h10 h11 h12 h13 h14 h15 h16 h17 h18 h19 h20 h21 c = h18 refl
all_calculations op.Shl h0 h1 h2 h3 h4 h5 h6 h7 h8 h9 h10 h11 h12 h13 h14 h15 h16 h17 h18 h19 h20 h21 c = h19 refl
all_calculations op.Shr h0 h1 h2 h3 h4 h5 h6 h7 h8 h9 h10 h11 h12 h13 h14 h15 h16 h17 h18 h19 h20 h21 c = h20 refl
all_calculations op.Sar h0 h1 h2 h3 h4 h5 h6 h7 h8 h9 h10 h11 h12 h13 h14 h15 h16 h17 h18 h19 h20 h21 c = h21 refl
all_calculations _ h0 h1 h2 h3 h4 h5 h6 h7 h8 h9 h10 h11 h12 h13 h14 h15 h16 h17 h18 h19 h20 h21 c = absurd cc

-- three have a condition
pub suffix_none : (o : Op) (cc : ℕ) → o ≢ op.Jcc → o ≢ op.Cmov → o ≢ op.Setcc → suffix_of o cc ≡ []
suffix_none op.Jcc cc h0 h1 h2 = absurd (h0 refl)
suffix_none op.Cmov cc h0 h1 h2 = absurd (h1 refl)
suffix_none op.Setcc cc h0 h1 h2 = absurd (h2 refl)
suffix_none _ cc h0 h1 h2 = refl

-- three have a target
pub first_plain : (o : Op) (i : Instr) → o ≢ op.Jcc → o ≢ op.Jmp → o ≢ op.Call → first_text o i ≡ operand_text i.width i.dst
first_plain op.Jcc i h0 h1 h2 = absurd (h0 refl)
first_plain op.Jmp i h0 h1 h2 = absurd (h1 refl)
first_plain op.Call i h0 h1 h2 = absurd (h2 refl)
first_plain _ i h0 h1 h2 = refl

-- lea has an address, a shift a count
pub second_plain : (o : Op) (i : Instr) → o ≢ op.Lea → o ≢ op.Rol → o ≢ op.Ror → o ≢ op.Shl → o ≢ op.Shr → o ≢ op.Sar → second_text o i ≡ operand_text i.src_width i.src
second_plain op.Lea i h0 h1 h2 h3 h4 h5 = absurd (h0 refl)
second_plain op.Rol i h0 h1 h2 h3 h4 h5 = absurd (h1 refl)
second_plain op.Ror i h0 h1 h2 h3 h4 h5 = absurd (h2 refl)
second_plain op.Shl i h0 h1 h2 h3 h4 h5 = absurd (h3 refl)
second_plain op.Shr i h0 h1 h2 h3 h4 h5 = absurd (h4 refl)
second_plain op.Sar i h0 h1 h2 h3 h4 h5 = absurd (h5 refl)
second_plain _ i h0 h1 h2 h3 h4 h5 = refl

-- one has a third operand
pub third_none : (o : Op) (i : Instr) → o ≢ op.Imul3 → third_text o i ≡ []
third_none op.Imul3 i h0 = absurd (h0 refl)
third_none _ i h0 = refl
