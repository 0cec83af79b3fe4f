-- A step keeps what the instruction does not write: registers, bytes and the FS base in one form.
use Rattle.std.proofs.Common.{◌≡◌, ℕ, ◌^◌, ◌<◌, Bool, true, false, cond, Option, Some, None, refl, ◌∙◌, subst, arith, get_or-set_other}
use Rattle.bits_core.specs.declared.flags.Flags.{Flags}
use Rattle.bits_core.specs.declared.width.Width.{Width}
use Rattle.bits_core.specs.declared.width.Width.TheVariants.{W8, W64}
use Rattle.bits_core.specs.Width.{bytes_of}
use Rattle.x86_instr.specs.declared.instr.Op.{Op}
use Rattle.x86_instr.specs.declared.instr.Op.TheVariants as op
use Rattle.x86_instr.specs.declared.instr.Operand.{Operand}
use Rattle.x86_instr.specs.declared.instr.Operand.TheVariants as operand
use Rattle.x86_instr.specs.declared.instr.Operand.TheVariants.{Reg}
use Rattle.x86_instr.specs.declared.instr.Instr.{Instr}
use Rattle.x86_instr.specs.Registers.{rax, rdx, rsp, rbp}
use Rattle.x86_machine.specs.State.{State, reg, with_reg, with_flags, with_rip, with_bytes}
use Rattle.x86_machine.specs.Access.{address, write}
use Rattle.x86_machine.specs.Steps.{divided, with_halves}
use Rattle.x86_machine.specs.Moves.{below_top, pushed, rsp_popped}
use Rattle.x86_machine.specs.Next.{next_by, goes_on_if}
use Rattle.x86_machine.specs.Preserves.{Location, Register, Byte, FsBase, number_in, IsNotRegister, IsNotByte, IsNotDestination, IsNotPushed, Preserves}
use Rattle.x86_machine.specs.StepLaws.{PreserveLaw, BaseLaw}
use Rattle.machine_laws.proofs.StoreLemmas.{store_apart}
use Rattle.machine_laws.proofs.StateLemmas.{address_below}

-- the number in the location is the same
abbrev IsKept : Location → State → State → Type 0
IsKept l s t = number_in t l ≡ number_in s l

kept_reg : (s : State) (q v : ℕ) (l : Location) → IsNotRegister q l → IsKept l s (with_reg s q v)
unfolding reg with_reg
kept_reg s q v (Register r) h = get_or-set_other s.regs q r v 0 h
kept_reg s q v (Byte at) h = refl
kept_reg s q v FsBase h = refl

kept_flags : (s t : State) (f : Flags) (l : Location) → IsKept l s t → IsKept l s (with_flags t f)
unfolding reg with_flags
kept_flags s t f (Register r) h = h
kept_flags s t f (Byte at) h = h
kept_flags s t f FsBase h = h

kept_rip : (s t : State) (at : ℕ) (l : Location) → IsKept l s t → IsKept l s (with_rip t at)
unfolding reg with_rip
kept_rip s t at (Register r) h = h
kept_rip s t at (Byte x) h = h
kept_rip s t at FsBase h = h

kept_bytes : (s : State) (n at v : ℕ) (l : Location) → at < 2 ^ 64 → IsNotByte n at l → IsKept l s (with_bytes s n at v)
unfolding reg with_bytes
kept_bytes s n at v (Register r) small h = refl
kept_bytes s n at v (Byte x) small h = store_apart s.memory n at v x small h
kept_bytes s n at v FsBase small h = refl

kept_write : (s : State) (w : Width) (o : Operand) (v : ℕ) (l : Location) → IsNotDestination s w o l → IsKept l s (write s w o v)
unfolding write
kept_write s w operand.None v l h = refl
kept_write s w (operand.Reg q) v l h = kept_reg s q _ l h
kept_write s w (operand.High q) v l h = kept_reg s q _ l h
kept_write s w (operand.Imm n) v l h = refl
kept_write s w (operand.Mem p) v l h = kept_bytes s (bytes_of w) (address s p) v l (address_below s p) h

kept_halves : (s : State) (w : Width) (p : ℕ × ℕ) (l : Location) → IsNotRegister rax l → IsNotRegister rdx l → IsKept l s (with_halves s w p)
kept_halves s w p l h k = kept_write (write s w (Reg rax) p.0) w (Reg rdx) p.1 l k ∙ kept_write s w (Reg rax) p.0 l h

kept_pushed : (s : State) (v : ℕ) (l : Location) → IsNotPushed s l → IsKept l s (pushed s v)
kept_pushed s v l h = kept_reg (with_bytes s 8 (below_top s) v) rsp (below_top s) l h.0 ∙ kept_bytes s 8 (below_top s) v l (omega arith) h.1

kept_either : (b : Bool) (s t : State) (l : Location) → IsKept l s t → IsKept l s (cond b s t)
kept_either true s t l h = refl
kept_either false s t l h = h

-- the same of the state after a step, where there is one
abbrev AllKept : Location → State → Option State → Type 0
AllKept l s None = Unit {0}
AllKept l s (Some t) = IsKept l s t

all_kept : (l : Location) (s : State) (o : Option State) (t : State) → AllKept l s o → o ≡ Some t → IsKept l s t
all_kept l s None t h e = absurd (cc)
all_kept l s (Some u) t h e = subst (λ (x : State). IsKept l s x) (cc) h

kept_divided : (q : Option (ℕ × ℕ)) (s : State) (i : Instr) (choice : ℕ) (l : Location) → IsNotRegister rax l → IsNotRegister rdx l → AllKept l s (goes_on_if i (divided q s i choice))
kept_divided None s i choice l h k = tt
kept_divided (Some p) s i choice l h k = kept_rip s _ _ l (kept_flags s _ _ l (kept_halves s i.width p l h k))

kept_next : (o : Op) (s : State) (i : Instr) (choice : ℕ) (l : Location) → Preserves o s i l → AllKept l s (next_by o s i choice)
kept_next op.Add s i choice l h = kept_rip s _ _ l (kept_flags s _ _ l (kept_write s i.width i.dst _ l h))
kept_next op.Or s i choice l h = kept_rip s _ _ l (kept_flags s _ _ l (kept_write s i.width i.dst _ l h))
kept_next op.Adc s i choice l h = kept_rip s _ _ l (kept_flags s _ _ l (kept_write s i.width i.dst _ l h))
kept_next op.Sbb s i choice l h = kept_rip s _ _ l (kept_flags s _ _ l (kept_write s i.width i.dst _ l h))
kept_next op.And s i choice l h = kept_rip s _ _ l (kept_flags s _ _ l (kept_write s i.width i.dst _ l h))
kept_next op.Sub s i choice l h = kept_rip s _ _ l (kept_flags s _ _ l (kept_write s i.width i.dst _ l h))
kept_next op.Xor s i choice l h = kept_rip s _ _ l (kept_flags s _ _ l (kept_write s i.width i.dst _ l h))
kept_next op.Cmp s i choice l h = kept_rip s _ _ l (kept_flags s s _ l refl)
kept_next op.Test s i choice l h = kept_rip s _ _ l (kept_flags s s _ l refl)
kept_next op.Mov s i choice l h = kept_rip s _ _ l (kept_write s _ i.dst _ l h)
kept_next op.Lea s i choice l h = kept_rip s _ _ l (kept_write s _ i.dst _ l h)
kept_next op.Movzx s i choice l h = kept_rip s _ _ l (kept_write s _ i.dst _ l h)
kept_next op.Movsx s i choice l h = kept_rip s _ _ l (kept_write s _ i.dst _ l h)
kept_next op.Not s i choice l h = kept_rip s _ _ l (kept_write s i.width i.dst _ l h)
kept_next op.Neg s i choice l h = kept_rip s _ _ l (kept_flags s _ _ l (kept_write s i.width i.dst _ l h))
kept_next op.Mul s i choice l h = kept_rip s _ _ l (kept_flags s _ _ l (kept_halves s i.width _ l h.0 h.1))
kept_next op.Imul1 s i choice l h = kept_rip s _ _ l (kept_flags s _ _ l (kept_halves s i.width _ l h.0 h.1))
kept_next op.Div s i choice l h = kept_divided _ s i choice l h.0 h.1
kept_next op.Idiv s i choice l h = kept_divided _ s i choice l h.0 h.1
kept_next op.Imul2 s i choice l h = kept_rip s _ _ l (kept_flags s _ _ l (kept_write s i.width i.dst _ l h))
kept_next op.Imul3 s i choice l h = kept_rip s _ _ l (kept_flags s _ _ l (kept_write s i.width i.dst _ l h))
kept_next op.Inc s i choice l h = kept_rip s _ _ l (kept_flags s _ _ l (kept_write s i.width i.dst _ l h))
kept_next op.Dec s i choice l h = kept_rip s _ _ l (kept_flags s _ _ l (kept_write s i.width i.dst _ l h))
kept_next op.Rol s i choice l h = kept_rip s _ _ l (kept_flags s _ _ l (kept_either _ s _ l (kept_write s i.width i.dst _ l h)))
kept_next op.Ror s i choice l h = kept_rip s _ _ l (kept_flags s _ _ l (kept_either _ s _ l (kept_write s i.width i.dst _ l h)))
kept_next op.Shl s i choice l h = kept_rip s _ _ l (kept_flags s _ _ l (kept_either _ s _ l (kept_write s i.width i.dst _ l h)))
kept_next op.Shr s i choice l h = kept_rip s _ _ l (kept_flags s _ _ l (kept_either _ s _ l (kept_write s i.width i.dst _ l h)))
kept_next op.Sar s i choice l h = kept_rip s _ _ l (kept_flags s _ _ l (kept_either _ s _ l (kept_write s i.width i.dst _ l h)))
kept_next op.Push s i choice l h = kept_rip s _ _ l (kept_pushed s _ l h)
kept_next op.Pop s i choice l h = kept_rip s _ _ l (kept_write (rsp_popped s) W64 i.dst _ l h.1 ∙ kept_reg s rsp _ l h.0)
kept_next op.Leave s i choice l h = kept_rip s _ _ l (kept_reg _ rbp _ l h.1 ∙ kept_reg s rsp _ l h.0)
kept_next op.Widen s i choice l h = kept_rip s _ _ l (kept_write s i.width (Reg rax) _ l h)
kept_next op.Signs s i choice l h = kept_rip s _ _ l (kept_write s i.width (Reg rdx) _ l h)
kept_next op.Xchg s i choice l h = kept_rip s _ _ l (kept_write _ i.width i.src _ l h.1 ∙ kept_write s i.width i.dst _ l h.0)
kept_next op.Bswap s i choice l h = kept_rip s _ _ l (kept_write s _ i.dst _ l h)
kept_next op.Cmov s i choice l h = kept_rip s _ _ l (kept_write s _ i.dst _ l h)
kept_next op.Setcc s i choice l h = kept_rip s _ _ l (kept_write s _ i.dst _ l h)
kept_next op.Jcc s i choice l h = kept_rip s s _ l refl
kept_next op.Jmp s i choice l h = kept_rip s s _ l refl
kept_next op.Call s i choice l h = kept_rip s _ _ l (kept_pushed s _ l h)
kept_next op.Ret s i choice l h = kept_rip s _ _ l (kept_reg s rsp _ l h)
kept_next op.Nop s i choice l h = kept_rip s s _ l refl
kept_next op.Syscall s i choice l h = tt
kept_next op.Hlt s i choice l h = tt
kept_next op.Ud2 s i choice l h = tt
kept_next op.Int3 s i choice l h = tt

pub preserve_law : PreserveLaw
preserve_law s t i choice l e h = all_kept l s (next_by i.op s i choice) t (kept_next i.op s i choice l h) e

-- no operand is the FS base
base_apart : (s : State) (w : Width) (o : Operand) → IsNotDestination s w o FsBase
base_apart s w operand.None = tt
base_apart s w (operand.Reg r) = tt
base_apart s w (operand.High r) = tt
base_apart s w (operand.Imm n) = tt
base_apart s w (operand.Mem p) = tt

-- no operation writes the FS base
base_preserved : (o : Op) (s : State) (i : Instr) → Preserves o s i FsBase
base_preserved op.Cmp s i = tt
base_preserved op.Test s i = tt
base_preserved op.Mul s i = (tt, tt)
base_preserved op.Imul1 s i = (tt, tt)
base_preserved op.Div s i = (tt, tt)
base_preserved op.Idiv s i = (tt, tt)
base_preserved op.Push s i = (tt, tt)
base_preserved op.Pop s i = (tt, base_apart (rsp_popped s) W64 i.dst)
base_preserved op.Leave s i = (tt, tt)
base_preserved op.Widen s i = tt
base_preserved op.Signs s i = tt
base_preserved op.Xchg s i = (base_apart s i.width i.dst, base_apart _ i.width i.src)
base_preserved op.Jcc s i = tt
base_preserved op.Jmp s i = tt
base_preserved op.Call s i = (tt, tt)
base_preserved op.Ret s i = tt
base_preserved op.Nop s i = tt
base_preserved op.Syscall s i = tt
base_preserved op.Hlt s i = tt
base_preserved op.Ud2 s i = tt
base_preserved op.Int3 s i = tt
base_preserved op.Setcc s i = base_apart s W8 i.dst
base_preserved _ s i = base_apart s i.width i.dst

pub base_law : BaseLaw
base_law s t i choice e = preserve_law s t i choice FsBase e (base_preserved i.op s i)
