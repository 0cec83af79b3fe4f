-- The laws of steps: the state in range, calls and returns, by the operation.
use Rattle.std.proofs.Common.{◌≡◌, ◌≢◌, ℕ, ◌^◌, ◌<◌, Bool, true, false, cond, Option, Some, None, refl, ap, subst, ◌∙◌, arith, length, get_or-set_same, get_or-set_other}
use Rattle.bits_core.specs.declared.width.Width.{Width}
use Rattle.bits_core.specs.declared.width.Width.TheVariants.{W8, W16, W32, W64}
use Rattle.bits_core.specs.Width.{bits_of}
use Rattle.x86_instr.specs.declared.instr.Op.{Op}
use Rattle.x86_instr.specs.declared.instr.Op.TheVariants as op
use Rattle.x86_instr.specs.declared.instr.Operand.{Operand}
use Rattle.x86_instr.specs.declared.instr.Operand.TheVariants as operand
use Rattle.x86_instr.specs.declared.instr.Operand.TheVariants.{Reg}
use Rattle.x86_instr.specs.declared.instr.Instr.{Instr}
use Rattle.x86_instr.specs.Kinds.{Kinds, dst_kinds}
use Rattle.x86_instr.specs.Fits.{IsOperand}
use Rattle.x86_machine.specs.Memory.{address_plus, loaded, stored}
use Rattle.x86_machine.specs.StepLaws.{StateLaw, CallLaw, ReturnLaw, Pushes, Returns}
use Rattle.machine_laws.proofs.StoreLemmas.{store_back}
use Rattle.x86_instr.specs.Registers.{rax, rdx, rsp, rbp}
use Rattle.x86_machine.specs.State.{State, IsState, reg, with_reg, with_rip, with_bytes}
use Rattle.x86_machine.specs.Access.{read}
use Rattle.x86_machine.specs.Steps.{divided, with_halves}
use Rattle.x86_machine.specs.Moves.{below_top, holds, pushed, rsp_popped, quad_at}
use Rattle.x86_machine.specs.Next.{next_by, next_address, target, passes, goes_on_if}
use Rattle.machine_laws.proofs.StateLemmas.{FitsQuad, state_reg, state_flags, state_rip, state_bytes, state_write, quad_below, read_below, reg_below}

some_same : {s t : State} → Some s ≡ Some t → s ≡ t
some_same e = cc

state_pushed : (s : State) (v : ℕ) → IsState s → IsState (pushed s v)
state_pushed s v h = state_reg _ rsp (below_top s) (omega arith) (state_bytes s 8 (below_top s) v (omega arith) h)

state_popped : (s : State) → IsState s → IsState (rsp_popped s)
state_popped s h = state_reg s rsp _ (omega arith) h

state_halves : (s : State) (w : Width) (p : ℕ × ℕ) → IsState s → IsState (with_halves s w p)
state_halves s w p h = state_write _ w (Reg rdx) p.1 (state_write s w (Reg rax) p.0 h)

-- what is kept or written is in range
state_either : (b : Bool) (s t : State) → IsState s → IsState t → IsState (cond b s t)
state_either true s t h k = h
state_either false s t h k = k

width_below : (w : Width) (n : ℕ) → n < 2 ^ bits_of w → n < 2 ^ 64
width_below W8 n h = omega arith
width_below W16 n h = omega arith
width_below W32 n h = omega arith
width_below W64 n h = h

fits_quad : (k : Kinds) (w : Width) (o : Operand) → IsOperand k w o → FitsQuad o
fits_quad k w operand.None h = tt
fits_quad k w (operand.Reg r) h = tt
fits_quad k w (operand.High r) h = tt
fits_quad k w (operand.Imm n) h = width_below w n h.1
fits_quad k w (operand.Mem p) h = tt

state_passes : (s : State) (i : Instr) → IsState s → IsState (passes i s)
state_passes s i h = state_rip s _ (omega arith) h

-- what comes next is in range, where anything does
abbrev AllIn : Option State → Type 0
AllIn None = Unit {0}
AllIn (Some s) = IsState s

all_in : (o : Option State) (t : State) → AllIn o → o ≡ Some t → IsState t
all_in None t h e = absurd (cc)
all_in (Some s) t h e = subst IsState (cc) h

state_divided : (q : Option (ℕ × ℕ)) (s : State) (i : Instr) (choice : ℕ) → IsState s → AllIn (goes_on_if i (divided q s i choice))
state_divided None s i choice h = tt
state_divided (Some p) s i choice h = state_passes _ i (state_flags _ _ (state_halves s i.width p h))

condition_below : (b : Bool) (m n : ℕ) → m < 2 ^ 64 → n < 2 ^ 64 → cond b m n < 2 ^ 64
condition_below true m n h k = h
condition_below false m n h k = k

state_next : (o : Op) (s : State) (i : Instr) (choice : ℕ) → IsState s → FitsQuad i.dst → AllIn (next_by o s i choice)
state_next op.Add s i choice h f = state_passes _ i (state_flags _ _ (state_write s i.width i.dst _ h))
state_next op.Or s i choice h f = state_passes _ i (state_flags _ _ (state_write s i.width i.dst _ h))
state_next op.Adc s i choice h f = state_passes _ i (state_flags _ _ (state_write s i.width i.dst _ h))
state_next op.Sbb s i choice h f = state_passes _ i (state_flags _ _ (state_write s i.width i.dst _ h))
state_next op.And s i choice h f = state_passes _ i (state_flags _ _ (state_write s i.width i.dst _ h))
state_next op.Sub s i choice h f = state_passes _ i (state_flags _ _ (state_write s i.width i.dst _ h))
state_next op.Xor s i choice h f = state_passes _ i (state_flags _ _ (state_write s i.width i.dst _ h))
state_next op.Cmp s i choice h f = state_passes _ i (state_flags s _ h)
state_next op.Test s i choice h f = state_passes _ i (state_flags s _ h)
state_next op.Mov s i choice h f = state_passes _ i (state_write s _ i.dst _ h)
state_next op.Lea s i choice h f = state_passes _ i (state_write s _ i.dst _ h)
state_next op.Movzx s i choice h f = state_passes _ i (state_write s _ i.dst _ h)
state_next op.Movsx s i choice h f = state_passes _ i (state_write s _ i.dst _ h)
state_next op.Not s i choice h f = state_passes _ i (state_write s i.width i.dst _ h)
state_next op.Neg s i choice h f = state_passes _ i (state_flags _ _ (state_write s i.width i.dst _ h))
state_next op.Mul s i choice h f = state_passes _ i (state_flags _ _ (state_halves s i.width _ h))
state_next op.Imul1 s i choice h f = state_passes _ i (state_flags _ _ (state_halves s i.width _ h))
state_next op.Div s i choice h f = state_divided _ s i choice h
state_next op.Idiv s i choice h f = state_divided _ s i choice h
state_next op.Imul2 s i choice h f = state_passes _ i (state_flags _ _ (state_write s i.width i.dst _ h))
state_next op.Imul3 s i choice h f = state_passes _ i (state_flags _ _ (state_write s i.width i.dst _ h))
state_next op.Inc s i choice h f = state_passes _ i (state_flags _ _ (state_write s i.width i.dst _ h))
state_next op.Dec s i choice h f = state_passes _ i (state_flags _ _ (state_write s i.width i.dst _ h))
state_next op.Rol s i choice h f = state_passes _ i (state_flags _ _ (state_either _ s _ h (state_write s i.width i.dst _ h)))
state_next op.Ror s i choice h f = state_passes _ i (state_flags _ _ (state_either _ s _ h (state_write s i.width i.dst _ h)))
state_next op.Shl s i choice h f = state_passes _ i (state_flags _ _ (state_either _ s _ h (state_write s i.width i.dst _ h)))
state_next op.Shr s i choice h f = state_passes _ i (state_flags _ _ (state_either _ s _ h (state_write s i.width i.dst _ h)))
state_next op.Sar s i choice h f = state_passes _ i (state_flags _ _ (state_either _ s _ h (state_write s i.width i.dst _ h)))
state_next op.Push s i choice h f = state_passes _ i (state_pushed s _ h)
state_next op.Pop s i choice h f = state_passes _ i (state_write (rsp_popped s) W64 i.dst _ (state_popped s h))
state_next op.Leave s i choice h f = state_passes _ i (state_reg _ rbp _ (quad_below s (reg s rbp) h) (state_reg s rsp _ (omega arith) h))
state_next op.Widen s i choice h f = state_passes _ i (state_write s i.width (Reg rax) _ h)
state_next op.Signs s i choice h f = state_passes _ i (state_write s i.width (Reg rdx) _ h)
state_next op.Xchg s i choice h f = state_passes _ i (state_write _ i.width i.src _ (state_write s i.width i.dst _ h))
state_next op.Bswap s i choice h f = state_passes _ i (state_write s _ i.dst _ h)
state_next op.Cmov s i choice h f = state_passes _ i (state_write s _ i.dst _ h)
state_next op.Setcc s i choice h f = state_passes _ i (state_write s _ i.dst _ h)
state_next op.Jcc s i choice h f = state_rip s _ (condition_below (holds s i) (target s i) (next_address i) (read_below s i.dst f h) (omega arith)) h
state_next op.Jmp s i choice h f = state_rip s _ (read_below s i.dst f h) h
state_next op.Call s i choice h f = state_rip _ _ (read_below s i.dst f h) (state_pushed s _ h)
state_next op.Ret s i choice h f = state_rip _ _ (quad_below s (reg s rsp) h) (state_popped s h)
state_next op.Nop s i choice h f = state_passes s i h
state_next op.Syscall s i choice h f = tt
state_next op.Hlt s i choice h f = tt
state_next op.Ud2 s i choice h f = tt
state_next op.Int3 s i choice h f = tt

pub state_law : StateLaw
state_law s t i choice h f e = all_in _ t (state_next i.op s i choice h (fits_quad (dst_kinds i.op) i.width i.dst f.dst)) e

reg_same : (s : State) (v at : ℕ) → IsState s → reg (with_rip (with_reg s rsp v) at) rsp ≡ v
unfolding reg with_rip with_reg
reg_same s v at h = let lt : 4 < length s.regs = omega (arith, h.count) in rw get_or-set_same

reg_other : (s : State) (v at r : ℕ) → r ≢ rsp → reg (with_rip (with_reg s rsp v) at) r ≡ reg s r
unfolding reg with_rip with_reg
reg_other s v at r ne = rw get_or-set_other

state_pushes : (s : State) (i : Instr) → IsState s → Pushes s (with_rip (pushed s (next_address i)) (read s W64 i.dst)) i
unfolding with_rip with_reg with_bytes reg
state_pushes s i h =
    let at = below_top s in
    let top = reg_same (with_bytes s 8 at (next_address i)) at (read s W64 i.dst) (state_bytes s 8 at (next_address i) (omega arith) h) in
    record {
      rip = refl;
      stack = top;
      back = omega (arith, top, reg_below s rsp h);
      others = λ r ne. reg_other (with_bytes s 8 at (next_address i)) at (read s W64 i.dst) r ne;
      fs_base = refl;
      memory = refl;
      top = ap (λ x. loaded (stored s.memory 8 at (next_address i)) 8 x) top ∙ (store_back s.memory 8 at (next_address i) (omega arith) (omega arith) ∙ omega arith);
    }

pub call_law : CallLaw
call_law s t i choice h e n =
    let stepped : next_by op.Call s i choice ≡ Some t = subst (λ (o : Op). next_by o s i choice ≡ Some t) e n in
    subst (λ (x : State). Pushes s x i) (some_same stepped) (state_pushes s i h)

state_returns : (s : State) → Returns s (with_rip (rsp_popped s) (quad_at s (reg s rsp)))
unfolding with_rip with_reg reg
state_returns s = record {
  rip = refl;
  stack = λ h. reg_same s (address_plus 8 (reg s rsp)) (quad_at s (reg s rsp)) h;
  others = λ r ne. reg_other s (address_plus 8 (reg s rsp)) (quad_at s (reg s rsp)) r ne;
  fs_base = refl;
  memory = refl;
}

pub return_law : ReturnLaw
return_law s t i choice e n =
    let stepped : next_by op.Ret s i choice ≡ Some t = subst (λ (o : Op). next_by o s i choice ≡ Some t) e n in
    subst (λ (x : State). Returns s x) (some_same stepped) (state_returns s)
