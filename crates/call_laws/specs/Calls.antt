-- What is known after a call or a system call is true, once it is back (System V x86-64 psABI, 3.2.1, A.2.1).
use Rattle.std.specs.Prelude.{◌≡◌, ◌≢◌, ℕ, ◌<◌, All}
use Rattle.sym_terms.specs.Value.{Valuation}
use Rattle.predicates.specs.Predicate.{Predicate}
use Rattle.x86_instr.specs.declared.instr.Op.TheVariants as op
use Rattle.x86_instr.specs.declared.instr.Instr.{Instr}
use Rattle.x86_instr.specs.Fits.{InForm}
use Rattle.x86_instr.specs.Registers.{rax, rsp}
use Rattle.x86_machine.specs.Memory.{stored}
use Rattle.x86_machine.specs.State.{State, IsState, reg}
use Rattle.x86_machine.specs.Moves.{below_top}
use Rattle.x86_machine.specs.Next.{next_address}
use Rattle.forest_meaning.specs.Assumed.{Keeps}
use Rattle.forest_laws.specs.Laws.{SameNumbers}
use Rattle.predicate_meaning.specs.Sat.{Sat}
use Rattle.predicate_meaning.specs.Begin.{with_name}
use Rattle.predicate_meaning.specs.Returns.{saved_registers}
use Rattle.step_rules.specs.View.{View}
use Rattle.step_rules.specs.Calls.{after}

-- a callee gives back the stack pointer, the saved registers and the FS base of its caller
pub record BackFromCall (s t : State) : Type 0 where
  pub stack : reg t rsp ≡ reg s rsp
  pub saved : All (λ r. reg t r ≡ reg s r) saved_registers
  pub fs_base : t.fs_base ≡ s.fs_base

-- a system call gives back all registers but rax, rcx and r11, and the FS base
pub record BackFromSyscall (s t : State) : Type 0 where
  pub regs : (r : ℕ) → r < 16 → r ≢ 0 → r ≢ 1 → r ≢ 11 → reg t r ≡ reg s r
  pub fs_base : t.fs_base ≡ s.fs_base

-- an instruction in form is at a state s of which the predicate is true, with the frame and the pairs as they are
-- assumed before the name has its new value, and t is the state after the return
pub record Calls (v : View) (i : Instr) (p : Predicate) (s t : State) (u : Valuation) : Type 0 where
  pub before : IsState s
  pub back : IsState t
  pub form : InForm i
  pub kept : Keeps u v.known
  pub sat : Sat p s u

-- after a call, of a function of the graph or of any other: the kept regions have the numbers that they had once the next
-- address was pushed, and the site's name is rax
abbrev pub CallLaw : Type 0
CallLaw =
    (v : View) (i : Instr) (p : Predicate) (s t : State) (u : Valuation) → Calls v i p s t u → i.op ≡ op.Call →
    SameNumbers u (stored s.memory 8 (below_top s) (next_address i)) t.memory v.keeps → BackFromCall s t →
    Sat (after v i p) t (with_name u i.addr (reg t rax))

-- after a system call: the kept regions have the numbers that they had before it, and the site's name is rax
abbrev pub SyscallLaw : Type 0
SyscallLaw =
    (v : View) (i : Instr) (p : Predicate) (s t : State) (u : Valuation) → Calls v i p s t u → i.op ≡ op.Syscall →
    SameNumbers u s.memory t.memory v.keeps → BackFromSyscall s t →
    Sat (after v i p) t (with_name u i.addr (reg t rax))
