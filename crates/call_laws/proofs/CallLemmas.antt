-- What is known after a call or a syscall, once it has come back, is true.
use Rattle.std.proofs.Common.{◌≡◌, ℕ, zero, suc, ◌+◌, ◌^◌, ◌<◌, ◌≤◌, inl, inr, false, Some, refl, sym, ap, subst, ◌∙◌, arith}
use Rattle.std.proofs.Math.Nat.{mod-lt, mod-eq_of_lt}
use Rattle.std.proofs.lemmas.Bool.{cases_lt, false≢true}
use Rattle.std.proofs.lemmas.List.{get_or_past}
use Rattle.sym_terms.specs.Value.{Valuation}
use Rattle.predicates.specs.Predicate.{Predicate}
use Rattle.x86_instr.specs.declared.class.Class.{Class}
use Rattle.x86_instr.specs.declared.instr.Instr.{Instr}
use Rattle.x86_instr.specs.Classes.{class_of}
use Rattle.x86_instr.specs.Registers.{rax}
use Rattle.predicate_meaning.specs.Begin.{with_name}
use Rattle.step_rules.specs.Calls.{after}
use Rattle.x86_machine.specs.Memory.{stored}
use Rattle.x86_machine.specs.State.{State, IsState, reg, with_bytes}
use Rattle.x86_machine.specs.Next.{next_address}
use Rattle.forest_meaning.specs.Assumed.{Keeps}
use Rattle.value_laws.proofs.Ground.{Ground}
use Rattle.forest_laws.specs.Laws.{SameNumbers}
use Rattle.step_rules.specs.View.{View}
use Rattle.step_rules.specs.Terms.{number}
use Rattle.step_rules.specs.Calls.{begun}
use Rattle.step_rules.specs.Moves.{below_top}
use Rattle.predicate_meaning.specs.Sat.{Sat}
use Rattle.call_laws.proofs.BackLemmas.{began_by, is_changed, after_holds}
use Rattle.value_laws.proofs.MeansLemmas.{means_as, means_number}
use Rattle.call_laws.specs.Calls.{Calls, BackFromCall, BackFromSyscall, CallLaw, SyscallLaw}
use Rattle.access_laws.proofs.PushLemmas.{tells_top, stored_below}
use Rattle.x86_instr.specs.declared.class.Class.TheVariants as class
use Rattle.x86_machine.specs.Moves as machine_moves

past_end : (s : State) (r : ℕ) → IsState s → 16 ≤ r → reg s r ≡ 0
unfolding reg
past_end s r is h = get_or_past s.regs r 0 (omega (arith, is.count, h))

-- the registers that a callee keeps
kept_by_call : (s t : State) → IsState s → IsState t → BackFromCall s t → (r : ℕ) → is_changed class.Call r ≡ false → reg t r ≡ reg s r
kept_by_call s t is it back zero e = absurd (cc)
kept_by_call s t is it back (suc zero) e = absurd (cc)
kept_by_call s t is it back (suc (suc zero)) e = absurd (cc)
kept_by_call s t is it back (suc (suc (suc zero))) e = back.saved zero 0 (omega arith)
kept_by_call s t is it back (suc (suc (suc (suc zero)))) e = back.stack
kept_by_call s t is it back (suc (suc (suc (suc (suc zero))))) e = back.saved (suc zero) 0 (omega arith)
kept_by_call s t is it back (suc (suc (suc (suc (suc (suc zero)))))) e = absurd (cc)
kept_by_call s t is it back (suc (suc (suc (suc (suc (suc (suc zero))))))) e = absurd (cc)
kept_by_call s t is it back (suc (suc (suc (suc (suc (suc (suc (suc zero)))))))) e = absurd (cc)
kept_by_call s t is it back (suc (suc (suc (suc (suc (suc (suc (suc (suc zero))))))))) e = absurd (cc)
kept_by_call s t is it back (suc (suc (suc (suc (suc (suc (suc (suc (suc (suc zero)))))))))) e = absurd (cc)
kept_by_call s t is it back (suc (suc (suc (suc (suc (suc (suc (suc (suc (suc (suc zero))))))))))) e = absurd (cc)
kept_by_call s t is it back (suc (suc (suc (suc (suc (suc (suc (suc (suc (suc (suc (suc zero)))))))))))) e = back.saved (suc (suc zero)) 0 (omega arith)
kept_by_call s t is it back (suc (suc (suc (suc (suc (suc (suc (suc (suc (suc (suc (suc (suc zero))))))))))))) e = back.saved (suc (suc (suc zero))) 0 (omega arith)
kept_by_call s t is it back (suc (suc (suc (suc (suc (suc (suc (suc (suc (suc (suc (suc (suc (suc zero)))))))))))))) e = back.saved (suc (suc (suc (suc zero)))) 0 (omega arith)
kept_by_call s t is it back (suc (suc (suc (suc (suc (suc (suc (suc (suc (suc (suc (suc (suc (suc (suc zero))))))))))))))) e = back.saved (suc (suc (suc (suc (suc zero))))) 0 (omega arith)
kept_by_call s t is it back (suc (suc (suc (suc (suc (suc (suc (suc (suc (suc (suc (suc (suc (suc (suc (suc n)))))))))))))))) e =
    past_end t _ it (omega arith) ∙ sym (past_end s _ is (omega arith))

-- a syscall keeps all registers but three
kept_by_syscall : (s t : State) → IsState s → IsState t → BackFromSyscall s t → (r : ℕ) → is_changed class.SystemCall r ≡ false → reg t r ≡ reg s r
kept_by_syscall s t is it back r e = elim (cases_lt r 16) as (λ _. reg t r ≡ reg s r) [
  | inl lt ↦ back.regs r lt (λ f. false≢true (sym e ∙ ap (is_changed class.SystemCall) f)) (λ f. false≢true (sym e ∙ ap (is_changed class.SystemCall) f)) (λ f. false≢true (sym e ∙ ap (is_changed class.SystemCall) f))
  | inr past ↦ past_end t r it past ∙ sym (past_end s r is past)
]

-- the next address is pushed, under the name's old value
begins : (g : Ground) (v : View) (i : Instr) (s : State) (u : Valuation) → Keeps u v.known → (q : Predicate) → Sat q s u
    → Sat (begun class.Call v i q) (began_by class.Call s i) u
begins g v i s u kept q h =
    let small : next_address i < 2 ^ 64 = mod-lt (i.addr + i.len) (omega arith) in
    stored_below g.forest g.stores v s u kept q (below_top q) (Some (number (next_address i))) (next_address i) (tells_top g u h.range q s h)
    (means_as u (number (next_address i)) (next_address i) _ (sym (mod-eq_of_lt small)) (means_number u g.normal (g.values u h.range) (next_address i) small)) h

-- what holds of the class holds of that of the instruction
module _ (g : Ground) (v : View) (i : Instr) (p : Predicate) (s t : State) (u : Valuation) (c : Calls v i p s t u) (base : t.fs_base ≡ s.fs_base) where
  of_class : (k : Class) → class_of i.op ≡ k → ((q : Predicate) → Sat q s u → Sat (begun k v i q) (began_by k s i) u)
      → SameNumbers u (began_by k s i).memory t.memory v.keeps → ((r : ℕ) → is_changed k r ≡ false → reg t r ≡ reg s r)
      → Sat (after v i p) t (with_name u i.addr (reg t rax))
  of_class k e begin same kept =
      after_holds g v i p s t u c.back c.form c.sat
      (subst (λ k. (q : Predicate) → Sat q s u → Sat (begun k v i q) (began_by k s i) u) (sym e) begin)
      (subst (λ k. SameNumbers u (began_by k s i).memory t.memory v.keeps) (sym e) same)
      (subst (λ k. (r : ℕ) → is_changed k r ≡ false → reg t r ≡ reg s r) (sym e) kept) base

call_memory : (s : State) (i : Instr) → stored s.memory 8 (machine_moves.below_top s) (next_address i) ≡ (began_by class.Call s i).memory
unfolding with_bytes
call_memory s i = refl

pub call_law : Ground → CallLaw
call_law g v i p s t u c e same b =
    of_class g v i p s t u c b.fs_base class.Call (ap class_of e) (begins g v i s u c.kept)
    (subst (λ m. SameNumbers u m t.memory v.keeps) (call_memory s i) same) (kept_by_call s t c.before c.back b)

pub syscall_law : Ground → SyscallLaw
syscall_law g v i p s t u c e same b =
    of_class g v i p s t u c b.fs_base class.SystemCall (ap class_of e) (λ q h. h) same (kept_by_syscall s t c.before c.back b)
