-- A verified return gives back what was there at the entry.
use Rattle.std.proofs.Common.{◌≡◌, ◌≢◌, ℕ, ◌+◌, ◌%◌, ◌^◌, ◌<◌, Some, get_or, refl, sym, ap, subst, ◌∙◌, arith}
use Rattle.simulation.specs.World.{Returning}
use Rattle.sym_terms.specs.declared.kinds.Sym.TheVariants.{Entry, Ra}
use Rattle.sym_terms.specs.Plain.{single_atom, symbol}
use Rattle.sym_terms.specs.Value.{Valuation, IsInRange, value}
use Rattle.term_laws.specs.Laws.{ValueLaws}
use Rattle.predicates.specs.Predicate.{Predicate}
use Rattle.x86_instr.specs.Classes.{class_of as op_class}
use Rattle.x86_instr.specs.declared.instr.Op.{Op}
use Rattle.x86_instr.specs.declared.instr.Op.TheVariants as op
use Rattle.x86_machine.specs.Memory.{loaded}
use Rattle.x86_machine.specs.State.{State, reg, rsp}
use Rattle.x86_machine.specs.StepLaws as machine
use Rattle.x86_machine.specs.Moves.{quad_at}
use Rattle.forest_meaning.specs.Holds.{Tells}
use Rattle.predicate_meaning.specs.Sat.{register, Sat}
use Rattle.predicate_meaning.specs.Returns.{saved_registers, Returns}
use Rattle.graph_runs.specs.Classes.{class_by}
use Rattle.graph_runs.specs.Laws.{ReturnLaw}
use Rattle.graph_runs.proofs.NodeLemmas.{found_number}

-- only a return is of the class of returns
pub is_return : (o : Op) → class_by (op_class o) ≡ Returning → o ≡ op.Ret
is_return op.Ret e = refl
is_return _ e = absurd (cc)

module _ (values : (u : Valuation) → IsInRange u → ValueLaws u) (p : Predicate) (s : State) (u : Valuation) (h : Sat p s u) (k : Returns p) where
  -- a register whose term is its entry symbol has the number of the entry
  entry_number : (r : ℕ) → r < 16 → register p r ≡ Some (single_atom (symbol (Entry r))) → reg s r ≡ u.entry r
  entry_number r lt e =
      let m : Tells u (Some (single_atom (symbol (Entry r)))) (reg s r) = subst (λ t. Tells u t (reg s r)) e (h.registers r) in
      sym m.value ∙ (values u h.range).symbols (Entry r) lt

  pub stack_number : reg s rsp ≡ u.entry rsp
  stack_number = entry_number rsp (omega arith) k.stack

  -- the number at the top of the stack is the return address
  pub back_number : quad_at s (reg s rsp) ≡ u.ra
  back_number =
      let at : value u (single_atom (symbol (Entry rsp))) ≡ reg s rsp = (values u h.range).symbols (Entry rsp) (omega arith) ∙ sym stack_number in
      let m : Tells u (Some (single_atom (symbol Ra))) (loaded s.memory 8 (value u (single_atom (symbol (Entry rsp))))) =
      subst (λ t. Tells u t (loaded s.memory 8 (value u (single_atom (symbol (Entry rsp)))))) k.back (found_number u s.memory (single_atom (symbol (Entry rsp))) 8 p.forest h.forest) in
      ap (λ x. loaded s.memory 8 x) (sym at) ∙ sym m.value ∙ (values u h.range).symbols Ra tt

  pub saved_number : (r n : ℕ) → n < 6 → r < 16 → get_or saved_registers n 0 ≡ r → reg s r ≡ u.entry r
  saved_number r n lt small e = entry_number r small (subst (λ r. register p r ≡ Some (single_atom (symbol (Entry r)))) e (k.saved n 0 lt))

pub return_holds : ((u : Valuation) → IsInRange u → ValueLaws u) → machine.ReturnLaw → ReturnLaw
return_holds values law image point choice later is began sat returns class leads =
    let u = point.valuation in
    let s = point.state in
    let r = law s later point.instr choice (is_return point.instr.op class) leads in
    let back : (x n : ℕ) → n < 6 → x < 16 → x ≢ rsp → get_or saved_registers n 0 ≡ x → reg later x ≡ reg point.entry x =
    λ x n lt small other e. r.others x other ∙ saved_number values point.pred s u sat returns x n lt small e ∙ began.entry x in
    record {
      rsp = r.stack is ∙ ap (λ x. (x + 8) % 2 ^ 64) (stack_number values point.pred s u sat returns ∙ began.entry rsp);
      saved = record {
        rbx = back 3 0 (omega arith) (omega arith) (omega arith) refl;
        rbp = back 5 1 (omega arith) (omega arith) (omega arith) refl;
        r12 = back 12 2 (omega arith) (omega arith) (omega arith) refl;
        r13 = back 13 3 (omega arith) (omega arith) (omega arith) refl;
        r14 = back 14 4 (omega arith) (omega arith) (omega arith) refl;
        r15 = back 15 5 (omega arith) (omega arith) (omega arith) refl;
        fs = r.fs_base ∙ sat.fs_base ∙ began.fs_base;
      };
      rip = r.rip ∙ back_number values point.pred s u sat returns;
    }
