-- What the theorem over runs says, in the words of the laws of a step.
use Rattle.std.proofs.Common.{◌≡◌, ℕ, zero, suc, ◌+◌, ◌*◌, ◌%◌, ◌^◌, ◌<◌, Option, Some, None, List, [], ◌∷◌, map, refl, sym, ap, ap₂, subst, ◌∙◌, arith}
use Rattle.std.proofs.Math.Nat.{mod-lt}
use Rattle.std.proofs.lemmas.List.{length-map}
use Rattle.std.proofs.lemmas.List.Elements.{All-head, All-tail}
use Rattle.std.proofs.Math.ListN.{get_or-map}
use Rattle.std.specs.Prelude.{All}
use Rattle.std.specs.Option.{option_map}
use Rattle.simulation.specs.World.{Ordinary, Calling, System, Case}
use Rattle.simulation.specs.Moves as moves
use Rattle.simulation.specs.Keeps as keeps
use Rattle.simulation.specs.Laws as theory
use Rattle.sym_terms.specs.Plain.{PlainSum, sum}
use Rattle.sym_terms.specs.Value.{Valuation, value}
use Rattle.memory_regions.specs.declared.region.Region.{Region}
use Rattle.elf_image.specs.declared.image.Image.{Image}
use Rattle.predicates.specs.Predicate.{Predicate}
use Rattle.x86_instr.specs.declared.class.Class.{Class}
use Rattle.x86_instr.specs.declared.class.Class.TheVariants as class
use Rattle.x86_instr.specs.declared.instr.Op.{Op}
use Rattle.x86_instr.specs.declared.instr.Op.TheVariants as op
use Rattle.x86_instr.specs.Classes.{class_of}
use Rattle.x86_machine.specs.Memory.{loaded, address_plus}
use Rattle.x86_machine.specs.State.{State, reg}
use Rattle.forest_meaning.specs.Assumed.{PairHolds, PairsHold}
use Rattle.forest_laws.specs.Laws.{SameNumbers}
use Rattle.predicate_meaning.specs.Begin.{renamed}
use Rattle.predicate_meaning.specs.Returns.{saved_registers}
use Rattle.step_rules.specs.Cases as step_cases
use Rattle.instruction_laws.specs.StepLaw.{SomeCase, IsOrdinary}
use Rattle.call_laws.specs.Calls.{BackFromCall, BackFromSyscall}
use Rattle.graph_runs.specs.Classes.{class_by}
use Rattle.graph_runs.specs.World.{x86, SameBytes}
use Rattle.graph_rules.specs.Rules.{case_of}

-- ---- classes

pub is_ordinary : (c : Class) → class_by c ≡ Ordinary → IsOrdinary c
is_ordinary class.Calculation e = tt
is_ordinary class.Transfer e = tt
is_ordinary class.Division e = tt
is_ordinary class.Jump e = tt
is_ordinary class.Call e = absurd (cc)
is_ordinary class.Return e = absurd (cc)
is_ordinary class.SystemCall e = absurd (cc)
is_ordinary class.Stop e = absurd (cc)

pub is_syscall : (o : Op) → class_by (class_of o) ≡ System → o ≡ op.Syscall
is_syscall op.Syscall e = refl
is_syscall _ e = absurd (cc)

-- ---- names and bytes

pub same_entry : (u : Valuation) (a : ℕ) (o : Option ℕ) (r : ℕ) → (renamed u a o).entry r ≡ u.entry r
same_entry u a None r = refl
same_entry u a (Some n) r = refl

value_below : (u : Valuation) (t : PlainSum) → value u t < 2 ^ 64
value_below u (sum c xs) = mod-lt _ (omega arith)

-- the same bytes, from one on, are the same number
same_from : (old new : ℕ → ℕ) (x j n : ℕ) → ((k : ℕ) → k < j + n → old ((x + k) % 2 ^ 64) ≡ new ((x + k) % 2 ^ 64))
    → loaded new n ((x + j) % 2 ^ 64) ≡ loaded old n ((x + j) % 2 ^ 64)
unfolding loaded
same_from old new x j zero h = refl
same_from old new x j (suc n) h =
    let next : address_plus 1 ((x + j) % 2 ^ 64) ≡ (x + suc j) % 2 ^ 64 = omega arith in
    let rest = same_from old new x (suc j) n (λ k lt. h k (omega (arith, lt))) in
    ap₂ (λ b r. b + 256 * r) (sym (h j (omega arith))) (ap (loaded new n) next ∙ rest ∙ sym (ap (loaded old n) next))

same_number : (old new : ℕ → ℕ) (x n : ℕ) → x < 2 ^ 64 → ((k : ℕ) → k < n → old ((x + k) % 2 ^ 64) ≡ new ((x + k) % 2 ^ 64))
    → loaded new n x ≡ loaded old n x
same_number old new x n low h =
    let at : (x + 0) % 2 ^ 64 ≡ x = omega arith in
    sym (ap (loaded new n) at) ∙ same_from old new x 0 n (λ k lt. h k (omega (arith, lt))) ∙ ap (loaded old n) at

module _ (image : Image) where
  pub renaming : (u : Valuation) (a : ℕ) (o : Option ℕ) → moves.renamed (x86 image) u a o ≡ renamed u a o
  renaming u a None = refl
  renaming u a (Some n) = refl

  pub pairs_hold : (u : Valuation) (ps : List (Region × Region)) → keeps.Apart (x86 image) ps u → PairsHold u ps
  pairs_hold u [] h = tt
  pairs_hold u (p ∷ ps) h =
      let P : Region × Region → Type 0 = λ q. PairHolds u q in
      (All-head P p ps h, pairs_hold u ps (All-tail P p ps h))

  pub same_numbers : (u : Valuation) (m n : ℕ → ℕ) (rs : List Region) → keeps.Kept (x86 image) rs u m n → SameNumbers u m n rs
  same_numbers u m n [] h = tt
  same_numbers u m n (r ∷ rs) h =
      let P : Region → Type 0 = λ q. SameBytes q u m n in
      (same_number m n (value u r.at) r.bytes (value_below u r.at) (All-head P r rs h), same_numbers u m n rs (All-tail P r rs h))

  -- ---- cases

  some_case : (cs : List step_cases.Case) (ds : List (Case Predicate)) (t : State) (u : Valuation) → map case_of cs ≡ ds
      → SomeCase cs t u → theory.SomeCase (x86 image) ds t u
  some_case cs ds t u e k =
      subst (λ ds. theory.SomeCase (x86 image) ds t u) e
      (k.0, case_of k.1, omega (arith, k.2, length-map cs case_of), get_or-map case_of cs k.0 k.1 ∙ ap case_of k.3, k.4)

  pub mapped : (o : Option (List step_cases.Case)) (ds : List (Case Predicate)) (t : State) (u : Valuation)
      → option_map (map case_of) o ≡ Some ds → ((cs : List step_cases.Case) → o ≡ Some cs → SomeCase cs t u)
      → theory.SomeCase (x86 image) ds t u
  mapped None ds t u e k = absurd (cc)
  mapped (Some cs) ds t u e k = let f : map case_of cs ≡ ds = cc in some_case cs ds t u f (k cs refl)

  -- ---- what is given back

  saved_all : (s t : State) → keeps.Saved (x86 image) s t → All (λ r. reg t r ≡ reg s r) saved_registers
  saved_all s t b zero d lt = b.rbx
  saved_all s t b (suc zero) d lt = b.rbp
  saved_all s t b (suc (suc zero)) d lt = b.r12
  saved_all s t b (suc (suc (suc zero))) d lt = b.r13
  saved_all s t b (suc (suc (suc (suc zero)))) d lt = b.r14
  saved_all s t b (suc (suc (suc (suc (suc zero))))) d lt = b.r15
  saved_all s t b (suc (suc (suc (suc (suc (suc k)))))) d lt = absurd (omega (arith, lt))

  pub back_call : (s t : State) → keeps.BackFromCall (x86 image) s t → BackFromCall s t
  back_call s t b = record { stack = b.rsp; saved = saved_all s t b.saved; fs_base = b.saved.fs }

  pub back_syscall : (s t : State) → keeps.BackFromSyscall (x86 image) s t → BackFromSyscall s t
  back_syscall s t b = record { regs = λ r lt rax rcx r11. b.reg r lt rax rcx r11; fs_base = b.fs }
