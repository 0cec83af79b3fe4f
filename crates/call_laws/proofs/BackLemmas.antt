-- What is known after a call or a syscall is true.
use Rattle.std.proofs.Common.{◌≡◌, ◌≢◌, ℕ, ◌^◌, ◌<◌, inl, inr, Bool, true, false, ◌||◌, eqb, Some, None, List, [], ◌∷◌, get_or, set, refl, sym, ap, subst, ◌∙◌, get_or-set_other}
use Rattle.std.proofs.lemmas.Bool.{cases_eq, eqb-true}
use Rattle.std.specs.Prelude.{All}
use Rattle.std.specs.List.{list_any}
use Rattle.sym_terms.specs.Value.{Valuation, IsInRange}
use Rattle.predicates.specs.Predicate.{Predicate}
use Rattle.x86_instr.specs.declared.class.Class.{Class}
use Rattle.x86_instr.specs.declared.class.Class.TheVariants as class
use Rattle.x86_instr.specs.declared.instr.Instr.{Instr}
use Rattle.x86_instr.specs.Classes.{class_of}
use Rattle.x86_instr.specs.Fits.{InForm}
use Rattle.x86_machine.specs.Moves.{below_top}
use Rattle.x86_machine.specs.Next.{next_address}
use Rattle.x86_machine.specs.State.{State, IsState, reg, with_bytes}
use Rattle.x86_instr.specs.Registers.{rax}
use Rattle.forest_meaning.specs.Holds.{Holds, Tells}
use Rattle.forest_laws.specs.Laws.{ClearLaw, SameNumbers}
use Rattle.step_rules.specs.View.{View}
use Rattle.step_rules.specs.Names.{name, name_term}
use Rattle.step_rules.specs.Drop.{dropped}
use Rattle.predicate_meaning.specs.Sat.{register, BoundHolds, Sat}
use Rattle.step_rules.specs.Access.{with_register}
use Rattle.step_rules.specs.Steps.{with_flags as with_fact}
use Rattle.step_rules.specs.Calls.{begin, changed_by, cleared, with_kept, came_back, begun, after}
use Rattle.value_laws.proofs.Ground.{Ground}
use Rattle.value_laws.proofs.Scene.{with_name}
use Rattle.value_laws.proofs.MeansLemmas.{tells_as, means_as, means_symbol}
use Rattle.access_laws.proofs.DropLemmas.{sat_without}
use Rattle.access_laws.proofs.AccessLemmas.{set_here, sat_term, reg_below}
use Rattle.access_laws.proofs.RangeLemmas.{renamed_range}
use Rattle.access_laws.proofs.SceneLemmas.{only_name, new_name}

some_is : {A : Type 0} → (x y : A) → Some x ≡ Some y → x ≡ y
some_is x y e = cc

-- ---- registers that are no longer known

different : (x r : ℕ) → x ≢ r → (b : Bool) → eqb x r ≡ b → eqb x r ≡ false
different x r ne true e = absurd (ne (eqb-true x r e))
different x r ne false e = e

one_cleared : (u : Valuation) (n : ℕ → ℕ) (x : ℕ) (rs : List ℕ) (q : Predicate) → ((r : ℕ) → list_any (λ y. eqb y r) (x ∷ rs) ≡ false → Tells u (register q r) (n r))
    → (r : ℕ) → list_any (λ y. eqb y r) rs ≡ false → Tells u (register (with_register q x None) r) (n r)
unfolding register with_register
one_cleared u n x rs q k r e = elim (cases_eq x r) as (λ _. Tells u (get_or (set q.regs x None) r None) (n r)) [
  | inl same ↦ subst (λ y. Tells u (get_or (set q.regs x None) y None) (n r)) same (set_here u q.regs x None (n r) tt)
  | inr ne ↦ subst (λ t. Tells u t (n r)) (sym (get_or-set_other q.regs x r None None (λ f. ne (sym f))))
      (k r (ap (λ b. b || list_any (λ y. eqb y r) rs) (different x r ne _ refl) ∙ e))
]

cleared_register : (u : Valuation) (n : ℕ → ℕ) (rs : List ℕ) (q : Predicate)
    → ((r : ℕ) → list_any (λ x. eqb x r) rs ≡ false → Tells u (register q r) (n r)) → (r : ℕ) → Tells u (register (cleared rs q) r) (n r)
cleared_register u n [] q k r = k r refl
cleared_register u n (x ∷ rs) q k r = cleared_register u n rs (with_register q x None) (one_cleared u n x rs q k) r

cleared_bounds : (rs : List ℕ) (q : Predicate) → (cleared rs q).bounds ≡ q.bounds
unfolding with_register
cleared_bounds [] q = refl
cleared_bounds (x ∷ rs) q = cleared_bounds rs (with_register q x None)

cleared_forest : (rs : List ℕ) (q : Predicate) → (cleared rs q).forest ≡ q.forest
unfolding with_register
cleared_forest [] q = refl
cleared_forest (x ∷ rs) q = cleared_forest rs (with_register q x None)

-- ---- what is known after the return, under the name's old value

-- the state when the callee begins, rip and rsp apart: a call has pushed the next address
abbrev pub began_by : Class → State → Instr → State
began_by class.Call s i = with_bytes s 8 (below_top s) (next_address i)
began_by _ s i = s

-- whether a register may be changed when an instruction of the class is done
abbrev pub is_changed : Class → ℕ → Bool
is_changed c r = list_any (λ q. eqb q r) (changed_by c)

began_register : (c : Class) (s : State) (i : Instr) (r : ℕ) → reg (began_by c s i) r ≡ reg s r
unfolding reg with_bytes
began_register class.Call s i r = refl
began_register _ s i r = refl

began_base : (c : Class) (s : State) (i : Instr) → (began_by c s i).fs_base ≡ s.fs_base
unfolding with_bytes
began_base class.Call s i = refl
began_base _ s i = refl

back_holds : ClearLaw → (v : View) (i : Instr) (q : Predicate) (s t : State) (u : Valuation) → Sat q (began_by (class_of i.op) s i) u
    → SameNumbers u (began_by (class_of i.op) s i).memory t.memory v.keeps → ((r : ℕ) → is_changed (class_of i.op) r ≡ false → reg t r ≡ reg s r) → t.fs_base ≡ s.fs_base
    → Sat (with_fact (with_kept v (cleared (changed_by (class_of i.op)) q)) None) t u
unfolding with_fact register
back_holds clear v i q s t u h same kept base = record {
  range = h.range;
  fs_base = base ∙ sym (began_base (class_of i.op) s i) ∙ h.fs_base;
  registers = cleared_register u (reg t) (changed_by (class_of i.op)) q (λ r e. tells_as u (register q r) _ _ (began_register (class_of i.op) s i r ∙ sym (kept r e)) (h.registers r));
  flags = tt;
  bounds = subst (λ bs. All (λ b. BoundHolds u b) bs) (sym (cleared_bounds (changed_by (class_of i.op)) q)) h.bounds;
  forest = clear u (began_by (class_of i.op) s i).memory t.memory v.keeps same (cleared (changed_by (class_of i.op)) q).forest
      (subst (λ f. Holds (began_by (class_of i.op) s i).memory u f) (sym (cleared_forest (changed_by (class_of i.op)) q)) h.forest);
}

-- after a call or a system call, with its name at the returned value
pub after_holds : (g : Ground) (v : View) (i : Instr) (p : Predicate) (s t : State) (u : Valuation) → IsState t → InForm i → Sat p s u
    → ((q : Predicate) → Sat q s u → Sat (begun (class_of i.op) v i q) (began_by (class_of i.op) s i) u)
    → SameNumbers u (began_by (class_of i.op) s i).memory t.memory v.keeps
    → ((r : ℕ) → is_changed (class_of i.op) r ≡ false → reg t r ≡ reg s r) → t.fs_base ≡ s.fs_base
    → Sat (after v i p) t (with_name u i.addr (reg t rax))
after_holds g v i p s t u it form h begins same kept base =
    let n = reg t rax in
    let w = with_name u i.addr n in
    let small : n < 2 ^ 64 = reg_below t rax it in
    let before : Sat (dropped i p) s u = sat_without g.mentioned (name i) u u (λ y e. refl) g.forest.forget h.range refl p s h in
    let back : Sat (came_back v i p) t u = back_holds g.forest.clear v i (begin v i p) s t u (begins (dropped i p) before) same kept base in
    let range : IsInRange w = renamed_range t it u i.addr (Some n) small h.range in
    let renamed_back : Sat (dropped i (came_back v i p)) t w = sat_without g.mentioned (name i) u w (only_name u i.addr (Some n)) g.forest.forget range refl (came_back v i p) t back in
    sat_term _ t w rax (Some (name_term i))
    (means_as w (name_term i) _ n (new_name u i.addr (Some n)) (means_symbol w g.normal (g.values w range) (name i) form.addr)) renamed_back
