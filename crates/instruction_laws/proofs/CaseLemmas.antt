-- Where an instruction leads is one of its cases, and what is known there is true.
use Rattle.x86_instr.specs.Classes.{class_of, GoesOn}
use Rattle.std.proofs.Common.{◌≡◌, ℕ, Bool, true, false, cond, Option, Some, None, List, [], ◌∷◌, refl, sym, ap, subst, ◌∙◌, arith, map}
use Rattle.std.proofs.lemmas.List.{length-map}
use Rattle.std.proofs.Math.ListN.{get_or-map}
use Rattle.std.proofs.lemmas.Bool.{cond_both}
use Rattle.std.specs.Prelude.{IfSome, IsTrue}
use Rattle.std.specs.List.{Contains}
use Rattle.std.specs.Option.{option_map, option_or}
use Rattle.bits_core.specs.declared.width.Width.{Width}
use Rattle.bits_core.specs.declared.width.Width.TheVariants.{W64}
use Rattle.sym_terms.specs.Plain.{PlainSum, constant_alone}
use Rattle.sym_terms.specs.Value.{Valuation}
use Rattle.predicates.specs.Predicate.{Predicate}
use Rattle.x86_instr.specs.declared.instr.Op.{Op}
use Rattle.x86_instr.specs.declared.instr.Operand.{Operand}
use Rattle.x86_instr.specs.declared.instr.Instr.{Instr}
use Rattle.x86_machine.specs.State.{State, with_rip}
use Rattle.elf_image.specs.Image.{is_code_at}
use Rattle.memory_regions.specs.declared.region.Region.{Region}
use Rattle.step_rules.specs.View.{View}
use Rattle.step_rules.specs.Names.{name, name_term}
use Rattle.step_rules.specs.Access.{address_term_of}
use Rattle.step_rules.specs.Bounds.{where_holds, opposite_of}
use Rattle.step_rules.specs.Tables.{loaded_values}
use Rattle.step_rules.specs.Cases.{Case, case, jump_cases, goes_on, direct, jumps, jumped, jump_targets, constant_target}
use Rattle.forest_meaning.specs.Holds.{Means, Tells}
use Rattle.predicate_meaning.specs.Sat.{Sat}
use Rattle.value_laws.proofs.MeansLemmas.{means_as, means_symbol}
use Rattle.access_laws.proofs.AccessLemmas.{sat_rip}
use Rattle.value_laws.proofs.BoundLemmas.{sat_where, opposite_holds}
use Rattle.value_laws.proofs.TableLemmas.{targets_tell}
use Rattle.x86_instr.specs.declared.instr.Op.TheVariants as op
use Rattle.x86_instr.specs.declared.instr.Operand.TheVariants as operand
use Rattle.x86_machine.specs.Moves as machine
use Rattle.x86_machine.specs.Next as step
use Rattle.x86_instr.specs.Kinds.{an_immediate, dst_kinds, has_width, widths_of, quad_only}
use Rattle.x86_instr.specs.Fits.{IsOperand}
use Rattle.x86_machine.specs.Access.{read}
use Rattle.step_rules.specs.Executed.{executed}
use Rattle.value_laws.proofs.Scene.{Scene, Reads}
use Rattle.access_laws.proofs.SceneLemmas.{some_same}
use Rattle.instruction_laws.specs.StepLaw.{SomeCase}
use Rattle.instruction_laws.proofs.Moment.{Moment, range, values}
use Rattle.instruction_laws.proofs.MoveLemmas.{quad_width, name_bound}
use Rattle.instruction_laws.proofs.ExecutedLemmas.{executed_holds}

one_case : (c : Case) (t : State) (u : Valuation) → c.address ≡ t.rip → Sat c.pred t u → SomeCase (c ∷ []) t u
one_case c t u e h = (0, c, omega arith, refl, (e, h))

some_at : (ns : List ℕ) (n : ℕ) (q : Predicate) (t : State) (u : Valuation) → Contains ns n → n ≡ t.rip → Sat q t u → SomeCase (map (λ a. case a q) ns) t u
some_at ns n q t u k e h =
    (k.0, case n q, omega (arith, k.1, length-map ns (λ a. case a q)), get_or-map (λ a. case a q) ns k.0 n ∙ ap (λ a. case a q) k.2, (e, h))

at_targets : (ts : Option (List ℕ)) (n : ℕ) (q : Predicate) (cs : List Case) (t : State) (u : Valuation) → IfSome ts (λ ns. Contains ns n)
    → option_map (map (λ a. case a q)) ts ≡ Some cs → n ≡ t.rip → Sat q t u → SomeCase cs t u
at_targets None n q cs t u k e r h = absurd (cc)
at_targets (Some ns) n q cs t u k e r h = subst (λ cs. SomeCase cs t u) (some_same _ _ e) (some_at ns n q t u k r h)

rip_passes : (i : Instr) (s : State) → step.next_address i ≡ (step.passes i s).rip
unfolding with_rip
rip_passes i s = refl

-- an instruction that goes on at the next one: where a pair is told apart, the last case holds in any event
beside : (v : View) (i : Instr) (p : Predicate) (f : Option (Region × Region)) (t : State) (u : Valuation) → step.next_address i ≡ t.rip → Sat (executed i.op v i p) t u
    → SomeCase (goes_on v i p f) t u
beside v i p None t u e h = one_case _ t u e h
beside v i p (Some pair) t u e h = (2, case (step.next_address i) (executed i.op v i p), omega arith, refl, (e, h))

module _ {v : View} {i : Instr} {s : State} {u : Valuation} {p : Predicate} (m : Moment v i s u p) where
  direct_read : (w : Width) (o : Operand) → IsOperand an_immediate w o → direct o ≡ read s W64 o
  unfolding read
  direct_read w operand.None f = absurd (cc)
  direct_read w (operand.Reg r) f = absurd (cc)
  direct_read w (operand.High r) f = absurd (cc)
  direct_read w (operand.Imm n) f = refl
  direct_read w (operand.Mem pl) f = absurd (cc)

  rip_of : (at : ℕ) → (with_rip s at).rip ≡ at
  unfolding with_rip
  rip_of at = refl

  -- a conditional jump
  abbrev both_cases : List Case
  both_cases = case (direct i.dst) (where_holds i.cc p) ∷ case (step.next_address i) (where_holds (opposite_of i.cc) p) ∷ []

  conditional : (b : Bool) → machine.holds s i ≡ b → direct i.dst ≡ read s W64 i.dst
      → SomeCase (case (direct i.dst) (where_holds i.cc p) ∷ case (step.next_address i) (where_holds (opposite_of i.cc) p) ∷ []) (with_rip s (cond b (read s W64 i.dst) (step.next_address i))) u
  conditional true e d = (0, case (direct i.dst) (where_holds i.cc p), omega arith, refl, (d ∙ sym (rip_of _), sat_rip _ s _ u (sat_where m.ground u (range m) i.cc p s e m.sat)))
  conditional false e d = (1, case (step.next_address i) (where_holds (opposite_of i.cc) p), omega arith, refl, (sym (rip_of _), sat_rip _ s _ u (sat_where m.ground u (range m) (opposite_of i.cc) p s (opposite_holds i.cc s.flags e) m.sat)))

  conditional_case : (t : State) (cs : List Case) → direct i.dst ≡ read s W64 i.dst → step.next_by op.Jcc s i 0 ≡ Some t → jump_cases op.Jcc v i p ≡ Some cs → SomeCase cs t u
  conditional_case t cs d e c =
      subst (λ cs. SomeCase cs t u) (some_same _ _ c) (subst (λ t. SomeCase both_cases t u) (some_same _ _ e) (conditional (machine.holds s i) refl d))

  -- an indirect jump
  constant_holds : (t : PlainSum) (n : ℕ) (c : Option ℕ) → constant_alone t ≡ c → Means u t n → IfSome (constant_target v c) (λ ns. Contains ns n)
  constant_holds t n None e k = tt
  constant_holds t n (Some c) e k =
      let is_it : c ≡ n = sym ((values m).known t c k.normal e) ∙ k.value in
      cond_both (is_code_at v.known.image c) (Some (c ∷ [])) None (λ o. IfSome o (λ ns. Contains ns n)) (λ _. (0, omega arith, is_it)) (λ _. tt)

  either_target : (a b : Option (List ℕ)) (n : ℕ) → IfSome a (λ ns. Contains ns n) → IfSome b (λ ns. Contains ns n) → IfSome (option_or a b) (λ ns. Contains ns n)
  either_target None b n k l = l
  either_target (Some a) b n k l = k

  targets_hold : (q : Predicate) (t : Option PlainSum) (n : ℕ) → Sat q s u → Tells u t n → IfSome (jump_targets v q t) (λ ns. Contains ns n)
  targets_hold q None n k j = tt
  targets_hold q (Some t) n k j =
      either_target _ _ n (constant_holds t n (constant_alone t) refl j) (targets_tell m.ground u (range m) v.known.image t n j q.bounds k.bounds)

  jumped_case : (values : Option (List ℕ)) (q : Predicate) (a : Option PlainSum) (n : ℕ) (cs : List Case)
      → IfSome values (λ ns. Contains ns (u.named i.addr) × (u.named i.addr ≡ n)) → Sat q s u → Tells u a n
      → jumped v i q values a ≡ Some cs → SomeCase cs (with_rip s n) u
  jumped_case None q a n cs k j r e = at_targets (jump_targets v q a) n q cs _ u (targets_hold q a n j r) e (sym (rip_of n)) (sat_rip q s n u j)
  jumped_case (Some ns) q a n cs k j r e =
      let bounded = name_bound m ns k.0 q j in
      let named = means_as u _ _ _ k.1 (means_symbol u m.ground.normal (values m) (name i) m.form.addr) in
      at_targets _ n _ cs _ u (targets_hold _ (Some (name_term i)) n bounded named) e (sym (rip_of n)) (sat_rip _ s n u bounded)

  direct_case : (n : ℕ) (cs : List Case) → Some (case n p ∷ []) ≡ Some cs → SomeCase cs (with_rip s (read s W64 (operand.Imm n))) u
  unfolding read
  direct_case n cs e = subst (λ cs. SomeCase cs (with_rip s n) u) (some_same _ _ e) (one_case _ _ u (sym (rip_of n)) (sat_rip p s n u m.sat))

  jumps_case : (o : Operand) (cs : List Case) → Reads v i s u W64 o → IfSome (loaded_values v p W64 false (address_term_of p o)) (λ ns. Contains ns (u.named i.addr) × (u.named i.addr ≡ read s W64 o))
      → jumps v i p o ≡ Some cs → SomeCase cs (with_rip s (read s W64 o)) u
  jumps_case (operand.Imm n) cs r k e = direct_case n cs e
  jumps_case operand.None cs r k e = jumped_case _ _ _ _ cs k (r.loads p m.sat) (r.value p m.sat) e
  jumps_case (operand.Reg n) cs r k e = jumped_case _ _ _ _ cs k (r.loads p m.sat) (r.value p m.sat) e
  jumps_case (operand.High n) cs r k e = jumped_case _ _ _ _ cs k (r.loads p m.sat) (r.value p m.sat) e
  jumps_case (operand.Mem pl) cs r k e = jumped_case _ _ _ _ cs k (r.loads p m.sat) (r.value p m.sat) e

  -- an instruction that goes on
  pub on_case : (choice : ℕ) (t : State) (cs : List Case) → GoesOn (class_of i.op) → Scene i s t u → step.next s i choice ≡ Some t
      → Some (goes_on v i p v.fork) ≡ Some cs → SomeCase cs t u
  on_case choice t cs on scene n k =
      let at = sym (m.ground.places s t i choice on n) in
      subst (λ cs. SomeCase cs t u) (some_same _ _ k) (beside v i p v.fork t u at (executed_holds m i.op refl choice t on n scene))

  width_64 : (o : Op) → i.op ≡ o → widths_of o ≡ quad_only → i.width ≡ W64
  width_64 o e q = quad_width i.width (subst (λ ws. IsTrue (has_width ws i.width)) (ap widths_of e ∙ q) m.form.width)

  -- a jump
  pub jump_case : (o : Op) → i.op ≡ o → (choice : ℕ) (t : State) (cs : List Case) → step.next_by o s i choice ≡ Some t
      → jump_cases o v i p ≡ Some cs → SomeCase cs t u
  jump_case op.Jcc e choice t cs n k =
      conditional_case t cs (direct_read i.width i.dst (subst (λ o. IsOperand (dst_kinds o) i.width i.dst) e m.form.dst)) n k
  jump_case op.Jmp e choice t cs n k =
      subst (λ t. SomeCase cs t u) (some_same _ _ n)
      (jumps_case i.dst cs (subst (λ w. Reads v i s u w i.dst) (width_64 op.Jmp e refl) m.operands.dst) (m.tables.jump e p m.sat) k)
  jump_case o e choice t cs n k = absurd (cc)
