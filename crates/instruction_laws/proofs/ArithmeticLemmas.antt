-- What is known after arithmetic, comparisons and shifts is true of the state after them.
use Rattle.std.proofs.Common.{◌≡◌, ℕ, ◌^◌, ◌<◌, Bool, true, false, cond, Option, Some, None, refl, sym, ap, subst, ◌∙◌, arith, get_or-set_other}
use Rattle.std.specs.Prelude.{IfSome}
use Rattle.bits_core.specs.declared.flags.Flags.{Flags}
use Rattle.bits_core.specs.declared.width.Width.{Width}
use Rattle.bits_core.specs.declared.width.Width.TheVariants.{W8, W16, W32, W64}
use Rattle.bits_core.specs.declared.operations.Alu.{Alu}
use Rattle.bits_core.specs.declared.operations.Shift.{Shift}
use Rattle.bits_core.specs.Width.{bits_of}
use Rattle.bits_core.specs.LowBits.{cut_of}
use Rattle.sym_terms.specs.Plain.{PlainSum}
use Rattle.sym_terms.specs.Value.{Valuation}
use Rattle.predicates.specs.declared.bound.FlagFact.{FlagFact}
use Rattle.predicates.specs.Predicate.{Predicate}
use Rattle.x86_instr.specs.declared.instr.Operand.{Operand}
use Rattle.x86_instr.specs.declared.instr.Instr.{Instr}
use Rattle.x86_instr.specs.declared.instr.Operand.TheVariants.{Reg}
use Rattle.x86_instr.specs.Registers.{rax, rdx}
use Rattle.std.proofs.lemmas.Bool.{false≢true}
use Rattle.x86_machine.specs.State.{State, IsState, reg, with_reg, with_flags, with_rip}
use Rattle.x86_machine.specs.Access.{read, write}
use Rattle.x86_machine.specs.Moves as machine_moves
use Rattle.x86_machine.specs.Next as step
use Rattle.x86_machine.specs.Next.{passes}
use Rattle.step_rules.specs.View.{View}
use Rattle.step_rules.specs.Terms.{number}
use Rattle.step_rules.specs.Access.{read_term, write_term}
use Rattle.step_rules.specs.Results.{name_result, shift_term}
use Rattle.step_rules.specs.Steps.{with_flags as with_fact, gives, operated, operated_fact, combined, compared, inverted, negated, counted, with_halves, divided, scaled, shifted}
use Rattle.forest_meaning.specs.Holds.{Tells}
use Rattle.predicate_meaning.specs.Sat.{FactHolds, Sat}
use Rattle.value_laws.proofs.MeansLemmas.{means_number, tells_as}
use Rattle.access_laws.proofs.AccessLemmas.{sat_rip, sat_flags, name_fits, writes}
use Rattle.access_laws.proofs.SceneLemmas.{some_same}
use Rattle.value_laws.proofs.ResultLemmas.{tells_alu, tells_negated, tells_inverted, tells_product, tells_shift}
use Rattle.value_laws.proofs.FlagLemmas.{fact_alu, fact_negated, name_taken}
use Rattle.x86_instr.specs.declared.instr.Operand.TheVariants as operand
use Rattle.x86_machine.specs.Steps as machine
use Rattle.value_laws.proofs.Scene.{Scene, Reads, NameFits, OperandNameFits}
use Rattle.instruction_laws.proofs.Moment.{Moment, Leads, range, values, dst_names, first}

pub below_quad : (w : Width) (m : ℕ) → m < 2 ^ bits_of w → m < 2 ^ 64
below_quad W8 m h = omega arith
below_quad W16 m h = omega arith
below_quad W32 m h = omega arith
below_quad W64 m h = h

-- the name of an operand under rip and flags
module _ (i : Instr) (u : Valuation) (s : State) where
  pub name_passes : (r : ℕ) → NameFits i u (passes i s) r → NameFits i u s r
  unfolding reg with_rip
  name_passes r h = h

  pub name_flags : (f : Flags) (r : ℕ) → NameFits i u (passes i (with_flags s f)) r → NameFits i u s r
  unfolding reg with_rip with_flags
  name_flags f r h = h

pub operand_name_fits : (i : Instr) (u : Valuation) (t : State) (o : Operand) → ((r : ℕ) → NameFits i u t r) → OperandNameFits i u t o
operand_name_fits i u t operand.None h = tt
operand_name_fits i u t (operand.Reg r) h = h r
operand_name_fits i u t (operand.High r) h = h r
operand_name_fits i u t (operand.Imm n) h = tt
operand_name_fits i u t (operand.Mem pl) h = tt

module _ {v : View} {i : Instr} {s : State} {u : Valuation} {p : Predicate} (m : Moment v i s u p) where
  -- the name of the first operand, once that was written
  name_written : (n : ℕ) → Scene i s (passes i (write s i.width i.dst n)) u → OperandNameFits i u (write s i.width i.dst n) i.dst
  name_written n scene = operand_name_fits i u _ i.dst (λ r. name_passes i u _ r (name_fits m.ground v i s _ u scene r))

  name_given : (r : ℕ × Flags) → Scene i s (passes i (machine.gives s i r)) u → OperandNameFits i u (write s i.width i.dst r.0) i.dst
  name_given r scene = operand_name_fits i u _ i.dst (λ q. name_flags i u _ r.1 q (name_fits m.ground v i s _ u scene q))

  -- an instruction that writes its first operand
  pub write_holds : (q : Predicate) → Sat q s u → (n : ℕ) (t : Option PlainSum) → Tells u t (cut_of i.width n)
      → Leads m (passes i (write s i.width i.dst n)) (write_term v i q i.width i.dst t)
  write_holds q h n t k scene = sat_rip _ _ _ u (m.operands.written.value q t n h k (name_written n scene))

  -- an instruction that writes its first operand and sets the flags
  pub gives_holds : (r : ℕ × Flags) (t : Option PlainSum) (fact : Option FlagFact) → Tells u t (cut_of i.width r.0)
      → (Tells u (name_result i i.width i.dst) (cut_of i.width r.0) → IfSome fact (λ f. FactHolds r.1 u f))
      → Leads m (passes i (machine.gives s i r)) (gives v i p t fact)
  gives_holds r t fact k facts scene =
      let name = name_given r scene in
      let taken = name_taken m.ground u (range m) i s i.width i.dst r.0 m.state (dst_names m) name in
      sat_rip _ _ _ u (sat_flags _ _ u fact r.1 (facts taken) (m.operands.written.value p t r.0 m.sat k name))

  -- a result that is unknown, and so are the flags
  one_means : Tells u (Some (number 1)) 1
  one_means = means_number u m.ground.normal (values m) 1 (omega arith)

  -- not, neg
  pub inverted_holds : Leads m (passes i (machine.inverted s i)) (inverted v i p)
  inverted_holds = write_holds p m.sat _ _ (tells_inverted m.ground u (range m) i.width _ _ (first m))

  pub negated_holds : Leads m (passes i (machine.negated s i)) (negated v i p)
  negated_holds =
      gives_holds _ _ _ (tells_negated m.ground u (range m) i.width _ _ (first m))
      (λ _. fact_negated m.ground u (range m) i.width _ _ (first m))

  -- inc, dec
  pub counted_holds : (o : Alu) → Leads m (passes i (machine.counted o s i)) (counted o v i p)
  counted_holds o =
      gives_holds _ _ None (tells_alu m.ground u (range m) o i.width _ _ _ 1 false (omega arith) (first m) one_means) (λ _. tt)

  -- imul with two and three operands
  pub scaled_holds : (a b : Option PlainSum) (x y choice : ℕ) → Tells u a x → Tells u b y
      → Leads m (passes i (machine.scaled x y s i choice)) (scaled a b v i p)
  scaled_holds a b x y choice k l = gives_holds _ _ None (tells_product m.ground u (range m) i.width a b x y k l) (λ _. tt)

  module _ (src : Reads v i s u i.width i.src) where
    source : Tells u (read_term v i p i.width i.src) (read s i.width i.src)
    source = src.value p m.sat

    result : (o : Alu) → Tells u (operated o v i p) (cut_of i.width (machine.operated o s i).0)
    result o = tells_alu m.ground u (range m) o i.width _ _ _ _ s.flags.carry (below_quad i.width _ src.fits) (first m) source

    fact : (o : Alu) → Tells u (name_result i i.width i.dst) (cut_of i.width (machine.operated o s i).0)
        → IfSome (operated_fact o v i p) (λ f. FactHolds (machine.operated o s i).1 u f)
    fact o name = fact_alu m.ground u (range m) o i _ _ _ _ _ s.flags.carry (first m) source (result o) name

    -- add, or, adc, sbb, and, sub, xor
    pub combined_holds : (o : Alu) → Leads m (passes i (machine.combined o s i)) (combined o v i p)
    combined_holds o = gives_holds _ _ _ (result o) (fact o)

    -- cmp, test
    pub compared_holds : (o : Alu) → Tells u (name_result i i.width i.dst) (cut_of i.width (machine.operated o s i).0)
        → Leads m (passes i (machine.compared o s i)) (compared o v i p)
    compared_holds o name scene =
        sat_rip _ _ _ u (sat_flags _ _ u _ _ (fact o name) (src.loads _ (m.operands.dst.loads p m.sat)))

  -- mul, imul with one operand, div, idiv: rax and rdx
  other_half : (at : State) (w : Width) (n : ℕ) → reg (write at w (Reg rdx) n) rax ≡ reg at rax
  unfolding write reg with_reg
  other_half at w n = get_or-set_other at.regs rdx rax _ 0 (omega arith)

  lower_written : (n : ℕ) → IsState (write s i.width (Reg rax) n)
  lower_written n = m.ground.ranges.state_write s i.width (Reg rax) n m.state

  pub halves_holds : (n : ℕ × ℕ) (flags : Flags)
      → Leads m (passes i (with_flags (machine.with_halves s i.width n) flags)) (with_fact (with_halves v i p) None)
  halves_holds n flags scene =
      let names : (r : ℕ) → NameFits i u (machine.with_halves s i.width n) r = λ r. name_flags i u _ flags r (name_fits m.ground v i s _ u scene r) in
      let lower = tells_as u _ _ _ (other_half (write s i.width (Reg rax) n.0) i.width n.1) (names rax) in
      let first = (writes v i s u m.state i.width (Reg rax) refl (omega arith)).value p None n.0 m.sat tt lower in
      let both = (writes v i _ u (lower_written n.0) i.width (Reg rdx) refl (omega arith)).value _ None n.1 first tt (names rdx) in
      sat_rip _ _ _ u (sat_flags _ _ u None flags tt both)

  pub divided_holds : (q : Option (ℕ × ℕ)) (choice : ℕ) (t : State) → step.goes_on_if i (machine.divided q s i choice) ≡ Some t
      → Leads m t (divided v i p)
  divided_holds None choice t e scene = absurd (cc)
  divided_holds (Some q) choice t e scene =
      let same = some_same _ _ e in
      subst (λ t. Sat (divided v i p) t u) same (halves_holds q _ (subst (λ t. Scene i s t u) (sym same) scene))

  -- shifts and rotations, where the upper half is cleared or nothing is known of the result
  shifted_by_upper : (b : Bool) (n : ℕ) (flags : Flags) (t : Option PlainSum) → Tells u t (cut_of i.width n) → (b ≡ true → t ≡ None)
      → Leads m (passes i (with_flags (cond b s (write s i.width i.dst n)) flags)) (gives v i p t None)
  shifted_by_upper false n flags t k e scene = gives_holds (n, flags) t None k (λ _. tt) scene
  shifted_by_upper true n flags t k e scene =
      let name = operand_name_fits i u s i.dst (λ q. name_flags i u s flags q (name_fits m.ground v i s _ u scene q)) in
      let stays = m.operands.written.stays p m.sat name in
      sat_rip _ _ _ u (sat_flags _ _ u None flags tt (subst (λ t. Sat (write_term v i p i.width i.dst t) s u) (sym (e refl)) stays))

  -- the low byte of an immediate is the count
  immediate : (n : ℕ) → cut_of W8 (read s W8 (operand.Imm n)) ≡ cut_of W8 n
  unfolding read
  immediate n = refl

  -- nothing is known of a shift by cl, and a shift by a number clears the upper half
  idle_shift : (o : Shift) (choice : ℕ) (count : Operand) (a : Option PlainSum)
      → machine_moves.keeps_upper count i.width (machine_moves.is_idle s i) choice ≡ true → shift_term o i.width a count ≡ None
  unfolding shift_term
  idle_shift o choice operand.None a k = refl
  idle_shift o choice (operand.Reg r) a k = refl
  idle_shift o choice (operand.High r) a k = refl
  idle_shift o choice (operand.Imm n) a k = absurd (false≢true k)
  idle_shift o choice (operand.Mem pl) a k = refl

  pub shifted_holds : (o : Shift) (choice : ℕ) → Leads m (passes i (machine_moves.shifted o s i choice)) (shifted o v i p)
  shifted_holds o choice =
      let dst = m.operands.dst in
      let count : (n : ℕ) → i.src ≡ operand.Imm n → machine_moves.count_of s i ≡ cut_of W8 n = λ n e. ap (λ o. cut_of W8 (read s W8 o)) e ∙ immediate n in
      let known = tells_shift m.ground u (range m) o i.width _ _ _ i.src (below_quad i.width _ dst.fits) (m.ground.cut.same i.width _ dst.fits) (first m) count in
      shifted_by_upper (machine_moves.keeps_upper i.src i.width (machine_moves.is_idle s i) choice) _ _ _ known (idle_shift o choice i.src _)
