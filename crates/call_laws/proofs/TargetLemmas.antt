-- A call goes to the constant that its target is.
use Rattle.std.proofs.Common.{◌≡◌, ℕ, ◌^◌, ◌<◌, Option, Some, None, refl, sym, ap, subst, ◌∙◌, arith}
use Rattle.std.proofs.Math.Nat.{mod-lt}
use Rattle.std.specs.Prelude.{IsTrue}
use Rattle.std.specs.Option.{option_or, option_and_then}
use Rattle.bits_core.specs.declared.width.Width.{Width}
use Rattle.bits_core.specs.declared.width.Width.TheVariants.{W8, W16, W32, W64}
use Rattle.elf_image.specs.Image.{IsImage}
use Rattle.sym_terms.specs.Plain.{PlainSum, constant_alone}
use Rattle.sym_terms.specs.Value.{Valuation, IsInRange}
use Rattle.predicates.specs.Predicate.{Predicate}
use Rattle.x86_instr.specs.declared.instr.Place.{Place}
use Rattle.x86_instr.specs.declared.instr.Operand.{Operand}
use Rattle.x86_instr.specs.declared.instr.Instr.{Instr}
use Rattle.x86_instr.specs.Classes.{class_of}
use Rattle.x86_instr.specs.Fits.{InForm, IsOperand}
use Rattle.x86_instr.specs.Kinds.{Kinds, dst_kinds, has_width, widths_of, quad_only}
use Rattle.x86_machine.specs.State.{State, IsState, reg, with_rip}
use Rattle.x86_machine.specs.Access.{address, read}
use Rattle.x86_machine.specs.Named.{names_by}
use Rattle.value_laws.proofs.Ground.{ForestLaws, Ground}
use Rattle.step_rules.specs.View.{View}
use Rattle.step_rules.specs.Names.{name, name_term, if_stored}
use Rattle.step_rules.specs.Drop.{dropped}
use Rattle.predicate_meaning.specs.Sat.{register, Sat}
use Rattle.step_rules.specs.Access.{address_term, store_term, known_term}
use Rattle.step_rules.specs.Calls.{target_by}
use Rattle.forest_meaning.specs.Holds.{Tells}
use Rattle.value_laws.proofs.MeansLemmas.{tells_or, tells_cut, means_number}
use Rattle.access_laws.proofs.DropLemmas.{sat_without}
use Rattle.access_laws.proofs.SceneLemmas.{some_same}
use Rattle.forest_meaning.specs.Assumed.{Loaded}
use Rattle.call_laws.specs.Target.{TargetLaw}
use Rattle.access_laws.proofs.ReadLemmas.{address_tells, bytes_tell}
use Rattle.x86_instr.specs.declared.instr.Op.TheVariants as op
use Rattle.x86_instr.specs.declared.instr.Operand.TheVariants as operand
use Rattle.x86_machine.specs.Moves as machine_moves
use Rattle.x86_machine.specs.Next as step

module _ (g : Ground) (forest : ForestLaws) (v : View) (i : Instr) (p : Predicate) (s : State) (u : Valuation) (is : IsState s) (form : InForm i) (range : IsInRange u) (formed : IsImage v.known.image) (image : Loaded v.known.image s.memory) (h : Sat p s u) (e : i.op ≡ op.Call) where
  address_low : (pl : Place) → address s pl < 2 ^ 64
  unfolding address
  address_low pl = mod-lt _ (omega arith)

  at_tells : (pl : Place) → pl.disp < 2 ^ 64 → Tells u (store_term i p pl) (address s pl)
  at_tells pl small = subst (λ o. Tells u (option_or (address_term p pl) o) (address s pl)) (sym (ap (λ o. if_stored (names_by o i) (name_term i)) e)) (tells_or u (address_term p pl) None _ (address_tells g u range p s h pl small) tt)

  known_place : (pl : Place) → pl.disp < 2 ^ 64 → Tells u (known_term v i p W64 (operand.Mem pl)) (read s W64 (operand.Mem pl))
  unfolding known_term read
  known_place pl small = bytes_tell g forest v s u is range formed image p W64 (store_term i p pl) (address s pl) (address_low pl) (at_tells pl small) h

  known_any : (k : Kinds) (o : Operand) → IsOperand k W64 o → Tells u (known_term v i p W64 o) (read s W64 o)
  unfolding known_term read
  known_any k operand.None f = tt
  known_any k (operand.Reg r) f = tells_cut u g.normal (g.values u range) W64 (register p r) (reg s r) (h.registers r)
  known_any k (operand.High r) f = absurd (wide f.1)
    where
      wide : W64 ≡ W8 → ⊥
      wide e = cc
  known_any k (operand.Imm n) f = means_number u g.normal (g.values u range) n f.1
  known_any k (operand.Mem pl) f = known_place pl f.1.disp

  target_number : (o : Option PlainSum) (n c : ℕ) → Tells u o n → option_and_then constant_alone o ≡ Some c → n ≡ c
  target_number None n c k e = absurd (cc)
  target_number (Some a) n c k e = sym k.value ∙ (g.values u range).known a c k.normal e

quad : (w : Width) → IsTrue (has_width quad_only w) → w ≡ W64
quad W8 h = absurd (cc)
quad W16 h = absurd (cc)
quad W32 h = absurd (cc)
quad W64 h = refl

rip_after : (s : State) (at : ℕ) → (with_rip s at).rip ≡ at
unfolding with_rip
rip_after s at = refl

pub target_law : Ground → TargetLaw
target_law g v i p s t u choice target e is form formed image h k n =
    let held : Sat (dropped i p) s u = sat_without g.mentioned (name i) u u (λ x e. refl) g.forest.forget h.range refl p s h in
    let wide : i.width ≡ W64 = quad i.width (subst (λ o. IsTrue (has_width (widths_of o) i.width)) e form.width) in
    let tells = known_any g g.forest v i (dropped i p) s u is form h.range formed image held e (dst_kinds i.op) i.dst (subst (λ w. IsOperand (dst_kinds i.op) w i.dst) wide form.dst) in
    let next : Some (with_rip (machine_moves.pushed s (step.next_address i)) (read s W64 i.dst)) ≡ Some t = subst (λ o. step.next_by o s i choice ≡ Some t) e n in
    ap (λ t. t.rip) (sym (some_same _ _ next)) ∙ rip_after (machine_moves.pushed s (step.next_address i)) (read s W64 i.dst)
    ∙ target_number g g.forest v i (dropped i p) s u is form h.range formed image held e _ _ target tells (subst (λ o. target_by (class_of o) v i (dropped i p) ≡ Some target) e k)
