-- What the form of an instruction gives, and the step under the valuation with the site's new name.
use Rattle.std.proofs.Common.{◌≡◌, ◌≢◌, ℕ, ◌<◌, Bool, true, false, cond, eqb, Option, Some, None, refl, sym, ap, ◌∙◌}
use Rattle.std.proofs.lemmas.Bool.{eqb-true, eqb-false, false≢true}
use Rattle.std.specs.Prelude.{IfSome}
use Rattle.std.specs.Cmp.{nat_cmp_is}
use Rattle.std.specs.declared.cmp.Ordering.TheVariants.{Equal}
use Rattle.std.specs.Ordering.{is_eq}
use Rattle.bits_core.specs.declared.width.Width.{Width}
use Rattle.sym_terms.specs.declared.kinds.Sym.{Sym}
use Rattle.sym_terms.specs.declared.kinds.Sym.TheVariants.{Entry, Ra, FsBase, Named}
use Rattle.sym_terms.specs.Order.{sym_cmp}
use Rattle.sym_terms.specs.Value.{Valuation, IsInRange, value_of_symbol}
use Rattle.x86_instr.specs.declared.instr.Operand.{Operand}
use Rattle.x86_instr.specs.declared.instr.Instr.{Instr}
use Rattle.x86_instr.specs.Kinds.{Kinds}
use Rattle.x86_instr.specs.Fits.{InForm, IsOperand}
use Rattle.x86_machine.specs.State.{State, IsState}
use Rattle.x86_machine.specs.Access.{NamesRegisters}
use Rattle.x86_machine.specs.Named.{named_value}
use Rattle.value_laws.proofs.Ground.{Ground}
use Rattle.value_laws.proofs.Scene.{Scene, renamed}
use Rattle.access_laws.proofs.RangeLemmas.{range_after}
use Rattle.x86_instr.specs.declared.instr.Operand.TheVariants as operand
use Rattle.x86_machine.specs.Next as step

pub some_same : {A : Type 0} → (x y : A) → Some x ≡ Some y → x ≡ y
some_same x y e = cc

pub names_of : (k : Kinds) (w : Width) (o : Operand) → IsOperand k w o → NamesRegisters o
names_of k w operand.None f = tt
names_of k w (operand.Reg r) f = f.1
names_of k w (operand.High r) f = f.2
names_of k w (operand.Imm n) f = tt
names_of k w (operand.Mem pl) f = record { base = f.1.base; index = index_of pl.index f.1.index }
  where
    index_of : (x : Option ℕ) → IfSome x (λ r. (r < 16) × (r ≢ 4)) → IfSome x (λ r. r < 16)
    index_of None h = tt
    index_of (Some r) h = h.0

-- ---- the valuation with the new name

same_number : (a : ℕ) → eqb a a ≡ true
same_number a = by_test (eqb a a) refl
  where
    by_test : (b : Bool) → eqb a a ≡ b → eqb a a ≡ true
    by_test true e = e
    by_test false e = absurd (eqb-false a a e refl)

is_itself : (a : ℕ) → is_eq (sym_cmp (Named a) (Named a)) ≡ true
is_itself a = ap is_eq (sym (nat_cmp_is a a Equal refl))

other_number : (u : Valuation) (a b n : ℕ) (t : Bool) → eqb b a ≡ t → is_eq (sym_cmp (Named a) (Named b)) ≡ false → cond t n (u.named b) ≡ u.named b
other_number u a b n false e k = refl
other_number u a b n true e k = absurd (false≢true (sym k ∙ ap (λ b. is_eq (sym_cmp (Named a) (Named b))) (eqb-true b a e) ∙ is_itself a))

pub only_name : (u : Valuation) (a : ℕ) (n : Option ℕ) (t : Sym) → is_eq (sym_cmp (Named a) t) ≡ false → value_of_symbol (renamed u a n) t ≡ value_of_symbol u t
only_name u a None t k = refl
only_name u a (Some n) (Entry r) k = refl
only_name u a (Some n) Ra k = refl
only_name u a (Some n) FsBase k = refl
only_name u a (Some n) (Named b) k = other_number u a b n (eqb b a) refl k

pub new_name : (u : Valuation) (a : ℕ) (n : Option ℕ) → IfSome n (λ m. (renamed u a n).named a ≡ m)
new_name u a None = tt
new_name u a (Some m) = ap (λ t. cond t m (u.named a)) (same_number a)

pub same_fs : (u : Valuation) (a : ℕ) (n : Option ℕ) → (renamed u a n).fs ≡ u.fs
same_fs u a None = refl
same_fs u a (Some n) = refl

-- the step under the valuation with the new name
pub scene_after : (g : Ground) (i : Instr) (s t : State) (u : Valuation) (choice : ℕ) → IsState s → InForm i → IsInRange u
    → step.next s i choice ≡ Some t → Scene i s t (renamed u i.addr (named_value s i t))
scene_after g i s t u choice is form range n =
    let it : IsState t = g.states s t i choice is form n in
    record {
      before = is;
      after = it;
      form = form;
      range = range_after s is i t u form it range;
      named = new_name u i.addr (named_value s i t);
    }
