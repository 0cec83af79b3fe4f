-- The name of a site is true of the value that the instruction loads, and of the address at which it stores.
use Rattle.std.proofs.Common.{◌≡◌, ℕ, ◌<◌, ◌≤◌, Bool, true, false, cond, Some, None, refl, ap, subst, ◌∙◌, arith, get_or-set_same}
use Rattle.std.specs.Prelude.{IfSome, IsTrue}
use Rattle.bits_core.specs.declared.width.Width.{Width}
use Rattle.bits_core.specs.declared.width.Width.TheVariants.{W8, W16, W32, W64}
use Rattle.bits_core.specs.Width.{bits_of}
use Rattle.bits_core.specs.LowBits.{cut_of}
use Rattle.sym_terms.specs.Value.{Valuation}
use Rattle.x86_instr.specs.declared.instr.Op.{Op}
use Rattle.x86_instr.specs.declared.instr.Operand.{Operand}
use Rattle.x86_instr.specs.declared.instr.Instr.{Instr}
use Rattle.x86_instr.specs.Fits.{is_extended}
use Rattle.x86_instr.specs.Kinds.{has_width, widths_of}
use Rattle.x86_machine.specs.State.{State, IsState, reg, with_reg, with_rip}
use Rattle.x86_machine.specs.Access.{NamesRegisters, write, merged}
use Rattle.x86_machine.specs.Named.{Name, Loaded as LoadedName, Register, Stored, Nothing, names, names_by, written, value_of, store_address}
use Rattle.x86_machine.specs.Next.{passes}
use Rattle.step_rules.specs.Terms.{zeros_term}
use Rattle.step_rules.specs.Names.{name, name_term, load_name, names_load, store_name, if_stored, is_low_register}
use Rattle.forest_meaning.specs.Holds.{Means, Tells}
use Rattle.value_laws.proofs.Ground.{Ground}
use Rattle.value_laws.proofs.Scene.{Scene}
use Rattle.value_laws.proofs.MeansLemmas.{means_as, means_symbol, means_zeros}
use Rattle.x86_instr.specs.declared.instr.Op.TheVariants as op
use Rattle.x86_instr.specs.declared.instr.Operand.TheVariants as operand

-- ---- what the register of a load holds

pub cut_merged : (v w : Width) (old x : ℕ) → bits_of v ≤ bits_of w → cut_of v (merged w old x) ≡ cut_of v x
unfolding merged
cut_merged W8 W8 old x h = omega arith
cut_merged W8 W16 old x h = omega arith
cut_merged W8 W32 old x h = omega arith
cut_merged W8 W64 old x h = omega arith
cut_merged W16 W8 old x h = absurd (omega arith)
cut_merged W16 W16 old x h = omega arith
cut_merged W16 W32 old x h = omega arith
cut_merged W16 W64 old x h = omega arith
cut_merged W32 W8 old x h = absurd (omega arith)
cut_merged W32 W16 old x h = absurd (omega arith)
cut_merged W32 W32 old x h = omega arith
cut_merged W32 W64 old x h = omega arith
cut_merged W64 W8 old x h = absurd (omega arith)
cut_merged W64 W16 old x h = absurd (omega arith)
cut_merged W64 W32 old x h = absurd (omega arith)
cut_merged W64 W64 old x h = omega arith

module _ (i : Instr) (s : State) (is : IsState s) where
  pub register_written : (w : Width) (r n : ℕ) → r < 16 → reg (passes i (write s w (operand.Reg r) n)) r ≡ merged w (reg s r) n
  unfolding reg with_rip with_reg write
  register_written w r n lt = get_or-set_same s.regs r _ 0 (omega (arith, is.count))

  -- the low bits of the register that gets a number are the number's, and so are those of the name
  pub named_register : (u : Valuation) (t : State) (o : Operand) (v w : Width) (n : ℕ) → NamesRegisters o → bits_of v ≤ bits_of w
      → IfSome (value_of (written o) t i (passes i (write s w o n))) (λ k. u.named i.addr ≡ k) → is_low_register o ≡ true → cut_of v (u.named i.addr) ≡ cut_of v n
  named_register u t (operand.Reg r) v w n lt wide h b = ap (cut_of v) (h ∙ register_written w r n lt) ∙ cut_merged v w (reg s r) n wide
  named_register u t (operand.High r) v w n lt wide h b = absurd (cc)
  named_register u t (operand.Mem pl) v w n lt wide h b = absurd (cc)
  named_register u t operand.None v w n lt wide h b = absurd (cc)
  named_register u t (operand.Imm k) v w n lt wide h b = absurd (cc)

-- movsx extends no more bits than it writes
pub extends : (w v : Width) → IsTrue (has_width (widths_of op.Movsx) w) → IsTrue (is_extended w v) → bits_of v ≤ bits_of w
extends W8 v h k = absurd (cc)
extends W16 W8 h k = omega arith
extends W16 W16 h k = omega arith
extends W16 W32 h k = absurd (cc)
extends W16 W64 h k = absurd (cc)
extends W32 W8 h k = omega arith
extends W32 W16 h k = omega arith
extends W32 W32 h k = absurd (cc)
extends W32 W64 h k = absurd (cc)
extends W64 W8 h k = omega arith
extends W64 W16 h k = omega arith
extends W64 W32 h k = omega arith
extends W64 W64 h k = absurd (cc)

-- ---- the name in the rules

module _ (g : Ground) (i : Instr) (s t : State) (u : Valuation) (scene : Scene i s t u) where
  pub name_means : (n : ℕ) → u.named i.addr ≡ n → Means u (name_term i) n
  name_means n h = means_as u _ _ n h (means_symbol u g.normal (g.values u scene.range) (name i) scene.form.addr)

  load_if : (b : Bool) (w : Width) (n : ℕ) → (b ≡ true → cut_of w (u.named i.addr) ≡ n) → Tells u (cond b (Some (zeros_term w (name_term i))) None) n
  load_if false w n h = tt
  load_if true w n h = means_as u _ _ n (h refl) (means_zeros u g.normal (g.values u scene.range) w (name_term i) _ (name_means _ refl))

  -- the loaded value is the low bits of the name
  pub load_tells : (w : Width) (n : ℕ) → (names_load i.op i ≡ true → cut_of w (u.named i.addr) ≡ n) → Tells u (load_name i w) n
  load_tells w n h = load_if (names_load i.op i) w n h

  pub store_by : (n : Name) (x : ℕ) → store_address s i ≡ x → IfSome (value_of n s i t) (λ k. u.named i.addr ≡ k) → Tells u (if_stored n (name_term i)) x
  store_by Stored x e h = name_means x (h ∙ e)
  store_by LoadedName x e h = tt
  store_by (Register r) x e h = tt
  store_by Nothing x e h = tt

  -- the address of the store is the name
  pub store_tells : (x : ℕ) → store_address s i ≡ x → Tells u (store_name i) x
  store_tells x e = store_by (names i) x e scene.named

  -- what the name stands for, by the operation
  pub named_by : (o : Op) → i.op ≡ o → IfSome (value_of (names_by o i) s i t) (λ k. u.named i.addr ≡ k)
  named_by o e = subst (λ o. IfSome (value_of (names_by o i) s i t) (λ k. u.named i.addr ≡ k)) e scene.named
