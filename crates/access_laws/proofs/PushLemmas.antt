-- The address below the top of the stack, and what is known after a store there.
use Rattle.std.proofs.Common.{ℕ, ◌+◌, ◌-◌, ◌%◌, ◌^◌, Option, refl, arith}
use Rattle.std.proofs.Math.Nat.{mod-lt}
use Rattle.sym_terms.specs.Plain.{PlainSum}
use Rattle.sym_terms.specs.Normal.{plus, minus}
use Rattle.sym_terms.specs.Value.{Valuation, IsInRange}
use Rattle.predicates.specs.Predicate.{Predicate}
use Rattle.x86_machine.specs.Memory.{address_plus}
use Rattle.x86_machine.specs.State.{State, reg, with_bytes}
use Rattle.x86_instr.specs.Registers.{rsp}
use Rattle.x86_machine.specs.StepLaws.{StoreLaws}
use Rattle.value_laws.proofs.Ground.{ForestLaws, Ground}
use Rattle.forest_meaning.specs.Assumed.{Keeps}
use Rattle.step_rules.specs.View.{View}
use Rattle.step_rules.specs.Terms.{number, plus_number, minus_number}
use Rattle.predicate_meaning.specs.Sat.{register, Sat}
use Rattle.step_rules.specs.Access.{with_bytes as with_stored}
use Rattle.step_rules.specs.Moves.{below_top}
use Rattle.forest_meaning.specs.Holds.{Tells}
use Rattle.value_laws.proofs.MeansLemmas.{tells_one, means_number, means_plus, means_minus}
use Rattle.access_laws.proofs.StoreLemmas.{stored_holds}
use Rattle.x86_machine.specs.Moves as machine_moves

module _ (g : Ground) (u : Valuation) (range : IsInRange u) where
  pub tells_lowered : (t : Option PlainSum) (x : ℕ) → Tells u t x → Tells u (minus_number 8 t) ((x + (2 ^ 64 - 8)) % 2 ^ 64)
  tells_lowered t x h = tells_one u (λ a. minus a (number 8)) t x _ (λ a m. means_minus u g.normal (g.values u range) a (number 8) x 8 m (means_number u g.normal (g.values u range) 8 (omega arith))) h

  pub tells_raised : (t : Option PlainSum) (x : ℕ) → Tells u t x → Tells u (plus_number 8 t) (address_plus 8 x)
  tells_raised t x h = tells_one u (λ a. plus a (number 8)) t x _ (λ a m. means_plus u g.normal (g.values u range) a (number 8) x 8 m (means_number u g.normal (g.values u range) 8 (omega arith))) h

  -- the address below the top of the stack
  pub tells_top : (p : Predicate) (s : State) → Sat p s u → Tells u (below_top p) (machine_moves.below_top s)
  tells_top p s h = tells_lowered (register p rsp) (reg s rsp) (h.registers rsp)

-- ---- push, of a number that is known or unknown

module _ (forest : ForestLaws) (stores : StoreLaws) (v : View) (s : State) (u : Valuation) (kept : Keeps u v.known) where
  -- at the address below the top, or at the store's name
  pub stored_below : (p : Predicate) (at t : Option PlainSum) (n : ℕ) → Tells u at (machine_moves.below_top s) → Tells u t (n % 256 ^ 8) → Sat p s u
      → Sat (with_stored v p 8 at t) (with_bytes s 8 (machine_moves.below_top s) n) u
  stored_below p at t n k e h = stored_holds forest stores v s u kept p 8 at t (machine_moves.below_top s) n refl (omega arith) (mod-lt _ (omega arith)) k e h
