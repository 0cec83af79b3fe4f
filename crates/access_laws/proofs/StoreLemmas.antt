-- What is known after a store is true.
use Rattle.std.specs.Prelude.{IsTrue}
use Rattle.std.proofs.Common.{◌≡◌, ℕ, ◌%◌, ◌^◌, ◌<◌, ◌≤◌, Option, Some, None, refl, sym, ap, subst, ◌∙◌, arith}
use Rattle.std.proofs.Math.Nat.{mod-lt}
use Rattle.bits_core.specs.declared.width.Width.{Width}
use Rattle.bits_core.specs.declared.width.Width.TheVariants.{W8, W16, W32, W64}
use Rattle.bits_core.specs.Width.{bytes_of}
use Rattle.bits_core.specs.LowBits.{cut_of}
use Rattle.sym_terms.specs.Plain.{PlainSum}
use Rattle.sym_terms.specs.Value.{Valuation, IsInRange}
use Rattle.mem_forest.specs.Shape.{is_size}
use Rattle.predicates.specs.Predicate.{Predicate}
use Rattle.x86_instr.specs.declared.instr.Place.{Place}
use Rattle.x86_instr.specs.declared.instr.Instr.{Instr}
use Rattle.x86_machine.specs.Memory.{loaded, stored}
use Rattle.x86_machine.specs.StepLaws.{StoreLaws}
use Rattle.x86_machine.specs.State.{State, reg, with_bytes}
use Rattle.x86_machine.specs.Access.{address, write}
use Rattle.forest_meaning.specs.Separate.{past}
use Rattle.forest_meaning.specs.Assumed.{Keeps}
use Rattle.value_laws.proofs.Ground.{ForestLaws, Ground}
use Rattle.step_rules.specs.View.{View}
use Rattle.step_rules.specs.Names.{store_name}
use Rattle.predicate_meaning.specs.Sat.{register, Sat}
use Rattle.step_rules.specs.Access.{address_term, store_term, with_bytes as with_stored, write_term}
use Rattle.forest_meaning.specs.Holds.{Tells}
use Rattle.value_laws.proofs.Scene.{Writes}
use Rattle.value_laws.proofs.MeansLemmas.{tells_as, tells_or}
use Rattle.access_laws.proofs.NumberLemmas.{store_differs, store_number}
use Rattle.access_laws.proofs.ReadLemmas.{address_tells}
use Rattle.x86_instr.specs.declared.instr.Operand.TheVariants as operand

sized : (w : Width) → IsTrue (is_size (bytes_of w))
sized W8 = refl
sized W16 = refl
sized W32 = refl
sized W64 = refl

short : (w : Width) → bytes_of w ≤ 8
short W8 = omega arith
short W16 = omega arith
short W32 = omega arith
short W64 = omega arith

cut_bytes : (w : Width) (n : ℕ) → cut_of w n ≡ n % 256 ^ bytes_of w
cut_bytes W8 n = refl
cut_bytes W16 n = refl
cut_bytes W32 n = refl
cut_bytes W64 n = refl

module _ (forest : ForestLaws) (st : StoreLaws) (v : View) (s : State) (u : Valuation) (kept : Keeps u v.known) where
  -- so many bytes of a number at an address, where the term of its low bytes is known or unknown
  pub stored_holds : (p : Predicate) (a : ℕ) (at t : Option PlainSum) (x k : ℕ) → IsTrue (is_size a) → a ≤ 8 → x < 2 ^ 64 → Tells u at x → Tells u t (k % 256 ^ a) → Sat p s u
      → Sat (with_stored v p a at t) (with_bytes s a x k) u
  unfolding with_stored with_bytes register reg
  stored_holds p a None t x k some few low e h j = record { range = j.range; fs_base = j.fs_base; registers = j.registers; flags = j.flags; bounds = j.bounds; forest = tt }
  stored_holds p a (Some at) t x k some few low e h j = record {
    range = j.range;
    fs_base = j.fs_base;
    registers = j.registers;
    flags = j.flags;
    bounds = j.bounds;
    forest = forest.store u v.known kept s.memory (stored s.memory a x k) at a t some
        (λ q small far. store_differs st s.memory a x k few low q small (subst (λ y. a ≤ past y q) e.value far))
        (tells_as u t _ _ (sym (ap (λ y. loaded (stored s.memory a x k) a y) e.value ∙ store_number st s.memory a x k few low)) h)
        p.forest j.forest;
  }

  -- nothing is known of what was stored, and memory is as it was
  pub unstored_holds : (p : Predicate) (a : ℕ) (at : Option PlainSum) → IsTrue (is_size a) → Sat p s u → Sat (with_stored v p a at None) s u
  unfolding with_stored register
  unstored_holds p a None some j = record { range = j.range; fs_base = j.fs_base; registers = j.registers; flags = j.flags; bounds = j.bounds; forest = tt }
  unstored_holds p a (Some at) some j = record {
    range = j.range;
    fs_base = j.fs_base;
    registers = j.registers;
    flags = j.flags;
    bounds = j.bounds;
    forest = forest.store u v.known kept s.memory s.memory at a None some (λ q small far. refl) tt p.forest j.forest;
  }

  module _ (g : Ground) (range : IsInRange u) (i : Instr) (w : Width) (pl : Place) (small : pl.disp < 2 ^ 64) (name : Tells u (store_name i) (address s pl)) where
    low : address s pl < 2 ^ 64
    unfolding address
    low = mod-lt _ (omega arith)

    at_tells : (p : Predicate) → Sat p s u → Tells u (store_term i p pl) (address s pl)
    at_tells p h = tells_or u (address_term p pl) (store_name i) _ (address_tells g u range p s h pl small) name

    place_write : (p : Predicate) (t : Option PlainSum) (n : ℕ) → Sat p s u → Tells u t (cut_of w n) → Sat (write_term v i p w (operand.Mem pl) t) (write s w (operand.Mem pl) n) u
    unfolding write_term write
    place_write p t n h k = stored_holds p (bytes_of w) (store_term i p pl) t (address s pl) n (sized w) (short w) low (at_tells p h) (tells_as u t _ _ (cut_bytes w n) k) h

    place_stays : (p : Predicate) → Sat p s u → Sat (write_term v i p w (operand.Mem pl) None) s u
    unfolding write_term
    place_stays p h = unstored_holds p (bytes_of w) (store_term i p pl) (sized w) h

    -- a place in memory, of whose address the name is true
    pub place_writes : Writes v i s u w (operand.Mem pl)
    place_writes = record { value = λ p t n h k name. place_write p t n h k; stays = λ p h name. place_stays p h }
