-- Nothing is missing exactly where one predicate entails another, from the lemmas on each kind of conjunct.
use Rattle.std.proofs.Common.{◌≡◌, ◌↔◌, ℕ, zero, suc, ◌+◌, Bool, true, false, List, [], ◌∷◌, length, get_or, slice_get, zip, Option, Some, None, refl, ap, subst, arith}
use Rattle.std.specs.Prelude.{is_some, IsNone, if◌then◌else◌}
use Rattle.std.specs.List.{list_all, Contains}
use Rattle.std.specs.Option.{option_map, option_or}
use Rattle.std.proofs.lemmas.Bool.{and_parts, and_from}
use Rattle.std.proofs.lemmas.List.Elements.{Contains-get_or}
use Rattle.sym_terms.specs.Plain.{PlainSum}
use Rattle.mem_forest.specs.Shape.{IsForest}
use Rattle.predicates.specs.declared.bound.Bound.{Bound}
use Rattle.predicates.specs.declared.conjunct.Conjunct as conjunct
use Rattle.predicates.specs.declared.conjunct.Conjunct.TheVariants as variant
use Rattle.predicates.specs.Predicate.{Predicate}
use Rattle.predicates.specs.Entails.{Entails}
use Rattle.predicates.specs.Holding.{holds_term, holds_flags, holds_bound}
use Rattle.predicates.specs.Missing.{missing, missing_from, missing_register, missing_bound, missing_cell}
use Rattle.predicates.proofs.AmongLemmas.{passed_at, all_from}
use Rattle.predicates.proofs.TermLemmas.{term_known, term_holds, fact_known, fact_holds}
use Rattle.predicates.proofs.CellLemmas.{all_from_none, none_from_all}

none_parts : (t : Bool) (o : Option ℕ) (n : ℕ) → (if t then o else Some n) ≡ None → (t ≡ true) × (o ≡ None)
none_parts true o n e = (refl, e)
none_parts false o n e = absurd (cc)

none_by : (t : Bool) (o : Option ℕ) (n : ℕ) → t ≡ true → o ≡ None → (if t then o else Some n) ≡ None
none_by true o n e f = f
none_by false o n e f = absurd (cc)

-- no item is missing exactly where all pass
all_pass : {X : Type 0} (p : X → Bool) (n : ℕ) (xs : List X) → missing_from p n xs ≡ None → list_all p xs ≡ true
all_pass p n [] e = refl
all_pass p n (x ∷ xs) e =
    let both = none_parts (p x) (missing_from p (n + 1) xs) n e in
    and_from (p x) (list_all p xs) both.0 (all_pass p (n + 1) xs both.1)

none_fails : {X : Type 0} (p : X → Bool) (n : ℕ) (xs : List X) → list_all p xs ≡ true → missing_from p n xs ≡ None
none_fails p n [] e = refl
none_fails p n (x ∷ xs) e =
    let both = and_parts (p x) (list_all p xs) e in
    none_by (p x) (missing_from p (n + 1) xs) n both.0 (none_fails p (n + 1) xs both.1)

-- whether the second of two, where it is known, is the first
abbrev pair_holds : Option PlainSum × Option PlainSum → Bool
pair_holds x = holds_term x.0 x.1

registers_known : (n : ℕ) (ps qs : List (Option PlainSum)) → length ps ≡ length qs → missing_from pair_holds n (zip ps qs) ≡ None
    → (r : ℕ) (t : PlainSum) → slice_get qs r ≡ Some (Some t) → slice_get ps r ≡ Some (Some t)
registers_known n ps [] l e r t h = absurd (cc)
registers_known n [] (q ∷ qs) l e r t h = absurd (omega arith)
registers_known n (p ∷ ps) (q ∷ qs) l e zero t h =
    let both = none_parts (holds_term p q) (missing_from pair_holds (n + 1) (zip ps qs)) n e in
    let f : q ≡ Some t = cc in
    ap Some (term_known p q t both.0 f)
registers_known n (p ∷ ps) (q ∷ qs) l e (suc r) t h =
    let both = none_parts (holds_term p q) (missing_from pair_holds (n + 1) (zip ps qs)) n e in
    registers_known (n + 1) ps qs (omega (arith, l)) both.1 r t h

registers_none : (n : ℕ) (ps qs : List (Option PlainSum)) → length ps ≡ length qs
    → ((r : ℕ) (t : PlainSum) → slice_get qs r ≡ Some (Some t) → slice_get ps r ≡ Some (Some t)) → missing_from pair_holds n (zip ps qs) ≡ None
registers_none n [] qs l h = refl
registers_none n (p ∷ ps) [] l h = refl
registers_none n (p ∷ ps) (q ∷ qs) l h =
    let first : holds_term p q ≡ true = term_holds p q (λ t e. let f : Some p ≡ Some (Some t) = h 0 t (ap Some e) in cc) in
    none_by (holds_term p q) (missing_from pair_holds (n + 1) (zip ps qs)) n first
    (registers_none (n + 1) ps qs (omega (arith, l)) (λ r t e. h (suc r) t e))

bounds_held : (ps qs : List Bound) → missing_bound ps qs ≡ None → (b : Bound) → Contains qs b → holds_bound ps b ≡ true
bounds_held ps qs e b m =
    let P : Bound → Type 0 = λ x. holds_bound ps x ≡ true in
    subst P m.2 (passed_at (holds_bound ps) qs m.0 b (all_pass (holds_bound ps) 0 qs e) m.1)

bounds_none : (ps qs : List Bound) → ((b : Bound) → Contains qs b → holds_bound ps b ≡ true) → missing_bound ps qs ≡ None
bounds_none ps qs h =
    none_fails (holds_bound ps) 0 qs (all_from (holds_bound ps) qs (λ i d k. h (get_or qs i d) (Contains-get_or qs i d k)))

-- four answers, the first that there is
abbrev first_of : Option ℕ → Bool → Option ℕ → Option ℕ → Option conjunct.Conjunct
first_of r t b c =
    option_or (option_map variant.Register r) (option_or (if t then None else Some variant.Flags) (option_or (option_map variant.Bound b) (option_map variant.Cell c)))

none_of : (r : Option ℕ) (t : Bool) (b c : Option ℕ) → is_some (first_of r t b c) ≡ false → (r ≡ None) × ((t ≡ true) × ((b ≡ None) × (c ≡ None)))
none_of None true None None e = (refl, (refl, (refl, refl)))
none_of None true None (Some c) e = absurd (cc)
none_of None true (Some b) c e = absurd (cc)
none_of None false b c e = absurd (cc)
none_of (Some r) t b c e = absurd (cc)

none_together : (r : Option ℕ) (t : Bool) (b c : Option ℕ) → r ≡ None → t ≡ true → b ≡ None → c ≡ None → is_some (first_of r t b c) ≡ false
none_together None true None None e f g h = refl
none_together None true None (Some c) e f g h = absurd (cc)
none_together None true (Some b) c e f g h = absurd (cc)
none_together None false b c e f g h = absurd (cc)
none_together (Some r) t b c e f g h = absurd (cc)

-- nothing is missing exactly where the first entails the second
pub decided : (p q : Predicate) → length p.regs ≡ length q.regs → IsForest q.forest → IsNone (missing p q) ↔ Entails p q
decided p q l forest = (
  λ e.
      let parts = none_of (missing_register p.regs q.regs) (holds_flags p.flags q.flags) (missing_bound p.bounds q.bounds) (missing_cell 0 p.forest q.forest) e in
      record {
        registers = registers_known 0 p.regs q.regs l parts.0;
        flags = λ f k. fact_known p.flags q.flags f parts.1.0 k;
        bounds = bounds_held p.bounds q.bounds parts.1.1.0;
        cells = all_from_none p.forest q.forest 0 parts.1.1.1;
      },
  λ h.
      none_together (missing_register p.regs q.regs) (holds_flags p.flags q.flags) (missing_bound p.bounds q.bounds) (missing_cell 0 p.forest q.forest)
      (registers_none 0 p.regs q.regs l h.registers) (fact_holds p.flags q.flags h.flags) (bounds_none p.bounds q.bounds h.bounds)
      (none_from_all 0 p.forest q.forest forest.single forest.in_form h.cells),
)
