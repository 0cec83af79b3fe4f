-- A predicate passes the test of the entry exactly where it is the entry predicate.
use Rattle.std.proofs.Common.{◌≡◌, ℕ, true, Bool, List, [], ◌∷◌, map, length, Some, None, Option, refl, sym, subst, ◌&&◌, arith}
use Rattle.std.specs.Prelude.{◌==◌, is_none}
use Rattle.std.specs.Bool.{Decides}
use Rattle.std.specs.List.{list_all, zip}
use Rattle.std.proofs.lemmas.Bool.{and_parts, eqb-true}
use Rattle.sym_terms.specs.declared.kinds.Sym.{Sym}
use Rattle.sym_terms.specs.declared.kinds.Sym.TheVariants.{Entry, Ra}
use Rattle.sym_terms.specs.Plain.{PlainSum, symbol, single_atom}
use Rattle.mem_forest.specs.Plain.{PlainForest}
use Rattle.mem_forest.specs.Plain as plain
use Rattle.predicates.specs.Predicate.{Predicate}
use Rattle.predicates.specs.Entry.{entry_forest, entry_predicate}
use Rattle.predicates.specs.declared.bound.Bound.{Bound}
use Rattle.sym_step.specs.Restored.{is_known}
use Rattle.sym_step.proofs.SymbolLemmas.{known_exactly}
use Rattle.edge_checker.specs.Decisions.{all_registers, are_entries, is_top, has_no_node, is_entry_node, is_entry_forest, is_entry}

-- the term of a symbol
abbrev term_of : Sym → PlainSum
term_of s = single_atom (symbol s)

-- whether each register has the entry symbol of its number
abbrev are_symbols : List ℕ → List (Option PlainSum) → Bool
are_symbols ns xs = list_all (λ x. is_known (Entry x.0) x.1) (zip ns xs)

-- each number's entry symbol
abbrev symbols : List ℕ → List (Option PlainSum)
symbols ns = map (λ n. Some (term_of (Entry n))) ns

symbols_from : (ns : List ℕ) (xs : List (Option PlainSum)) → length xs ≡ length ns → are_symbols ns xs ≡ true → xs ≡ symbols ns
symbols_from [] [] l e = refl
symbols_from [] (x ∷ xs) l e = absurd (omega arith)
symbols_from (n ∷ ns) [] l e = absurd (omega arith)
symbols_from (n ∷ ns) (x ∷ xs) l e =
    let both = and_parts (is_known (Entry n) x) (are_symbols ns xs) e in
    let head = (known_exactly (Entry n) x).0 both.0 in
    let rest = symbols_from ns xs (omega (arith, l)) both.1 in
    λ i. head i ∷ rest i

top_from : (ns : List PlainSum) → is_top ns ≡ true → ns ≡ term_of (Entry 4) ∷ []
top_from [] e = absurd (cc)
top_from (n ∷ []) e =
    let is : Some n ≡ Some (term_of (Entry 4)) = (known_exactly (Entry 4) (Some n)).0 e in
    let same : n ≡ term_of (Entry 4) = cc in
    λ i. same i ∷ []
top_from (n ∷ m ∷ ns) e = absurd (cc)

no_node : (f : PlainForest) → has_no_node f ≡ true → f ≡ plain.none
no_node plain.none e = refl
no_node (plain.cell ns b v under rest) e = absurd (cc)

forest_from : (f : PlainForest) → is_entry_forest f ≡ true → f ≡ entry_forest
forest_from plain.none e = absurd (cc)
forest_from (plain.cell ns b v under rest) e =
    let parts = and_parts (is_entry_node (record { names = ns; bytes = b; value = v; under = under })) (has_no_node rest) e in
    let own = and_parts (is_top ns) ((b == 8) && (is_known Ra v && has_no_node under)) parts.0 in
    let sized = and_parts (b == 8) (is_known Ra v && has_no_node under) own.1 in
    let held = and_parts (is_known Ra v) (has_no_node under) sized.1 in
    let names = top_from ns own.0 in
    let size = eqb-true b 8 sized.0 in
    let value = (known_exactly Ra v).0 held.0 in
    let below = no_node under held.1 in
    let beside = no_node rest parts.1 in
    λ i. plain.cell (names i) (size i) (value i) (below i) (beside i)

none_from : {A : Type 0} (o : Option A) → is_none o ≡ true → o ≡ None
none_from None e = refl
none_from (Some x) e = absurd (cc)

empty_from : (bs : List Bound) → (length bs == 0) ≡ true → bs ≡ []
empty_from [] e = refl
empty_from (b ∷ bs) e = let none : length (b ∷ bs) ≡ 0 = eqb-true (length (b ∷ bs)) 0 e in absurd (omega (arith, none))

-- a predicate with 16 registers passes the test exactly where it is the entry predicate
pub is_entry-Decides : (p : Predicate) → length p.regs ≡ 16 → Decides (is_entry p) (p ≡ entry_predicate)
is_entry-Decides p l = (
  λ e.
      let parts = and_parts (are_entries p.regs) (is_none p.flags && ((length p.bounds == 0) && is_entry_forest p.forest)) e in
      let others = and_parts (is_none p.flags) ((length p.bounds == 0) && is_entry_forest p.forest) parts.1 in
      let last = and_parts (length p.bounds == 0) (is_entry_forest p.forest) others.1 in
      let regs = symbols_from all_registers p.regs l parts.0 in
      let flags = none_from p.flags others.0 in
      let bounds = empty_from p.bounds last.0 in
      let forest = forest_from p.forest last.1 in
      λ i. record { regs = regs i; flags = flags i; bounds = bounds i; forest = forest i },
  λ e. subst (λ (q : Predicate). is_entry q ≡ true) (sym e) refl,
)
