-- Which terms are a symbol alone, and that the tests of a return are what makes it verified.
use Rattle.std.proofs.Common.{◌≡◌, Bool, true, false, ◌==◌, ◌&&◌, Option, Some, None, refl, sym, ap, subst, ◌∙◌, arith}
use Rattle.std.specs.Prelude.{◌↔◌, if◌then◌else◌, IsTrue}
use Rattle.std.specs.List.{list_all}
use Rattle.std.specs.Option.{option_and_then}
use Rattle.std.specs.Ordering.{is_eq}
use Rattle.std.proofs.lemmas.Bool.{and_parts, and_from}
use Rattle.std.proofs.Common.{Decides}
use Rattle.std.proofs.lemmas.Bool.Decides.{nat_tests, Decides-by_and}
use Rattle.sym_terms.specs.declared.kinds.Sym.{Sym}
use Rattle.sym_terms.specs.declared.kinds.Sym.TheVariants.{Entry, Ra}
use Rattle.sym_terms.specs.Plain.{PlainSum, sum, none, more, symbol, fitted, paired, single_atom, symbol_alone}
use Rattle.sym_terms.specs.Order.{sym_cmp}
use Rattle.sym_terms.specs.Codes.{sym_same, atom_total}
use Rattle.std.specs.Cmp.{tied_itself}
use Rattle.mem_forest.specs.Plain.{PlainNode}
use Rattle.mem_forest.specs.Search.{find, value_at, value_of_found}
use Rattle.mem_forest.proofs.SingleLemmas.{equal_from}
use Rattle.predicates.specs.Predicate.{Predicate}
use Rattle.predicate_meaning.specs.Sat.{register}
use Rattle.predicate_meaning.specs.Returns.{Returns, saved_registers, return_cell}
use Rattle.x86_instr.specs.Registers.{rsp}
use Rattle.sym_step.specs.Restored.{is_same, is_known, is_restored, is_top_restored}

-- nothing is no symbol, whatever the test
no_symbol : (b : Bool) (s : Sym) → (if b then None else None) ≡ Some s → true ≡ false
no_symbol true s e = absurd (cc)
no_symbol false s e = absurd (cc)

-- what is a symbol alone is that atom
symbol_from : (a : PlainSum) (s : Sym) → symbol_alone a ≡ Some s → a ≡ single_atom (symbol s)
symbol_from (sum c none) s e = absurd (cc)
symbol_from (sum c (more (symbol t) k none)) s e =
    (elim ((c == 0) && (k == 1)) as (λ b. ((c == 0) && (k == 1)) ≡ b → (if b then Some t else None) ≡ Some s → sum c (more (symbol t) k none) ≡ single_atom (symbol s)) [
      | true ↦ λ h f.
          let zero : c ≡ 0 = grind (arith, nat_tests) in
          let one : k ≡ 1 = grind (arith, nat_tests) in
          let same : t ≡ s = cc in
          λ i. sum (zero i) (more (symbol (same i)) (one i) none)
      | false ↦ λ h f. absurd (cc)
    ]) refl e
symbol_from (sum c (more (fitted f x) k none)) s e = let no : true ≡ false = no_symbol ((c == 0) && (k == 1)) s e in absurd (cc)
symbol_from (sum c (more (paired p x y) k none)) s e = let no : true ≡ false = no_symbol ((c == 0) && (k == 1)) s e in absurd (cc)
symbol_from (sum c (more x k (more y l ys))) s e = absurd (cc)

same_from : (s : Sym) (o : Option Sym) → is_same s o ≡ true → o ≡ Some s
same_from s None e = absurd (cc)
same_from s (Some own) e = ap (λ t. Some t) (sym_same own s (equal_from (sym_cmp own s) e))

itself : (s : Sym) → is_eq (sym_cmp s s) ≡ true
itself s = ap is_eq (tied_itself atom_total (symbol s))

pub known_exactly : (s : Sym) (o : Option PlainSum) → Decides (is_known s o) (o ≡ Some (single_atom (symbol s)))
known_exactly s None = (λ e. absurd (cc), λ e. absurd (cc))
known_exactly s (Some t) = (
  λ e. ap (λ t. Some t) (symbol_from t s (same_from s (symbol_alone t) e)),
  λ e. let same : t ≡ single_atom (symbol s) = cc in subst (λ (u : PlainSum). is_same s (symbol_alone u) ≡ true) (sym same) (itself s),
)

-- the value of a node that is found
cell_value : (o : Option PlainNode) → value_of_found o ≡ option_and_then (λ n. n.value) o
cell_value None = refl
cell_value (Some n) = refl

-- the tests of a return are what makes it verified
returned : (p : Predicate) (o : Option PlainSum) → register p rsp ≡ o → Decides (is_top_restored p o) ((o ≡ Some (single_atom (symbol (Entry rsp)))) × (return_cell p ≡ Some (single_atom (symbol Ra))))
returned p None is = (λ e. absurd (cc), λ h. let no : None ≡ Some (single_atom (symbol (Entry rsp))) = h.0 in absurd (cc))
returned p (Some top) is = (
  λ e.
      let both = and_parts (is_known (Entry rsp) (Some top)) (is_known Ra (value_at top 8 p.forest)) e in
      let stack = (known_exactly (Entry rsp) (Some top)).0 both.0 in
      let same : top ≡ single_atom (symbol (Entry rsp)) = cc in
      (stack, sym (cell_value (find (single_atom (symbol (Entry rsp))) 8 p.forest)) ∙ ap (λ t. value_at t 8 p.forest) (sym same) ∙ (known_exactly Ra (value_at top 8 p.forest)).0 both.1),
  λ h.
      let stack : Some top ≡ Some (single_atom (symbol (Entry rsp))) = h.0 in
      let same : top ≡ single_atom (symbol (Entry rsp)) = cc in
      and_from (is_known (Entry rsp) (Some top)) (is_known Ra (value_at top 8 p.forest)) ((known_exactly (Entry rsp) (Some top)).1 h.0)
      ((known_exactly Ra (value_at top 8 p.forest)).1 (ap (λ t. value_at t 8 p.forest) same ∙ cell_value (find (single_atom (symbol (Entry rsp))) 8 p.forest) ∙ h.1)),
)

pub returns_exactly : (p : Predicate) → IsTrue (list_all (is_restored p) saved_registers && is_top_restored p (register p rsp)) ↔ Returns p
returns_exactly p =
    let saved = Decides-by_and (is_restored p) (λ r. register p r ≡ Some (single_atom (symbol (Entry r)))) (list_all (is_restored p)) (λ r. known_exactly (Entry r) (register p r)) refl (λ _ _. refl) saved_registers in
    let top = returned p (register p rsp) refl in (
      λ e.
          let both = and_parts (list_all (is_restored p) saved_registers) (is_top_restored p (register p rsp)) e in
          let at_top = top.0 both.1 in
          record { stack = at_top.0; back = at_top.1; saved = saved.0 both.0 },
      λ h. and_from (list_all (is_restored p) saved_registers) (is_top_restored p (register p rsp)) (saved.1 h.saved) (top.1 (h.stack, h.back)),
    )
