-- The tests of a return are what makes it verified.
use Rattle.std.proofs.Common.{◌≡◌, true, ◌&&◌, Option, Some, None, sym, ap, ◌∙◌, subst, refl, Decides}
use Rattle.std.specs.Prelude.{IsTrue, ◌↔◌}
use Rattle.std.specs.List.{list_all}
use Rattle.std.specs.Ordering.{is_eq}
use Rattle.std.specs.Option.{option_and_then}
use Rattle.std.specs.Cmp.{tied_itself, Equal-is}
use Rattle.std.proofs.lemmas.Bool.{and_parts, and_from}
use Rattle.std.proofs.lemmas.Bool.Decides.{Decides-by_and}
use Rattle.sym_terms.specs.declared.kinds.Sym.{Sym}
use Rattle.sym_terms.specs.declared.kinds.Sym.TheVariants.{Entry, Ra}
use Rattle.sym_terms.specs.Plain.{PlainSum, single_atom, symbol}
use Rattle.sym_terms.specs.Order.{sum_cmp}
use Rattle.sym_terms.specs.Codes.{sum_same, sum_total}
use Rattle.mem_forest.specs.Plain.{PlainNode}
use Rattle.mem_forest.specs.Search.{find, value_at, value_of_found}
use Rattle.predicates.specs.Predicate.{Predicate}
use Rattle.predicate_meaning.specs.Sat.{register}
use Rattle.predicate_meaning.specs.Returns.{Returns, saved_registers, return_cell}
use Rattle.pred_step.specs.Restored.{is_symbol, is_restored, are_restored}

symbol_exactly : (s : Sym) (o : Option PlainSum) → Decides (is_symbol s o) (o ≡ Some (single_atom (symbol s)))
symbol_exactly s None = (λ e. absurd (cc), λ e. absurd (cc))
symbol_exactly s (Some t) =
    let one = single_atom (symbol s) in (
      λ e. ap Some (sum_same t one ((Equal-is (sum_cmp t one)).0 e)),
      λ e. let same : t ≡ one = cc in subst (λ (u : PlainSum). is_eq (sum_cmp u one) ≡ true) (sym same) (ap is_eq (tied_itself sum_total one)),
    )

cell_value : (o : Option PlainNode) → value_of_found o ≡ option_and_then (λ node. node.value) o
cell_value None = refl
cell_value (Some n) = refl

pub returns_exactly : (p : Predicate) → IsTrue (are_restored p) ↔ Returns p
returns_exactly p =
    let at = single_atom (symbol (Entry 4)) in
    let saved = Decides-by_and (is_restored p) (λ r. register p r ≡ Some (single_atom (symbol (Entry r)))) (list_all (is_restored p)) (λ r. symbol_exactly (Entry r) (register p r)) refl (λ _ _. refl) saved_registers in
    let stack = symbol_exactly (Entry 4) (register p 4) in
    let back = symbol_exactly Ra (value_at at 8 p.forest) in
    let cell = cell_value (find at 8 p.forest) in (
      λ e.
          let both = and_parts (list_all (is_restored p) saved_registers && is_restored p 4) (is_symbol Ra (value_at at 8 p.forest)) e in
          let regs = and_parts (list_all (is_restored p) saved_registers) (is_restored p 4) both.0 in
          record { stack = stack.0 regs.1; back = sym cell ∙ back.0 both.1; saved = saved.0 regs.0 },
      λ h.
          and_from (list_all (is_restored p) saved_registers && is_restored p 4) (is_symbol Ra (value_at at 8 p.forest))
          (and_from (list_all (is_restored p) saved_registers) (is_restored p 4) (saved.1 h.saved) (stack.1 h.stack)) (back.1 (cell ∙ h.back)),
    )
