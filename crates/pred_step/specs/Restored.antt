-- Whether a return is verified, as tests.
use Rattle.std.specs.Prelude.{ℕ, Bool, false, ◌&&◌, Option, Some, None}
use Rattle.std.specs.List.{list_all}
use Rattle.std.specs.Ordering.{is_eq}
use Rattle.sym_terms.specs.declared.kinds.Sym.{Sym}
use Rattle.sym_terms.specs.declared.kinds.Sym.TheVariants.{Entry, Ra}
use Rattle.sym_terms.specs.Plain.{PlainSum, single_atom, symbol}
use Rattle.sym_terms.specs.Order.{sum_cmp}
use Rattle.mem_forest.specs.Search.{value_at}
use Rattle.predicates.specs.Predicate.{Predicate}
use Rattle.predicate_meaning.specs.Sat.{register}
use Rattle.predicate_meaning.specs.Returns.{saved_registers}

-- whether a term is known and is a symbol
abbrev pub is_symbol : Sym → Option PlainSum → Bool
is_symbol s None = false
is_symbol s (Some t) = is_eq (sum_cmp t (single_atom (symbol s)))

-- whether a register has its own entry symbol
abbrev pub is_restored : Predicate → ℕ → Bool
is_restored p r = is_symbol (Entry r) (register p r)

-- whether that is so of the saved registers and the stack pointer, and the return address is in its place
abbrev pub are_restored : Predicate → Bool
are_restored p =
    (list_all (is_restored p) saved_registers && is_restored p 4)
    && is_symbol Ra (value_at (single_atom (symbol (Entry 4))) 8 p.forest)
