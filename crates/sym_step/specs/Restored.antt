-- Whether a return is verified, as tests.
use Rattle.std.specs.Prelude.{ℕ, Bool, false, ◌&&◌, Option, Some, None}
use Rattle.std.specs.List.{list_all}
use Rattle.std.specs.Ordering.{is_eq}
use Rattle.sym_terms.specs.declared.kinds.Sym.{Sym}
use Rattle.sym_terms.specs.declared.kinds.Sym.TheVariants.{Entry, Ra}
use Rattle.sym_terms.specs.Plain.{PlainSum, symbol_alone}
use Rattle.sym_terms.specs.Order.{sym_cmp}
use Rattle.mem_forest.specs.Search.{value_at}
use Rattle.predicates.specs.Predicate.{Predicate}
use Rattle.x86_instr.specs.Registers.{rsp}
use Rattle.predicate_meaning.specs.Sat.{register}
use Rattle.predicate_meaning.specs.Returns.{saved_registers}

-- whether a symbol that may be none is this one
abbrev pub is_same : Sym → Option Sym → Bool
is_same s None = false
is_same s (Some own) = is_eq (sym_cmp own s)

-- whether a term is known and is the symbol alone
abbrev pub is_known : Sym → Option PlainSum → Bool
is_known s None = false
is_known s (Some t) = is_same s (symbol_alone t)

-- whether a register has its own entry symbol
abbrev pub is_restored : Predicate → ℕ → Bool
is_restored p r = is_known (Entry r) (register p r)

-- whether the term of the stack pointer is that of the entry, and the 8 bytes there are the return address
abbrev pub is_top_restored : Predicate → Option PlainSum → Bool
is_top_restored p None = false
is_top_restored p (Some top) = is_known (Entry 4) (Some top) && is_known Ra (value_at top 8 p.forest)

-- whether what a callee keeps is as it was at the entry, and the return address is in its place
abbrev pub is_returned : Predicate → Bool
is_returned p = list_all (is_restored p) saved_registers && is_top_restored p (register p rsp)
