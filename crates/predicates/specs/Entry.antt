-- What holds where a function begins.
use Rattle.std.specs.Prelude.{ℕ, zero, suc, Option, Some, None, List, [], ◌∷◌, ◌++◌}
use Rattle.sym_terms.specs.declared.kinds.Sym.TheVariants.{Entry, Ra}
use Rattle.sym_terms.specs.Plain.{PlainSum, single_atom, symbol}
use Rattle.mem_forest.specs.Plain.{PlainForest, none, cell}
use Rattle.predicates.specs.Limits.{registers}
use Rattle.predicates.specs.Predicate.{Predicate}

-- the first registers, each with its entry symbol
abbrev pub entry_registers : ℕ → List (Option PlainSum)
entry_registers zero = []
entry_registers (suc n) = entry_registers n ++ Some (single_atom (symbol (Entry n))) ∷ []

-- the 8 bytes at the entry's rsp, register 4, hold the return address
abbrev pub entry_forest : PlainForest
entry_forest = cell (single_atom (symbol (Entry 4)) ∷ []) 8 (Some (single_atom (symbol Ra))) none none

-- each register has its entry symbol, and nothing else is known but the return address
abbrev pub entry_predicate : Predicate
entry_predicate = record { regs = entry_registers registers; flags = None; bounds = []; forest = entry_forest }
