-- When a return is verified (System V x86-64 psABI, section 3.2.1).
use Rattle.std.specs.Prelude.{◌≡◌, ℕ, List, [], ◌∷◌, Option, Some, All}
use Rattle.std.specs.Option.{option_and_then}
use Rattle.sym_terms.specs.declared.kinds.Sym.TheVariants.{Entry, Ra}
use Rattle.sym_terms.specs.Plain.{PlainSum, single_atom, symbol}
use Rattle.mem_forest.specs.Search.{find}
use Rattle.predicates.specs.Predicate.{Predicate}
use Rattle.x86_instr.specs.Registers.{rsp}
use Rattle.predicate_meaning.specs.Sat.{register}

-- rbx, rbp and r12 to r15, which a callee keeps beside the stack pointer
abbrev pub saved_registers : List ℕ
saved_registers = 3 ∷ 5 ∷ 12 ∷ 13 ∷ 14 ∷ 15 ∷ []

-- what the 8 bytes at the entry's stack pointer hold, where it is known
abbrev pub return_cell : Predicate → Option PlainSum
return_cell p = option_and_then (λ node. node.value) (find (single_atom (symbol (Entry rsp))) 8 p.forest)

-- the stack pointer and the saved registers are those of the entry, and the return address is in its place
pub record Returns (p : Predicate) : Type 0 where
  pub stack : register p rsp ≡ Some (single_atom (symbol (Entry rsp)))
  pub back : return_cell p ≡ Some (single_atom (symbol Ra))
  pub saved : All (λ r. register p r ≡ Some (single_atom (symbol (Entry r)))) saved_registers
