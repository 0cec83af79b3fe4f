-- Which cells hold what a verified return needs (System V x86-64 psABI, section 3.2.1).
use Rattle.std.specs.Prelude.{ℕ, Bool, if◌then◌else◌, is_some, find, List, [], ◌∷◌, ◌++◌, map, option_to_list, Option, None}
use Rattle.std.specs.List.{list_any}
use Rattle.std.specs.Option.{option_map}
use Rattle.sym_terms.specs.declared.kinds.Sym.{Sym}
use Rattle.sym_terms.specs.declared.kinds.Sym.TheVariants.{Entry, Ra}
use Rattle.sym_terms.specs.Plain.{PlainSum, single_atom, symbol, constant_alone}
use Rattle.sym_terms.specs.Normal.{minus}
use Rattle.memory_regions.specs.declared.region.Region.{Region}
use Rattle.mem_forest.specs.Plain.{PlainForest, none, cell}
use Rattle.predicate_meaning.specs.Returns.{saved_registers}
use Rattle.step_rules.specs.Site.{region_of}
use Rattle.pred_step.specs.Restored.{is_symbol}

-- the return address, and the entry symbols of rbx, rbp and r12 to r15
abbrev pub needed_symbols : List Sym
needed_symbols = Ra ∷ map Entry saved_registers

-- whether a value is one of these
abbrev pub is_needed : Option PlainSum → Bool
is_needed value = list_any (λ s. is_symbol s value) needed_symbols

-- the stack pointer at the entry
abbrev pub stack_top : PlainSum
stack_top = single_atom (symbol (Entry 4))

-- whether an address is that and a constant
abbrev pub is_on_stack : PlainSum → Bool
is_on_stack at = is_some (constant_alone (minus at stack_top))

-- the region of a node by its first name on the stack, where its value is needed
abbrev pub critical_region : List PlainSum → ℕ → Option PlainSum → Option Region
critical_region names bytes value =
    if is_needed value then option_map (region_of bytes) (find is_on_stack names) else None

-- the regions of the critical cells, each node before those under it
abbrev pub critical_cells : PlainForest → List Region
critical_cells none = []
critical_cells (cell ns b v under rest) =
    option_to_list (critical_region ns b v) ++ (critical_cells under ++ critical_cells rest)
