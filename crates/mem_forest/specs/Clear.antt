-- What is left of a forest where only the values of some regions are kept, as behind a call.
use Rattle.std.specs.Prelude.{ℕ, Bool, List}
use Rattle.std.specs.List.{list_any}
use Rattle.sym_terms.specs.Plain.{PlainSum}
use Rattle.memory_regions.specs.declared.region.Region.{Region}
use Rattle.mem_forest.specs.Plain.{PlainForest, none, cell}
use Rattle.mem_forest.specs.Search.{is_here}
use Rattle.mem_forest.specs.Levels.{value_if}

-- whether a node is at one of the regions
abbrev pub is_any_here : List Region → List PlainSum → ℕ → Bool
is_any_here regions ns b = list_any (λ r. is_here r.at r.bytes ns b) regions

-- a forest in which only nodes at these regions have values
abbrev pub clear_values : List Region → PlainForest → PlainForest
clear_values regions none = none
clear_values regions (cell ns b v under rest) =
    cell ns b (value_if (is_any_here regions ns b) v) (clear_values regions under) (clear_values regions rest)
