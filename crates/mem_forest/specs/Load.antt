-- What a load leaves of a forest, where it may name the value that it reads.
use Rattle.std.specs.Prelude.{ℕ, Bool, true, ◌&&◌, ◌||◌, if◌then◌else◌, Option, Some, None, [], ◌∷◌}
use Rattle.sym_terms.specs.Plain.{PlainSum}
use Rattle.memory_regions.specs.declared.region.Relation.{Relation}
use Rattle.mem_forest.specs.Plain.{PlainForest, none, cell}
use Rattle.mem_forest.specs.Search.{found, value_at}
use Rattle.mem_forest.specs.Levels.{related, is_separate, is_around, selected, insert, written, at_level, has_room}

-- whether each node of a level is Separate from the region or lies in it
abbrev pub is_clear : (PlainSum → ℕ → Relation) → PlainForest → Bool
is_clear rel none = true
is_clear rel (cell ns b v under rest) =
    (is_separate (related rel ns b) || is_around (related rel ns b)) && is_clear rel rest

-- a level to which the region comes with a value, over the nodes that lie in it, where the level is clear
abbrev pub filled : (PlainSum → ℕ → Relation) → PlainSum → ℕ → PlainSum → PlainForest → PlainForest
filled rel at a v f =
    if is_clear rel f then insert (at ∷ []) a (Some v) (selected is_around rel f) (selected is_separate rel f) else f

-- a node at the region takes the name as its value; else the level where the region belongs is filled, where there is
-- room; no value is lost
abbrev pub named : (PlainSum → ℕ → Relation) → PlainSum → ℕ → PlainSum → PlainForest → PlainForest
named rel at a name f =
    if found at a f then written true at a (Some name) f
    else if has_room f then at_level true rel (filled rel at a name) f
    else f

-- nothing changes where a value stands at the region, or no name is given
abbrev pub named_unless : Option PlainSum → (PlainSum → ℕ → Relation) → PlainSum → ℕ → Option PlainSum → PlainForest → PlainForest
named_unless (Some v) rel at a name f = f
named_unless None rel at a None f = f
named_unless None rel at a (Some name) f = named rel at a name f

-- what a load leaves; its answer is the value that stands at the region then
abbrev pub load : (PlainSum → ℕ → Relation) → PlainSum → ℕ → Option PlainSum → PlainForest → PlainForest
load rel at a name f = named_unless (value_at at a f) rel at a name f
