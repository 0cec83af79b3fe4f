-- What a store leaves of a forest.
use Rattle.std.specs.Prelude.{ℕ, Bool, false, if◌then◌else◌, Option, [], ◌∷◌}
use Rattle.sym_terms.specs.Plain.{PlainSum}
use Rattle.memory_regions.specs.declared.region.Relation.{Relation}
use Rattle.mem_forest.specs.Plain.{PlainForest, none}
use Rattle.mem_forest.specs.Search.{found}
use Rattle.mem_forest.specs.Levels.{is_separate, selected, insert, written, at_level, has_room}

-- a level of which the nodes that are Separate from the region stay; the region comes where there is room
abbrev pub renewed : (PlainSum → ℕ → Relation) → PlainSum → ℕ → Option PlainSum → Bool → PlainForest → PlainForest
renewed rel at a v room f =
    if room then insert (at ∷ []) a v none (selected is_separate rel f) else selected is_separate rel f

-- the level where the region belongs is renewed; the nodes above it lose their values
abbrev pub placed : (PlainSum → ℕ → Relation) → PlainSum → ℕ → Option PlainSum → Bool → PlainForest → PlainForest
placed rel at a v room f = at_level false rel (renewed rel at a v room) f

-- a node at the region takes the value, or none, and loses the nodes under it, and those above it lose their values;
-- else the region is placed, where fewer than 64 nodes are left once those that go have gone
abbrev pub store : (PlainSum → ℕ → Relation) → PlainSum → ℕ → Option PlainSum → PlainForest → PlainForest
store rel at a v f =
    if found at a f then written false at a v f
    else placed rel at a v (has_room (placed rel at a v false f)) f
