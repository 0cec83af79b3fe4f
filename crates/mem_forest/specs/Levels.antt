-- What the rules do to a forest: which nodes of a level stay, where a new one comes, and how far a rule goes down.
use Rattle.std.specs.Prelude.{ℕ, Bool, true, false, ◌||◌, nat_lt, if◌then◌else◌, Option, None, List, [], ◌∷◌}
use Rattle.sym_terms.specs.Plain.{PlainSum}
use Rattle.memory_regions.specs.declared.region.Relation.{Relation}
use Rattle.memory_regions.specs.declared.region.Relation.TheVariants.{Alias, Separate, Inside, Around, Overlap, Unknown}
use Rattle.mem_forest.specs.Plain.{PlainForest, none, cell, PlainNode, count}
use Rattle.mem_forest.specs.Search.{is_here, found}
use Rattle.mem_forest.specs.Shape.{comes_before}

-- ---- how a region lies to a node

-- the first relation, where it is known, else the second
abbrev pub or_else : Relation → Relation → Relation
or_else Alias r = Alias
or_else Separate r = Separate
or_else Inside r = Inside
or_else Around r = Around
or_else Overlap r = Overlap
or_else Unknown r = r

-- how a region lies to a node, by the first of its names that doesn't give Unknown, where `rel` is how the region lies
-- to an address with a size
abbrev pub related : (PlainSum → ℕ → Relation) → List PlainSum → ℕ → Relation
related rel [] b = Unknown
related rel (n ∷ ns) b = or_else (rel n b) (related rel ns b)

-- whether a relation is Separate
abbrev pub is_separate : Relation → Bool
is_separate Alias = false
is_separate Separate = true
is_separate Inside = false
is_separate Around = false
is_separate Overlap = false
is_separate Unknown = false

-- whether a relation is Inside
abbrev pub is_inside : Relation → Bool
is_inside Alias = false
is_inside Separate = false
is_inside Inside = true
is_inside Around = false
is_inside Overlap = false
is_inside Unknown = false

-- whether a relation is Around
abbrev pub is_around : Relation → Bool
is_around Alias = false
is_around Separate = false
is_around Inside = false
is_around Around = true
is_around Overlap = false
is_around Unknown = false

-- ---- one level

-- the nodes of a level whose relation passes a test
abbrev pub selected : (Relation → Bool) → (PlainSum → ℕ → Relation) → PlainForest → PlainForest
selected test rel none = none
selected test rel (cell ns b v under rest) =
    if test (related rel ns b) then cell ns b v under (selected test rel rest) else selected test rel rest

-- whether the region is Inside a node of a level
abbrev pub has_inside : (PlainSum → ℕ → Relation) → PlainForest → Bool
has_inside rel none = false
has_inside rel (cell ns b v under rest) = is_inside (related rel ns b) || has_inside rel rest

-- a level with one more node, before the first that it stands before
abbrev pub insert : List PlainSum → ℕ → Option PlainSum → PlainForest → PlainForest → PlainForest
insert ns b v under none = cell ns b v under none
insert ns b v under (cell ms c w below rest) =
    if comes_before ns b ms c then cell ns b v under (cell ms c w below rest)
    else cell ms c w below (insert ns b v under rest)

-- nodes that come to a level one after the other, the last first
abbrev pub inserted : List PlainNode → PlainForest → PlainForest
inserted [] f = f
inserted (n ∷ ns) f = insert n.names n.bytes n.value n.under (inserted ns f)

-- ---- down to a node or a level

-- a value that stays or goes
abbrev pub value_if : Bool → Option PlainSum → Option PlainSum
value_if true v = v
value_if false v = None

-- nodes that stay or go
abbrev pub nodes_if : Bool → PlainForest → PlainForest
nodes_if true f = f
nodes_if false f = none

-- the first node at the region takes a value; the nodes under it and the values above it stay or go
abbrev pub written : Bool → PlainSum → ℕ → Option PlainSum → PlainForest → PlainForest
written keep at a v none = none
written keep at a v (cell ns b w under rest) =
    if is_here at a ns b then cell ns b v (nodes_if keep under) rest
    else if found at a under then cell ns b (value_if keep w) (written keep at a v under) rest
    else cell ns b w under (written keep at a v rest)

-- a level in which the region is Inside a node: below the first such node, whose value stays or goes, and so on down,
-- the last level changes
abbrev pub inside_first : Bool → (PlainSum → ℕ → Relation) → (PlainForest → PlainForest) → PlainForest → PlainForest
inside_first keep rel change none = none
inside_first keep rel change (cell ns b w under rest) =
    if is_inside (related rel ns b)
    then cell ns b (value_if keep w)
    (if has_inside rel under then inside_first keep rel change under else change under) rest
    else cell ns b w under (inside_first keep rel change rest)

-- the level changes at which the region is Inside no node: the top level, or below the first node that it is Inside
abbrev pub at_level : Bool → (PlainSum → ℕ → Relation) → (PlainForest → PlainForest) → PlainForest → PlainForest
at_level keep rel change f = if has_inside rel f then inside_first keep rel change f else change f

-- whether a forest has room for one more node
abbrev pub has_room : PlainForest → Bool
has_room f = nat_lt (count f) 64
