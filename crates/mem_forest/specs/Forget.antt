-- What is left of a forest once a symbol is forgotten.
use Rattle.std.specs.Prelude.{ℕ, not, if◌then◌else◌, Option, Some, None, List, [], ◌∷◌, filter}
use Rattle.sym_terms.specs.declared.kinds.Sym.{Sym}
use Rattle.sym_terms.specs.Plain.{PlainSum}
use Rattle.sym_terms.specs.Mentions.{mentions}
use Rattle.mem_forest.specs.Plain.{PlainForest, none, cell}
use Rattle.mem_forest.specs.Levels.{insert}

-- the names that don't mention the symbol
abbrev pub unmentioned : Sym → List PlainSum → List PlainSum
unmentioned s names = filter (λ n. not (mentions s n)) names

-- a value, where it doesn't mention the symbol
abbrev pub unmentioned_value : Sym → Option PlainSum → Option PlainSum
unmentioned_value s None = None
unmentioned_value s (Some v) = if mentions s v then None else Some v

-- a level with one more node, in its place; a node without names goes with those under it
abbrev pub insert_named : List PlainSum → ℕ → Option PlainSum → PlainForest → PlainForest → PlainForest
insert_named [] b v under rest = rest
insert_named (n ∷ ns) b v under rest = insert (n ∷ ns) b v under rest

-- a forest without the names and values that mention a symbol, siblings in order again
abbrev pub forget : Sym → PlainForest → PlainForest
forget s none = none
forget s (cell ns b v under rest) =
    insert_named (unmentioned s ns) b (unmentioned_value s v) (forget s under) (forget s rest)
