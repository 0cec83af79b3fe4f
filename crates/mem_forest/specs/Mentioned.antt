-- Where a symbol stands in a forest.
use Rattle.std.specs.Prelude.{Bool, false, ◌||◌, Option, Some, None, List}
use Rattle.std.specs.List.{list_any}
use Rattle.sym_terms.specs.declared.kinds.Sym.{Sym}
use Rattle.sym_terms.specs.Plain.{PlainSum}
use Rattle.sym_terms.specs.Mentions.{mentions}
use Rattle.mem_forest.specs.Plain.{PlainForest, none, cell}

-- whether a value, where it is known, mentions the symbol
abbrev pub value_mentions : Sym → Option PlainSum → Bool
value_mentions s None = false
value_mentions s (Some t) = mentions s t

-- whether one of the names mentions it
abbrev pub names_mention : Sym → List PlainSum → Bool
names_mention s names = list_any (λ n. mentions s n) names

-- whether a name or a value of a forest mentions it
abbrev pub forest_mentions : Sym → PlainForest → Bool
forest_mentions s none = false
forest_mentions s (cell ns b v under rest) =
    (names_mention s ns || value_mentions s v) || (forest_mentions s under || forest_mentions s rest)
