-- Levels of nodes as lists and as forests.
use Rattle.std.proofs.Common.{◌≡◌, ℕ, List, [], ◌∷◌, map, refl, ap}
use Rattle.std.specs.Prelude.{All}
use Rattle.std.proofs.lemmas.List.Elements.{All-head, All-tail}
use Rattle.sym_terms.specs.Plain.{PlainSum}
use Rattle.mem_forest.specs.Plain.{cell, cells}
use Rattle.bank_values.specs.Numbered.{NumberNode, level}
use Rattle.bank_values.specs.ReadBack.{known_at, forest_at, node_at, AreBelow, IsNodeBelow}
use Rattle.term_bank.specs.Terms.{term_at}

-- the nodes that are read back one by one are those of the forest that is read back
pub level_at : (terms : List PlainSum) (cs : List NumberNode) → cells (map (node_at terms) cs) ≡ forest_at terms (level cs)
level_at terms [] = refl
level_at terms (c ∷ cs) = ap (cell (map (term_at terms) c.names) c.bytes (known_at terms c.value) (forest_at terms c.under)) (level_at terms cs)

-- nodes with numbers below n have them so as a forest
pub level_below : (n : ℕ) (cs : List NumberNode) → All (IsNodeBelow n) cs → AreBelow n (level cs)
level_below n [] h = tt
level_below n (c ∷ cs) h =
    let own = All-head (IsNodeBelow n) c cs h in (own.0, (own.1, level_below n cs (All-tail (IsNodeBelow n) c cs h)))
