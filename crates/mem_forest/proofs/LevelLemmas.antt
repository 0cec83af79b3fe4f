-- One more node, or name, of a slice, and none.
use Rattle.std.proofs.Common.{◌≡◌, ℕ, ◌+◌, ◌<◌, ◌≤◌, true, List, [], ◌∷◌, drop, length, refl, sym, ap, ◌∙◌, slice_index_or, arith}
use Rattle.std.proofs.lemmas.List.{drop_more, drop_all}
use Rattle.sym_terms.specs.Plain.{PlainSum}
use Rattle.mem_forest.specs.Plain.{none, cell, PlainNode, cells}
use Rattle.mem_forest.specs.Shape.{ascending}

-- what is left of a level from a node on is that node and what is left behind it
pub cells_at : (xs : List PlainNode) (i : ℕ) (x : PlainNode) → x ≡ slice_index_or xs i x → i < length xs
    → cells (drop i xs) ≡ cell x.names x.bytes x.value x.under (cells (drop (i + 1) xs))
cells_at xs i x e h = ap cells (drop_more xs i x h ∙ ap (λ y. y ∷ drop (i + 1) xs) (sym e))

-- nothing is left behind the last node
pub cells_end : (xs : List PlainNode) (i : ℕ) → length xs ≤ i → cells (drop i xs) ≡ none
cells_end xs i h = ap cells (drop_all i xs h)

-- one name ascends
pub ascending_short : (xs : List PlainSum) → length xs ≤ 1 → ascending xs ≡ true
ascending_short [] h = refl
ascending_short (x ∷ []) h = refl
ascending_short (x ∷ y ∷ ys) h = absurd (omega arith)
