-- The number of nodes after a node of a level was changed, and the room that is left.
use Rattle.std.proofs.Common.{◌≡◌, ℕ, zero, suc, ◌+◌, ◌<◌, ◌≤◌, Bool, true, false, List, [], ◌∷◌, length, slice_set, slice_index_or, sym, ◌∙◌, inl, inr, arith}
use Rattle.std.specs.Prelude.{nat_lt, if◌then◌else◌}
use Rattle.std.proofs.lemmas.Bool.{cases_lt, lt-ltb, le-ltb}
use Rattle.sym_terms.specs.Plain.{PlainSum}
use Rattle.memory_regions.specs.declared.region.Relation.{Relation}
use Rattle.mem_forest.specs.Plain.{PlainForest, none, cell, PlainNode, cells, count}
use Rattle.mem_forest.specs.Levels.{related, selected}

-- two tests of numbers that differ alike give one answer
pub nat_lt-same : (a b c d : ℕ) → a + d ≡ c + b → nat_lt a b ≡ nat_lt c d
nat_lt-same a b c d e = elim (cases_lt a b) [
  | inl h ↦ lt-ltb a b h ∙ sym (lt-ltb c d (omega (arith, e, h)))
  | inr h ↦ le-ltb a b h ∙ sym (le-ltb c d (omega (arith, e, h)))
]

-- a changed node changes the count by what is under it
pub count-set : (xs : List PlainNode) (i : ℕ) (d y : PlainNode) → i < length xs → count (cells (slice_set xs i y)) + count (slice_index_or xs i d).under ≡ count (cells xs) + count y.under
count-set [] i d y h = absurd (omega arith)
count-set (x ∷ xs) zero d y h = omega arith
count-set (x ∷ xs) (suc i) d y h = omega (arith, count-set xs i d y (omega arith))

-- so there are more nodes than under one of them
pub count-under : (xs : List PlainNode) (i : ℕ) (d : PlainNode) → i < length xs → count (slice_index_or xs i d).under < count (cells xs)
count-under [] i d h = absurd (omega arith)
count-under (x ∷ xs) zero d h = omega arith
count-under (x ∷ xs) (suc i) d h = omega (arith, count-under xs i d (omega arith))

-- where some nodes of a level go there are not more
pub count-selected : (test : Relation → Bool) (rel : PlainSum → ℕ → Relation) (f : PlainForest) → count (selected test rel f) ≤ count f
count-selected test rel none = omega arith
count-selected test rel (cell ns b v under rest) =
    elim (test (related rel ns b)) as (λ t. count (if t then cell ns b v under (selected test rel rest) else selected test rel rest) ≤ count under + count rest + 1) [
      | true ↦ omega (arith, count-selected test rel rest)
      | false ↦ omega (arith, count-selected test rel rest)
    ]
