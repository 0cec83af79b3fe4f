-- The first conjunct of one predicate that another doesn't entail.
use Rattle.std.specs.Prelude.{ℕ, ◌+◌, Bool, if◌then◌else◌, Option, Some, None, List, [], ◌∷◌}
use Rattle.std.specs.List.{zip}
use Rattle.std.specs.Option.{option_map, option_map_or, option_or}
use Rattle.sym_terms.specs.Plain.{PlainSum}
use Rattle.mem_forest.specs.Plain.{PlainForest, none, cell, PlainNode, count}
use Rattle.predicates.specs.declared.bound.Bound.{Bound}
use Rattle.predicates.specs.declared.conjunct.Conjunct as conjunct
use Rattle.predicates.specs.declared.conjunct.Conjunct.TheVariants as variant
use Rattle.predicates.specs.Predicate.{Predicate}
use Rattle.predicates.specs.Holding.{holds_term, holds_flags, holds_bound}
pub use Rattle.mem_forest.specs.Holders.{holder}

-- the place of the first item that fails a test, the first item of all being at n
abbrev pub missing_from : {A : Type 0} → (A → Bool) → ℕ → List A → Option ℕ
missing_from test n [] = None
missing_from test n (x ∷ xs) = if test x then missing_from test (n + 1) xs else Some n

-- the number of the first register that is known in the second list and isn't so in the first
abbrev pub missing_register : List (Option PlainSum) → List (Option PlainSum) → Option ℕ
missing_register held wanted = missing_from (λ x. holds_term x.0 x.1) 0 (zip held wanted)

-- the place of the first bound of the second list that none of the first holds
abbrev pub missing_bound : List Bound → List Bound → Option ℕ
missing_bound held wanted = missing_from (holds_bound held) 0 wanted

-- the place in preorder of the first node of the second level that has no holder in the first, or whose
-- children have none under that holder; the first node of all is at n
abbrev pub missing_cell : ℕ → PlainForest → PlainForest → Option ℕ
missing_cell n f none = None
missing_cell n f (cell ns b v under rest) =
    option_map_or (λ c. option_or (missing_cell (n + 1) c.under under) (missing_cell (n + 1 + count under) f rest))
    (holder f ns b v) (Some n)

-- the first conjunct of q, in the order registers, flags, bounds, cells, that p doesn't entail
abbrev pub missing : Predicate → Predicate → Option conjunct.Conjunct
missing p q =
    option_or (option_map variant.Register (missing_register p.regs q.regs))
    (option_or (if holds_flags p.flags q.flags then None else Some variant.Flags)
    (option_or (option_map variant.Bound (missing_bound p.bounds q.bounds))
    (option_map variant.Cell (missing_cell 0 p.forest q.forest))))
