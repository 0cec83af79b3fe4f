-- What a predicate of numbers says, read back through a list of terms, and that its numbers are those of terms.
use Rattle.std.specs.Prelude.{ℕ, ◌<◌, Option, List, map, All, IfSome}
use Rattle.std.specs.Option.{option_map}
use Rattle.bits_core.specs.declared.width.Width.{Width}
use Rattle.sym_terms.specs.Plain.{PlainSum}
use Rattle.mem_forest.specs.Plain.{PlainForest, none, cell, PlainNode}
use Rattle.mem_forest.specs.Shape.{IsForest}
use Rattle.predicates.specs.declared.bound.FlagFact.{FlagFact}
use Rattle.predicates.specs.declared.bound.Values.{Values}
use Rattle.predicates.specs.declared.bound.Bound.{Bound}
use Rattle.predicates.specs.Predicate.{Predicate, IsPredicate}
use Rattle.term_bank.specs.Terms.{term_at}
use Rattle.bank_values.specs.Numbered.{NumberForest, empty, spot, NumberNode, level}
use Rattle.bank_values.specs.declared.pred.BankPred.{BankPred}

-- ---- what is said

-- the term of a number that may be none
abbrev pub known_at : List PlainSum → Option ℕ → Option PlainSum
known_at terms n = option_map (term_at terms) n

-- a flag fact
abbrev pub fact_at : List PlainSum → Width × ℕ × ℕ → FlagFact
fact_at terms f = record { width = f.0; left = term_at terms f.1; right = term_at terms f.2 }

-- a bound
abbrev pub bound_at : List PlainSum → ℕ × Values → Bound
bound_at terms b = record { key = term_at terms b.0; set = b.1 }

-- a forest
abbrev pub forest_at : List PlainSum → NumberForest → PlainForest
forest_at terms empty = none
forest_at terms (spot ns b v under rest) =
    cell (map (term_at terms) ns) b (known_at terms v) (forest_at terms under) (forest_at terms rest)

-- a node
abbrev pub node_at : List PlainSum → NumberNode → PlainNode
node_at terms c = record {
  names = map (term_at terms) c.names;
  bytes = c.bytes;
  value = known_at terms c.value;
  under = forest_at terms c.under;
}

-- a predicate
abbrev pub predicate_at : List PlainSum → BankPred → Predicate
predicate_at terms p = record {
  regs = map (known_at terms) p.regs.items;
  flags = option_map (fact_at terms) p.flags;
  bounds = map (bound_at terms) p.bounds.items;
  forest = forest_at terms (level p.nodes.items);
}

-- that it is one in form
pub record IsPred (p : Predicate) : Type 0 where
  pub formed : IsPredicate p
  pub forest : IsForest p.forest

-- ---- numbers of terms

-- a number that may be none is below n
abbrev pub IsKnownBelow : ℕ → Option ℕ → Type 0
IsKnownBelow n r = IfSome r (λ m. m < n)

-- each number of a forest is below n
abbrev pub AreBelow : ℕ → NumberForest → Type 0
AreBelow n empty = Unit {0}
AreBelow n (spot ns b v under rest) =
    (All (λ m. m < n) ns × IsKnownBelow n v) × (AreBelow n under × AreBelow n rest)

-- the same, of a node
abbrev pub IsNodeBelow : ℕ → NumberNode → Type 0
IsNodeBelow n c = (All (λ m. m < n) c.names × IsKnownBelow n c.value) × AreBelow n c.under

-- each number of a predicate is below n
pub record IsBelow (n : ℕ) (p : BankPred) : Type 0 where
  pub regs : All (IsKnownBelow n) p.regs.items
  pub flags : IfSome p.flags (λ f. (f.1 < n) × (f.2 < n))
  pub bounds : All (λ b. b.0 < n) p.bounds.items
  pub nodes : AreBelow n (level p.nodes.items)
