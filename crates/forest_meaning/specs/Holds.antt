-- When a forest is true of a memory, under the values of its symbols.
use Rattle.std.specs.Prelude.{◌≡◌, IsTrue, ℕ, Option, List, [], ◌∷◌, IfSome}
use Rattle.sym_terms.specs.Plain.{PlainSum}
use Rattle.sym_terms.specs.Value.{Valuation, value}
use Rattle.sym_terms.specs.Normal.{IsNormal}
use Rattle.mem_forest.specs.Plain.{PlainForest, none, cell}
use Rattle.mem_forest.specs.Shape.{is_size}
use Rattle.x86_machine.specs.Memory.{loaded}
use Rattle.forest_meaning.specs.Separate.{Separate, Within}

-- a term in normal form has the value
pub record Means (u : Valuation) (t : PlainSum) (n : ℕ) : Type 0 where
  pub normal : IsNormal t
  pub value : value u t ≡ n

-- so has a term that may be unknown, where it is known
abbrev pub Tells : Valuation → Option PlainSum → ℕ → Type 0
Tells u t n = IfSome t (λ a. Means u a n)

-- each name has the value
abbrev pub AllAre : Valuation → ℕ → List PlainSum → Type 0
AllAre u x [] = Unit {0}
AllAre u x (n ∷ ns) = (value u n ≡ x) × AllAre u x ns

-- the address of a node: the value of its first name
abbrev pub address : Valuation → List PlainSum → ℕ
address u [] = 0
address u (n ∷ ns) = value u n

-- P holds of address and size of each node of a level
abbrev pub EachNode : Valuation → (ℕ → ℕ → Type 0) → PlainForest → Type 0
EachNode u P none = Unit {0}
EachNode u P (cell ns b v under rest) = P (address u ns) b × EachNode u P rest

-- one node is true: its names are one address, its value is the number in its bytes, the nodes under it lie in it, and
-- those after it on its level are separate from it
pub record NodeHolds (m : ℕ → ℕ) (u : Valuation) (ns : List PlainSum) (b : ℕ) (v : Option PlainSum) (under rest : PlainForest) : Type 0 where
  pub sized : IsTrue (is_size b)
  pub named : AllAre u (address u ns) ns
  pub valued : Tells u v (loaded m b (address u ns))
  pub inside : EachNode u (λ y c. Within y c (address u ns) b) under
  pub separate : EachNode u (λ y c. Separate (address u ns) b y c) rest

-- a forest is true of a memory: each of its nodes is
abbrev pub Holds : (ℕ → ℕ) → Valuation → PlainForest → Type 0
Holds m u none = Unit {0}
Holds m u (cell ns b v under rest) = NodeHolds m u ns b v under rest × Holds m u under × Holds m u rest
