-- The laws of the forest: answers of `relate` are true of the values, and each rule keeps what a forest says.
use Rattle.std.specs.Prelude.{◌≡◌, IsTrue, ◌⊎◌, ℕ, ◌^◌, ◌<◌, ◌≤◌, false, Option, List, [], ◌∷◌, ◌↔◌, Some}
use Rattle.std.specs.Ordering.{is_eq}
use Rattle.sym_terms.specs.declared.kinds.Sym.{Sym}
use Rattle.sym_terms.specs.Order.{sum_cmp, sym_cmp}
use Rattle.sym_terms.specs.Normal.{minus, IsTerm}
use Rattle.sym_terms.specs.Plain.{PlainSum, constant_alone}
use Rattle.sym_terms.specs.Value.{Valuation, value, value_of_symbol}
use Rattle.memory_regions.specs.declared.region.Region.{Region}
use Rattle.memory_regions.specs.declared.region.Relation.{Relation}
use Rattle.memory_regions.specs.declared.region.Relation.TheVariants.{Unknown}
use Rattle.memory_regions.specs.Relate.{Known, relate, by_offset}
use Rattle.mem_forest.specs.Plain.{PlainForest}
use Rattle.mem_forest.specs.Search.{value_at}
use Rattle.mem_forest.specs.Shape.{is_size}
use Rattle.mem_forest.specs.Store.{store}
use Rattle.mem_forest.specs.Load.{load}
use Rattle.mem_forest.specs.Alias.{alias}
use Rattle.mem_forest.specs.Forget.{forget}
use Rattle.mem_forest.specs.Clear.{clear_values}
use Rattle.x86_machine.specs.Memory.{loaded}
use Rattle.forest_meaning.specs.Separate.{past, Separate, Within}
use Rattle.forest_meaning.specs.Holds.{Tells, EachNode, Holds}
use Rattle.forest_meaning.specs.Assumed.{Keeps}

-- the value of a region's address, and the number in its bytes
abbrev pub number_in : (ℕ → ℕ) → Valuation → PlainSum → ℕ → ℕ
number_in m u at bytes = loaded m bytes (value u at)

-- two memories differ at most in the bytes of a region
abbrev pub DifferAt : Valuation → PlainSum → ℕ → (ℕ → ℕ) → (ℕ → ℕ) → Type 0
DifferAt u at bytes m m' = (p : ℕ) → p < 2 ^ 64 → bytes ≤ past (value u at) p → m' p ≡ m p

-- two valuations differ at most at a symbol
abbrev pub DifferAtSymbol : Sym → Valuation → Valuation → Type 0
DifferAtSymbol s u u' = (t : Sym) → is_eq (sym_cmp s t) ≡ false → value_of_symbol u' t ≡ value_of_symbol u t

-- the numbers in the bytes of each region are the same
abbrev pub SameNumbers : Valuation → (ℕ → ℕ) → (ℕ → ℕ) → List Region → Type 0
SameNumbers u m m' [] = Unit {0}
SameNumbers u m m' (r ∷ rs) = (number_in m' u r.at r.bytes ≡ number_in m u r.at r.bytes) × SameNumbers u m m' rs

-- two terms compare as equal exactly where their difference is the constant 0
abbrev pub DifferenceLaw : Type 0
DifferenceLaw = (a b : PlainSum) → IsTerm a → IsTerm b → IsTrue (is_eq (sum_cmp a b)) ↔ (constant_alone (minus a b) ≡ Some 0)

-- under the frame and the pairs, each answer of `relate` but Unknown is the one by the values
abbrev pub RelateLaw : Type 0
RelateLaw =
    (u : Valuation) (k : Known) → Keeps u k → (x : PlainSum) (a : ℕ) (y : PlainSum) (b : ℕ) → 1 ≤ a → 1 ≤ b
    → (relate k x a y b ≡ Unknown) ⊎ (relate k x a y b ≡ by_offset (past (value u x) (value u y)) a b)

-- a store holds of a memory that differs at most in the region's bytes, which are the number of the value
abbrev pub StoreLaw : Type 0
StoreLaw =
    (u : Valuation) (k : Known) → Keeps u k → (m m' : ℕ → ℕ) (at : PlainSum) (a : ℕ) (v : Option PlainSum)
    → IsTrue (is_size a) → DifferAt u at a m m' → Tells u v (number_in m' u at a)
    → (f : PlainForest) → Holds m u f → Holds m' u (store (relate k at a) at a v f)

-- a load holds with a name whose value is the number in the region's bytes
abbrev pub LoadLaw : Type 0
LoadLaw =
    (u : Valuation) (k : Known) → Keeps u k → (m : ℕ → ℕ) (at : PlainSum) (a : ℕ) (name : Option PlainSum)
    → IsTrue (is_size a) → Tells u name (number_in m u at a)
    → (f : PlainForest) → Holds m u f → Holds m u (load (relate k at a) at a name f)

-- an alias holds where both regions begin at one address
abbrev pub AliasLaw : Type 0
AliasLaw =
    (u : Valuation) (m : ℕ → ℕ) (t : PlainSum) (a : ℕ) (at : PlainSum) (b : ℕ) → value u t ≡ value u at
    → (f : PlainForest) → Holds m u f → Holds m u (alias t a at b f)

-- without a symbol a forest holds under each valuation that differs at that symbol alone
abbrev pub ForgetLaw : Type 0
ForgetLaw =
    (s : Sym) (u u' : Valuation) → DifferAtSymbol s u u'
    → (m : ℕ → ℕ) (f : PlainForest) → Holds m u f → Holds m u' (forget s f)

-- the value at a region is the number in its bytes
abbrev pub FindLaw : Type 0
FindLaw =
    (u : Valuation) (m : ℕ → ℕ) (at : PlainSum) (a : ℕ) (f : PlainForest) → Holds m u f
    → Tells u (value_at at a f) (number_in m u at a)

-- with the values of some regions alone a forest holds of each memory that has the same numbers in their bytes
abbrev pub ClearLaw : Type 0
ClearLaw =
    (u : Valuation) (m m' : ℕ → ℕ) (rs : List Region) → SameNumbers u m m' rs
    → (f : PlainForest) → Holds m u f → Holds m' u (clear_values rs f)

-- where each region of a level lies by one region: beside it, or inside it
pub data Placing : Type 0 where
  beside : Placing
  inside : Placing

-- c bytes at z lie beside b bytes at y, or inside them
abbrev pub Lies : Placing → ℕ → ℕ → ℕ → ℕ → Type 0
Lies beside y b z c = Separate y b z c
Lies inside y b z c = Within z c y b

-- each region of a level lies so by one region
abbrev pub AllLie : Valuation → Placing → ℕ → ℕ → PlainForest → Type 0
AllLie u p y b f = EachNode u (λ z c. Lies p y b z c) f

-- where all regions of a level, and the one that may come, lie beside or inside one region, they do so after each rule
pub record LevelLaws : Type 0 where
  pub store : (u : Valuation) (p : Placing) (y b : ℕ) (rel : PlainSum → ℕ → Relation) (at : PlainSum) (a : ℕ)
      (v : Option PlainSum) (f : PlainForest) → Lies p y b (value u at) a → AllLie u p y b f
      → AllLie u p y b (store rel at a v f)
  pub load : (u : Valuation) (p : Placing) (y b : ℕ) (rel : PlainSum → ℕ → Relation) (at : PlainSum) (a : ℕ)
      (name : Option PlainSum) (f : PlainForest) → Lies p y b (value u at) a → AllLie u p y b f
      → AllLie u p y b (load rel at a name f)
  pub alias : (u : Valuation) (p : Placing) (y b : ℕ) (m : ℕ → ℕ) (t : PlainSum) (a : ℕ) (at : PlainSum) (c : ℕ)
      → value u t ≡ value u at → (f : PlainForest) → Holds m u f → AllLie u p y b f
      → AllLie u p y b (alias t a at c f)
  pub forget : (s : Sym) (u u' : Valuation) → DifferAtSymbol s u u' → (p : Placing) (y b : ℕ) (m : ℕ → ℕ)
      (f : PlainForest) → Holds m u f → AllLie u p y b f → AllLie u' p y b (forget s f)
  pub clear : (u : Valuation) (p : Placing) (y b : ℕ) (rs : List Region) (f : PlainForest) → AllLie u p y b f
      → AllLie u p y b (clear_values rs f)
