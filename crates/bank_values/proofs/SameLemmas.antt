-- Predicates of numbers of terms that differ read the same exactly where the numbers are the same.
use Rattle.std.proofs.Common.{◌≡◌, ◌<◌, ◌↔◌, ℕ, List, [], ◌∷◌, Option, Some, None, map, length, refl, ap, sym, ◌∙◌, IsTrue, Bool}
use Rattle.std.specs.Prelude.{All, IfSome}
use Rattle.std.specs.Option.{option_map}
use Rattle.std.proofs.lemmas.List.Elements.{All-head, All-tail}
use Rattle.bits_core.specs.declared.width.Width.{Width}
use Rattle.sym_terms.specs.Plain.{PlainSum}
use Rattle.mem_forest.specs.Plain.{none, cell}
use Rattle.predicates.specs.declared.bound.FlagFact.{FlagFact}
use Rattle.predicates.specs.declared.bound.Values.{Values}
use Rattle.predicates.specs.declared.bound.Bound.{Bound}
use Rattle.predicates.specs.Predicate.{Predicate}
use Rattle.term_bank.specs.Terms.{term_at, AreApart}
use Rattle.bank_values.specs.Numbered.{NumberForest, empty, spot, NumberNode, level}
use Rattle.bank_values.specs.ReadBack.{known_at, fact_at, bound_at, forest_at, predicate_at, IsKnownBelow, AreBelow, IsBelow}
use Rattle.bank_values.specs.declared.pred.BankPred.{BankPred}
use Rattle.bank_values.specs.Same.{HasSameSpot, HasSameRegisters, HasSameMemory}

-- items that read the same are the same, where each of them does
pub map_same_back : {A X : Type 0} (P : A → Type 0) (f : A → X) → ((a b : A) → P a → P b → f a ≡ f b → a ≡ b) → (xs ys : List A) → All P xs → All P ys → map f xs ≡ map f ys → xs ≡ ys
map_same_back P f inj [] [] h k e = refl
map_same_back P f inj [] (y ∷ ys) h k e = absurd (let g : ⊥ = cc in g)
map_same_back P f inj (x ∷ xs) [] h k e = absurd (let g : ⊥ = cc in g)
map_same_back P f inj (x ∷ xs) (y ∷ ys) h k e =
    let head : f x ≡ f y = cc in
    let tail : map f xs ≡ map f ys = cc in
    let a = inj x y (All-head P x xs h) (All-head P y ys k) head in
    let b = map_same_back P f inj xs ys (All-tail P x xs h) (All-tail P y ys k) tail in
    λ i. a i ∷ b i

module _ (ts : List PlainSum) (apart : AreApart ts) where
  number_back : (m n : ℕ) → m < length ts → n < length ts → term_at ts m ≡ term_at ts n → m ≡ n
  number_back m n h k e = apart m n h k e

  known_back : (a b : Option ℕ) → IsKnownBelow (length ts) a → IsKnownBelow (length ts) b → known_at ts a ≡ known_at ts b → a ≡ b
  known_back None None h k e = refl
  known_back None (Some n) h k e = absurd (let g : ⊥ = cc in g)
  known_back (Some m) None h k e = absurd (let g : ⊥ = cc in g)
  known_back (Some m) (Some n) h k e = let s : term_at ts m ≡ term_at ts n = cc in ap Some (apart m n h k s)

  bound_back : (a b : ℕ × Values) → a.0 < length ts → b.0 < length ts → bound_at ts a ≡ bound_at ts b → a ≡ b
  bound_back a b h k e =
      let key = apart a.0 b.0 h k (ap {A = Bound} (λ x. x.key) e) in
      let set = ap {A = Bound} (λ x. x.set) e in
      λ i. (key i, set i)

  fact_back : (a b : Option (Width × ℕ × ℕ)) → IfSome a (λ f. (f.1 < length ts) × (f.2 < length ts)) → IfSome b (λ f. (f.1 < length ts) × (f.2 < length ts)) → option_map (fact_at ts) a ≡ option_map (fact_at ts) b → a ≡ b
  fact_back None None h k e = refl
  fact_back None (Some g) h k e = absurd (let f : ⊥ = cc in f)
  fact_back (Some f) None h k e = absurd (let g : ⊥ = cc in g)
  fact_back (Some f) (Some g) h k e =
      let s : fact_at ts f ≡ fact_at ts g = cc in
      let width = ap {A = FlagFact} (λ x. x.width) s in
      let left = apart f.1 g.1 h.0 k.0 (ap {A = FlagFact} (λ x. x.left) s) in
      let right = apart f.2 g.2 h.1 k.1 (ap {A = FlagFact} (λ x. x.right) s) in
      λ i. Some (width i, left i, right i)

  forest_back : (f g : NumberForest) → AreBelow (length ts) f → AreBelow (length ts) g → forest_at ts f ≡ forest_at ts g → f ≡ g
  forest_back empty empty h k e = refl
  forest_back empty (spot ms c w below beside) h k e = absurd (let g : ⊥ = cc in g)
  forest_back (spot ns b v under rest) empty h k e = absurd (let g : ⊥ = cc in g)
  forest_back (spot ns b v under rest) (spot ms c w below beside) h k e =
      let names : map (term_at ts) ns ≡ map (term_at ts) ms = cc in
      let bytes : b ≡ c = cc in
      let value : known_at ts v ≡ known_at ts w = cc in
      let inner : forest_at ts under ≡ forest_at ts below = cc in
      let outer : forest_at ts rest ≡ forest_at ts beside = cc in
      let p = map_same_back (λ m. m < length ts) (term_at ts) number_back ns ms h.0.0 k.0.0 names in
      let q = known_back v w h.0.1 k.0.1 value in
      let r = forest_back under below h.1.0 k.1.0 inner in
      let s = forest_back rest beside h.1.1 k.1.1 outer in
      λ i. spot (p i) (bytes i) (q i) (r i) (s i)

  registers_back : (p q : BankPred) → IsBelow (length ts) p → IsBelow (length ts) q → predicate_at ts p ≡ predicate_at ts q → HasSameRegisters p q
  registers_back p q h k e = record {
    regs = map_same_back (IsKnownBelow (length ts)) (known_at ts) known_back p.regs.items q.regs.items h.regs k.regs (ap {A = Predicate} (λ x. x.regs) e);
    flags = fact_back p.flags q.flags h.flags k.flags (ap {A = Predicate} (λ x. x.flags) e);
  }

  memory_back : (p q : BankPred) → IsBelow (length ts) p → IsBelow (length ts) q → predicate_at ts p ≡ predicate_at ts q → HasSameMemory p q
  memory_back p q h k e = record {
    bounds = map_same_back (λ b. b.0 < length ts) (bound_at ts) bound_back p.bounds.items q.bounds.items h.bounds k.bounds (ap {A = Predicate} (λ x. x.bounds) e);
    nodes = forest_back (level p.nodes.items) (level q.nodes.items) h.nodes k.nodes (ap {A = Predicate} (λ x. x.forest) e);
  }

same_there : (ts : List PlainSum) (p q : BankPred) → HasSameRegisters p q → HasSameMemory p q → predicate_at ts p ≡ predicate_at ts q
same_there ts p q h k = λ i. record {
  regs = map (known_at ts) (h.regs i);
  flags = option_map (fact_at ts) (h.flags i);
  bounds = map (bound_at ts) (k.bounds i);
  forest = forest_at ts (k.nodes i);
}

-- predicates with the same numbers read the same, and only they do
pub same_exactly : (p q : BankPred) (ts : List PlainSum) → AreApart ts → IsBelow (length ts) p → IsBelow (length ts) q → (HasSameRegisters p q × HasSameMemory p q) ↔ (predicate_at ts p ≡ predicate_at ts q)
same_exactly p q ts apart h k = (λ s. same_there ts p q s.0 s.1, λ e. (registers_back ts apart p q h k e, memory_back ts apart p q h k e))

-- levels that are the same have the same nodes
level_back : (cs ds : List NumberNode) → level cs ≡ level ds → cs ≡ ds
level_back [] [] e = refl
level_back [] (d ∷ ds) e = absurd (let f : ⊥ = cc in f)
level_back (c ∷ cs) [] e = absurd (let f : ⊥ = cc in f)
level_back (c ∷ cs) (d ∷ ds) e =
    let names : c.names ≡ d.names = cc in
    let bytes : c.bytes ≡ d.bytes = cc in
    let value : c.value ≡ d.value = cc in
    let under : c.under ≡ d.under = cc in
    let rest : level cs ≡ level ds = cc in
    let tail = level_back cs ds rest in
    λ i. (record { names = names i; bytes = bytes i; value = value i; under = under i }) ∷ tail i

-- nodes with the same addresses, size and value are the same exactly where the nodes under them are
pub node_exactly : (c d : NumberNode) (cs ds : List NumberNode) → HasSameSpot c d → c.under ≡ level cs → d.under ≡ level ds → (cs ≡ ds) ↔ (c ≡ d)
node_exactly c d cs ds s p q = (
  (λ e. let under : c.under ≡ d.under = p ∙ ap level e ∙ sym q in λ i. record { names = s.names i; bytes = s.bytes i; value = s.value i; under = under i }),
  (λ e. level_back cs ds (sym p ∙ ap {A = NumberNode} (λ x. x.under) e ∙ q)),
)

pub levels_exactly : (cs ds : List NumberNode) → (cs ≡ ds) ↔ (level cs ≡ level ds)
levels_exactly cs ds = (ap level, level_back cs ds)
