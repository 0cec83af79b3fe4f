-- The value of a found node, and the values that stay after a call.
use Rattle.std.proofs.Common.{◌≡◌, ℕ, inl, inr, true, false, List, [], ◌∷◌, Option, Some, None, refl, sym, subst}
use Rattle.std.proofs.lemmas.Bool.{or_cases}
use Rattle.sym_terms.specs.Plain.{PlainSum}
use Rattle.sym_terms.specs.Value.{Valuation, value}
use Rattle.memory_regions.specs.declared.region.Region.{Region}
use Rattle.mem_forest.specs.Plain.{PlainForest, none, cell, PlainNode}
use Rattle.mem_forest.specs.Search.{is_here, find, value_of_found, value_at}
use Rattle.mem_forest.specs.Levels.{value_if}
use Rattle.mem_forest.specs.Clear.{is_any_here, clear_values}
use Rattle.forest_laws.specs.Laws.{SameNumbers}
use Rattle.x86_machine.specs.Memory.{loaded}
use Rattle.forest_meaning.specs.Separate.{Separate, Within}
use Rattle.forest_meaning.specs.Holds.{Tells, AllAre, address, EachNode, Holds}
use Rattle.forest_laws.proofs.RelationLemmas.{here_bytes, here_at}

abbrev found_or : Option PlainNode → Option PlainNode → Option PlainNode
found_or o p = elim o as (λ o. Option PlainNode) [ Some c ↦ Some c | None ↦ p ]

either_number : (u : Valuation) (k : ℕ) (o p : Option PlainNode) → Tells u (value_of_found o) k → Tells u (value_of_found p) k → Tells u (value_of_found (found_or o p)) k
either_number u k (Some c) p h g = h
either_number u k None p h g = g

pub value_number : (u : Valuation) (m : ℕ → ℕ) (at : PlainSum) (a : ℕ) (f : PlainForest) → Holds m u f → Tells u (value_at at a f) (loaded m a (value u at))
value_number u m at a none h = tt
value_number u m at a (cell ns b v under rest) h =
    (elim (is_here at a ns b) as (λ o. is_here at a ns b ≡ o → Tells u (value_of_found (elim o as (λ t. Option PlainNode) [
      | true ↦ Some (record { names = ns; bytes = b; value = v; under = under })
      | false ↦ found_or (find at a under) (find at a rest)
    ])) (loaded m a (value u at))) [
      | true ↦ λ e. subst (λ x. Tells u v (loaded m a x)) (here_at u at a ns b h.0.named e) (subst (λ c. Tells u v (loaded m c (address u ns))) (here_bytes at a ns b e) h.0.valued)
      | false ↦ λ e. either_number u (loaded m a (value u at)) (find at a under) (find at a rest) (value_number u m at a under h.1) (value_number u m at a rest h.2)
    ]) refl

-- the regions stay as they are
pub clear_each : (u : Valuation) (rs : List Region) (P : ℕ → ℕ → Type 0) (f : PlainForest) → EachNode u P f → EachNode u P (clear_values rs f)
clear_each u rs P none e = tt
clear_each u rs P (cell ns b v under rest) e = (e.0, clear_each u rs P rest e.1)

module _ (u : Valuation) (m m' : ℕ → ℕ) (rs : List Region) (same : SameNumbers u m m' rs) where
  -- the number in the bytes of a node at one of the regions is the same
  same_at : (qs : List Region) → SameNumbers u m m' qs → (ns : List PlainSum) (b : ℕ) → AllAre u (address u ns) ns → is_any_here qs ns b ≡ true → loaded m' b (address u ns) ≡ loaded m b (address u ns)
  same_at [] s ns b h e = absurd (cc)
  same_at (r ∷ qs) s ns b h e = elim (or_cases (is_here r.at r.bytes ns b) (is_any_here qs ns b) e) [
    | inl p ↦
        subst (λ x. loaded m' b x ≡ loaded m b x) (sym (here_at u r.at r.bytes ns b h p))
        (subst (λ c. loaded m' c (value u r.at) ≡ loaded m c (value u r.at)) (sym (here_bytes r.at r.bytes ns b p)) s.0)
    | inr p ↦ same_at qs s.1 ns b h p
  ]

  -- so is that of the value that stays
  value_stays : (ns : List PlainSum) (b : ℕ) (v : Option PlainSum) → AllAre u (address u ns) ns → Tells u v (loaded m b (address u ns)) → Tells u (value_if (is_any_here rs ns b) v) (loaded m' b (address u ns))
  value_stays ns b v h n = (elim (is_any_here rs ns b) as (λ o. is_any_here rs ns b ≡ o → Tells u (value_if o v) (loaded m' b (address u ns))) [
    | true ↦ λ e. subst (λ k. Tells u v k) (sym (same_at rs same ns b h e)) n
    | false ↦ λ e. tt
  ]) refl

  pub clear_holds : (f : PlainForest) → Holds m u f → Holds m' u (clear_values rs f)
  clear_holds none h = tt
  clear_holds (cell ns b v under rest) h = (
    record {
      sized = h.0.sized;
      named = h.0.named;
      valued = value_stays ns b v h.0.named h.0.valued;
      inside = clear_each u rs (λ z c. Within z c (address u ns) b) under h.0.inside;
      separate = clear_each u rs (λ z c. Separate (address u ns) b z c) rest h.0.separate;
    },
    clear_holds under h.1,
    clear_holds rest h.2,
  )
