-- What holds of the nodes of a forest that is true: of their names, and of the value of a found one.
use Rattle.std.proofs.Common.{◌≡◌, ℕ, inl, inr, true, false, List, [], ◌∷◌, Option, Some, None, refl, sym, ap, subst, ◌∙◌}
use Rattle.std.specs.Prelude.{◌==◌}
use Rattle.std.specs.Option.{option_and_then}
use Rattle.std.proofs.lemmas.Bool.{eqb-true, and_parts, or_cases}
use Rattle.sym_terms.specs.Plain.{PlainSum}
use Rattle.sym_terms.specs.Value.{Valuation, value}
use Rattle.mem_forest.specs.Plain.{PlainForest, none, cell, PlainNode}
use Rattle.mem_forest.specs.Search.{has_name, is_here, find}
use Rattle.predicates.specs.Holding.{same_term}
use Rattle.predicates.proofs.TermLemmas.{same_from}
use Rattle.x86_machine.specs.Memory.{loaded}
use Rattle.forest_meaning.specs.Separate.{Separate}
use Rattle.forest_meaning.specs.Holds.{AllAre, address, Tells, Holds}

pub separate_sym : (x a y b : ℕ) → Separate x a y b → Separate y b x a
separate_sym x a y b p = record { after = p.before; before = p.after }

-- each of the names has the value of a term that is among them
pub any_named : (u : Valuation) (x : ℕ) (at : PlainSum) (ns : List PlainSum) → AllAre u x ns → has_name at ns ≡ true → x ≡ value u at
any_named u x at [] h e = absurd (cc)
any_named u x at (n ∷ ns) h e = elim (or_cases (same_term n at) (has_name at ns) e) [
  | inl p ↦ sym h.0 ∙ ap (value u) (same_from n at p)
  | inr p ↦ any_named u x at ns h.1 p
]

here_bytes : (at : PlainSum) (a : ℕ) (ns : List PlainSum) (b : ℕ) → is_here at a ns b ≡ true → b ≡ a
here_bytes at a ns b e = eqb-true b a (and_parts (b == a) (has_name at ns) e).0

here_at : (u : Valuation) (at : PlainSum) (a : ℕ) (ns : List PlainSum) (b : ℕ) → AllAre u (address u ns) ns → is_here at a ns b ≡ true → address u ns ≡ value u at
here_at u at a ns b h e = any_named u (address u ns) at ns h (and_parts (b == a) (has_name at ns) e).1

-- the value of the node that is found
abbrev value_of : Option PlainNode → Option PlainSum
value_of o = option_and_then (λ node. node.value) o

abbrev found_or : Option PlainNode → Option PlainNode → Option PlainNode
found_or o p = elim o as (λ o. Option PlainNode) [ Some c ↦ Some c | None ↦ p ]

either_number : (u : Valuation) (k : ℕ) (o p : Option PlainNode) → Tells u (value_of o) k → Tells u (value_of p) k → Tells u (value_of (found_or o p)) k
either_number u k (Some c) p h g = h
either_number u k None p h g = g

-- the value of a found node is the number in the region's bytes
pub found_number : (u : Valuation) (m : ℕ → ℕ) (at : PlainSum) (a : ℕ) (f : PlainForest) → Holds m u f → Tells u (value_of (find at a f)) (loaded m a (value u at))
found_number u m at a none h = tt
found_number u m at a (cell ns b v under rest) h =
    (elim (is_here at a ns b) as (λ o. is_here at a ns b ≡ o → Tells u (value_of (elim o as (λ t. Option PlainNode) [
      | true ↦ Some (record { names = ns; bytes = b; value = v; under = under })
      | false ↦ found_or (find at a under) (find at a rest)
    ])) (loaded m a (value u at))) [
      | true ↦ λ e. subst (λ x. Tells u v (loaded m a x)) (here_at u at a ns b h.0.named e) (subst (λ c. Tells u v (loaded m c (address u ns))) (here_bytes at a ns b e) h.0.valued)
      | false ↦ λ e. either_number u (loaded m a (value u at)) (find at a under) (find at a rest) (found_number u m at a under h.1) (found_number u m at a rest h.2)
    ]) refl
