-- The laws of entailment, from the lemmas on each kind of conjunct.
use Rattle.std.proofs.Common.{◌≡◌, true, List, [], ◌∷◌, get_or, Option, Some, None, Bool, refl, sym, subst, inl, inr}
use Rattle.std.specs.Prelude.{IsSomeAnd}
use Rattle.std.specs.List.{list_all}
use Rattle.std.proofs.lemmas.Bool.{and_parts, and_from, or_cases}
use Rattle.std.proofs.lemmas.List.Folds.{list_any_at}
use Rattle.sym_terms.specs.Plain.{PlainSum}
use Rattle.mem_forest.specs.Plain.{PlainNode}
use Rattle.mem_forest.specs.Search.{has_name}
use Rattle.predicates.specs.Holding.{same_term, holds_term}
use Rattle.predicates.specs.Places.{node_under, holds_node}
use Rattle.predicates.proofs.TermLemmas.{same_from, same_itself, term_holds, term_through}
use Rattle.predicates.proofs.AmongLemmas.{all_from}
use Rattle.entailment_laws.specs.Laws.{ReflexiveLaw, TransitiveLaw, SameLaw}
use Rattle.entailment_laws.proofs.WithinLemmas.{all_weaker, bound_itself, bound_through}

-- an address among names that pass passes
named_passes : (p : PlainSum → Bool) (ns : List PlainSum) (x : PlainSum) → list_all p ns ≡ true → has_name x ns ≡ true → p x ≡ true
named_passes p [] x e h = absurd (cc)
named_passes p (n ∷ ns) x e h =
    let both = and_parts (p n) (list_all p ns) e in
    elim (or_cases (same_term n x) (has_name x ns) h) as (λ w. p x ≡ true) [
      | inl q ↦ let P : PlainSum → Type 0 = λ y. p y ≡ true in subst P (same_from n x q) both.0
      | inr q ↦ named_passes p ns x both.1 q
    ]

pub node_itself : (c : PlainNode) → holds_node c c.names c.value ≡ true
node_itself c =
    let names : list_all (λ n. has_name n c.names) c.names ≡ true =
    all_from (λ n. has_name n c.names) c.names (λ i d h. list_any_at (λ name. same_term name (get_or c.names i d)) c.names i d h (same_itself (get_or c.names i d))) in
    and_from (list_all (λ n. has_name n c.names) c.names) (holds_term c.value c.value) names (term_holds c.value c.value (λ t e. e))

node_through : (a b c : PlainNode) → holds_node a b.names b.value ≡ true → holds_node b c.names c.value ≡ true → holds_node a c.names c.value ≡ true
node_through a b c e f =
    let p = and_parts (list_all (λ n. has_name n a.names) b.names) (holds_term a.value b.value) e in
    let q = and_parts (list_all (λ n. has_name n b.names) c.names) (holds_term b.value c.value) f in
    let names = all_weaker (λ n. has_name n b.names) (λ n. has_name n a.names) c.names (λ x t. named_passes (λ n. has_name n a.names) b.names x p.0 t) q.0 in
    and_from (list_all (λ n. has_name n a.names) c.names) (holds_term a.value c.value) names (term_through a.value b.value c.value p.1 q.1)

holder_itself : (o : Option PlainNode) (c : PlainNode) → o ≡ Some c → IsSomeAnd o (λ d. holds_node d c.names c.value ≡ true)
holder_itself o c e =
    let P : Option PlainNode → Type 0 = λ r. IsSomeAnd r (λ d. holds_node d c.names c.value ≡ true) in
    subst P (sym e) (node_itself c)

-- a predicate entails itself
pub reflexive : ReflexiveLaw
reflexive p = record {
  registers = λ r t e. e;
  flags = λ f e. e;
  bounds = bound_itself p.bounds;
  cells = λ ks at bytes c e. holder_itself (node_under ks at bytes p.forest) c e;
}

holder_through : (o p : Option PlainNode) (c : PlainNode) → ((d : PlainNode) → o ≡ Some d → IsSomeAnd p (λ x. holds_node x d.names d.value ≡ true))
    → IsSomeAnd o (λ d. holds_node d c.names c.value ≡ true) → IsSomeAnd p (λ x. holds_node x c.names c.value ≡ true)
holder_through None p c h k = absurd k
holder_through (Some d) None c h k = absurd (h d refl)
holder_through (Some d) (Some x) c h k = node_through x d c (h d refl) k

-- what is entailed by one that is entailed is entailed
pub transitive : TransitiveLaw
transitive p q r h k = record {
  registers = λ n t e. h.registers n t (k.registers n t e);
  flags = λ f e. h.flags f (k.flags f e);
  bounds = λ b m. bound_through p.bounds q.bounds h.bounds b (k.bounds b m);
  cells = λ ks at bytes c e. holder_through (node_under ks at bytes q.forest) (node_under ks at bytes p.forest) c (λ d f. h.cells ks at bytes d f) (k.cells ks at bytes c e);
}

-- predicates with the same parts are the same
pub same : SameLaw
same p q r f b c = λ i. record { regs = r i; flags = f i; bounds = b i; forest = c i }
