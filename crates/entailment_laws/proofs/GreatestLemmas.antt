-- What is left of a predicate has each conjunct of it that the other entails.
use Rattle.std.proofs.Common.{◌≡◌, ℕ, zero, suc, ◌<◌, Bool, true, false, ◌||◌, List, [], ◌∷◌, length, slice_get, filter, Option, Some, None, refl, sym, ap, ◌∙◌, subst, inl, inr, arith}
use Rattle.std.specs.Prelude.{cond, if◌then◌else◌, IsSomeAnd, slice_index_or, option_and_then, ◌==◌}
use Rattle.std.proofs.lemmas.Bool.{and_parts, eqb-true}
use Rattle.std.proofs.lemmas.Option.{option_and_then_some}
use Rattle.sym_terms.specs.Plain.{PlainSum}
use Rattle.mem_forest.specs.Plain.{PlainForest, none, cell, PlainNode}
use Rattle.mem_forest.specs.Holders.{comes_first, sibling, holds_node, holder, weakened}
use Rattle.predicates.specs.declared.bound.Bound.{Bound}
use Rattle.predicates.specs.Places.{node_under}
use Rattle.predicates.specs.Holding.{holds_term, holds_bound}
use Rattle.predicates.specs.Weaken.{weaker_registers}
use Rattle.predicates.proofs.TermLemmas.{same_from, term_holds, fact_holds}
use Rattle.predicates.proofs.PlaceLemmas.{is_keyed, node_of, chosen}
use Rattle.predicates.proofs.CellLemmas.{HoldsAll}
use Rattle.entailment_laws.specs.Laws.{GreatestLaw}
use Rattle.entailment_laws.proofs.WithinLemmas.{says, says_itself}
use Rattle.entailment_laws.proofs.LawLemmas.{node_itself}
use Rattle.entailment_laws.proofs.WeakenLemmas.{kept_by}

-- ---- the registers

stays_known : (hs ts : List (Option PlainSum)) (r : ℕ) (t : PlainSum) → slice_get hs r ≡ Some (Some t) → slice_get ts r ≡ Some (Some t) → slice_get (weaker_registers hs ts) r ≡ Some (Some t)
stays_known [] ts r t e f = absurd (cc)
stays_known (h ∷ hs) [] r t e f = absurd (cc)
stays_known (h ∷ hs) (x ∷ ts) zero t e f =
    let held : h ≡ Some t = cc in
    let wanted : x ≡ Some t = cc in
    let test : holds_term h x ≡ true = term_holds h x (λ s q. held ∙ sym wanted ∙ q) in
    ap (λ b. Some (if b then x else None)) test ∙ ap Some wanted
stays_known (h ∷ hs) (x ∷ ts) (suc r) t e f = stays_known hs ts r t e f

-- ---- the bounds

or_second : (a b : Bool) → b ≡ true → (a || b) ≡ true
or_second true b e = refl
or_second false b e = e

held_at : (p : Bound → Bool) (bs : List Bound) (b : Bound) (k : ℕ) → k < length bs → slice_index_or bs k b ≡ b → p b ≡ true → holds_bound (filter p bs) b ≡ true
held_at p [] b k lt is h = absurd (omega arith)
held_at p (x ∷ xs) b zero lt is h =
    let P : Bound → Type 0 = λ y. p y ≡ true in
    let S : Bound → Type 0 = λ y. says b y ≡ true in
    ap (λ t. holds_bound (cond t (x ∷ filter p xs) (filter p xs)) b) (subst P (sym is) h)
    ∙ ap (λ t. t || holds_bound (filter p xs) b) (subst S (sym is) (says_itself b))
held_at p (x ∷ xs) b (suc k) lt is h =
    let more = held_at p xs b k (omega (arith, lt)) is h in
    elim (p x) as (λ t. holds_bound (cond t (x ∷ filter p xs) (filter p xs)) b ≡ true) [
      | true ↦ or_second (says b x) (holds_bound (filter p xs) b) more
      | false ↦ more
    ]

-- ---- one node

-- a node that is found has the size and the first name
sibling_first : (at : PlainSum) (bytes : ℕ) (f : PlainForest) (d : PlainNode) → sibling at bytes f ≡ Some d → (d.bytes ≡ bytes) × (comes_first at d.names ≡ true)
sibling_first at bytes none d e = absurd (cc)
sibling_first at bytes (cell ns b v under rest) d e =
    elim (chosen (is_keyed at bytes ns b) (node_of ns b v under) (sibling at bytes rest) d e) as (λ w. (d.bytes ≡ bytes) × (comes_first at d.names ≡ true)) [
      | inl q ↦
          let key = and_parts (b == bytes) (comes_first at ns) q.0 in
          let P : PlainNode → Type 0 = λ x. (x.bytes ≡ bytes) × (comes_first at x.names ≡ true) in
          subst P q.1 (eqb-true b bytes key.0, key.1)
      | inr q ↦ sibling_first at bytes rest d q.1
    ]

-- a node that is found and holds another is its holder
holder_of : (held : PlainForest) (ns : List PlainSum) (b : ℕ) (v : Option PlainSum) (at : PlainSum) (e : PlainNode) → comes_first at ns ≡ true
    → sibling at b held ≡ Some e → holds_node e ns v ≡ true → holder held ns b v ≡ Some e
holder_of held [] b v at e k s h = absurd (cc)
holder_of held (n ∷ ns) b v at e k s h =
    let test : PlainNode → Option PlainNode = λ c. if holds_node c (n ∷ ns) v then Some c else None in
    let P : PlainSum → Type 0 = λ x. sibling x b held ≡ Some e in
    ap (λ o. option_and_then test o) (subst P (sym (same_from n at k)) s) ∙ ap (λ t. if t then Some e else None) h

-- a node with a holder is found among those that stay
still_found : (held f : PlainForest) (at : PlainSum) (bytes : ℕ) (d e : PlainNode) → sibling at bytes f ≡ Some d → holder held d.names d.bytes d.value ≡ Some e
    → sibling at bytes (weakened held f) ≡ Some (node_of d.names d.bytes d.value (weakened e.under d.under))
still_found held none at bytes d e s h = absurd (cc)
still_found held (cell ns b v under rest) at bytes d e s h =
    elim (chosen (is_keyed at bytes ns b) (node_of ns b v under) (sibling at bytes rest) d s) as (λ w. sibling at bytes (weakened held (cell ns b v under rest)) ≡ Some (node_of d.names d.bytes d.value (weakened e.under d.under))) [
      | inl q ↦
          let P : PlainNode → Type 0 = λ x. holder held x.names x.bytes x.value ≡ Some e → sibling at bytes (weakened held (cell ns b v under rest)) ≡ Some (node_of x.names x.bytes x.value (weakened e.under x.under)) in
          subst P q.1 (λ k. ap (λ o. sibling at bytes (kept_by held ns b v under rest o)) k
          ∙ ap (λ t. if t then Some (node_of ns b v (weakened e.under under)) else sibling at bytes (weakened held rest)) q.0) h
      | inr q ↦
          elim (holder held ns b v) as (λ o. sibling at bytes (kept_by held ns b v under rest o) ≡ Some (node_of d.names d.bytes d.value (weakened e.under d.under))) [
            | Some c ↦ ap (λ t. if t then Some (node_of ns b v (weakened c.under under)) else sibling at bytes (weakened held rest)) q.0 ∙ still_found held rest at bytes d e q.1 h
            | None ↦ still_found held rest at bytes d e q.1 h
          ]
    ]

-- ---- all nodes

record Found (o : Option PlainNode) (P : PlainNode → Type 0) : Type 0 where
  node : PlainNode
  is : o ≡ Some node
  holds : P node

found : (o : Option PlainNode) (P : PlainNode → Type 0) → IsSomeAnd o P → Found o P
found None P h = absurd h
found (Some x) P h = record { node = x; is = refl; holds = h }

-- each node of the second is one of the first, with the same names and value
abbrev HasAll : PlainForest → PlainForest → Type 0
HasAll f g = (parents : List (PlainSum × ℕ)) (at : PlainSum) (bytes : ℕ) (c : PlainNode) → node_under parents at bytes g ≡ Some c
    → IsSomeAnd (node_under parents at bytes f) (λ d. (d.names ≡ c.names) × (d.value ≡ c.value))

-- a node of the part, where the whole and the other have it, and what stays of it
record IsKept (held f : PlainForest) (at : PlainSum) (bytes : ℕ) (c : PlainNode) : Type 0 where
  whole : PlainNode
  other : PlainNode
  in_whole : sibling at bytes f ≡ Some whole
  in_other : sibling at bytes held ≡ Some other
  same : holds_node (node_of whole.names whole.bytes whole.value (weakened other.under whole.under)) c.names c.value ≡ true
  stays : sibling at bytes (weakened held f) ≡ Some (node_of whole.names whole.bytes whole.value (weakened other.under whole.under))

kept_node : (held f g : PlainForest) → HasAll f g → HoldsAll held g → (at : PlainSum) (bytes : ℕ) (c : PlainNode) → sibling at bytes g ≡ Some c → IsKept held f at bytes c
kept_node held f g has holds at bytes c s =
    let d = found (sibling at bytes f) (λ d. (d.names ≡ c.names) × (d.value ≡ c.value)) (has [] at bytes c s) in
    let e = found (sibling at bytes held) (λ e. holds_node e c.names c.value ≡ true) (holds [] at bytes c s) in
    let first = sibling_first at bytes f d.node d.is in
    let S : ℕ → Type 0 = λ b. sibling at b held ≡ Some e.node in
    let N : List PlainSum → Type 0 = λ ns. holds_node e.node ns c.value ≡ true in
    let V : Option PlainSum → Type 0 = λ v. holds_node e.node d.node.names v ≡ true in
    let is_holder = holder_of held d.node.names d.node.bytes d.node.value at e.node first.1 (subst S (sym first.0) e.is)
    (subst V (sym d.holds.1) (subst N (sym d.holds.0) e.holds)) in
    let left : PlainNode = node_of d.node.names d.node.bytes d.node.value (weakened e.node.under d.node.under) in
    let M : List PlainSum → Type 0 = λ ns. holds_node left ns d.node.value ≡ true in
    let W : Option PlainSum → Type 0 = λ v. holds_node left c.names v ≡ true in
    record {
      whole = d.node;
      other = e.node;
      in_whole = d.is;
      in_other = e.is;
      same = subst W d.holds.1 (subst M d.holds.0 (node_itself left));
      stays = still_found held f at bytes d.node e.node d.is is_holder;
    }

all_kept : (parents : List (PlainSum × ℕ)) (held f g : PlainForest) → HasAll f g → HoldsAll held g → (at : PlainSum) (bytes : ℕ) (c : PlainNode)
    → node_under parents at bytes g ≡ Some c → IsSomeAnd (node_under parents at bytes (weakened held f)) (λ x. holds_node x c.names c.value ≡ true)
all_kept [] held f g has holds at bytes c s =
    let k = kept_node held f g has holds at bytes c s in
    let P : Option PlainNode → Type 0 = λ o. IsSomeAnd o (λ x. holds_node x c.names c.value ≡ true) in
    subst P (sym k.stays) k.same
all_kept (p ∷ ps) held f g has holds at bytes c s =
    let below : List (PlainSum × ℕ) → PlainSum → ℕ → PlainNode → Option PlainNode = λ ks a b x. node_under ks a b x.under in
    let P : Option PlainNode → Type 0 = λ o. IsSomeAnd (option_and_then (below ps at bytes) o) (λ x. holds_node x c.names c.value ≡ true) in
    option_and_then_some (below ps at bytes) (sibling p.0 p.1 g) c s (λ x q r.
    let k = kept_node held f g has holds p.0 p.1 x q in
    subst P (sym k.stays) (all_kept ps k.other.under k.whole.under x.under
    (λ ks a b y z.
    let H : Option PlainNode → Type 0 = λ o. IsSomeAnd (option_and_then (below ks a b) o) (λ d. (d.names ≡ y.names) × (d.value ≡ y.value)) in
    subst H k.in_whole (has (p ∷ ks) a b y (ap (λ o. option_and_then (below ks a b) o) q ∙ z)))
    (λ ks a b y z.
    let H : Option PlainNode → Type 0 = λ o. IsSomeAnd (option_and_then (below ks a b) o) (λ d. holds_node d y.names y.value ≡ true) in
    subst H k.in_other (holds (p ∷ ks) a b y (ap (λ o. option_and_then (below ks a b) o) q ∙ z)))
    at bytes c r))

-- ---- the law

pub greatest : GreatestLaw
greatest p q r part k = record {
  registers = λ n t e. stays_known r.regs p.regs n t (k.registers n t e) (part.registers n t e);
  flags = λ f e.
      let own = part.flags f e in
      let test = fact_holds r.flags p.flags (λ g h. k.flags g (e ∙ sym own ∙ h)) in
      ap (λ b. if b then p.flags else None) test ∙ own;
  bounds = λ b m. let at = part.bounds b m in held_at (λ x. holds_bound r.bounds x) p.bounds b at.0 at.1 at.2 (k.bounds b m);
  cells = λ ks at bytes c e. all_kept ks r.forest p.forest q.forest part.cells k.cells at bytes c e;
}
