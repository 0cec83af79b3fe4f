-- What a predicate that is true entails is true.
use Rattle.std.proofs.Common.{◌≡◌, ℕ, zero, suc, ◌≤◌, inl, inr, true, ◌&&◌, List, [], ◌∷◌, get_or, slice_get, Option, Some, None, refl, sym, ap, subst, ◌∙◌, arith}
use Rattle.std.specs.Prelude.{IsTrue, IfSome, IsSomeAnd, All, nat_le, is_some, ◌==◌}
use Rattle.std.specs.Int.{from_bool}
use Rattle.std.specs.List.{list_all, Contains}
use Rattle.std.specs.Option.{option_and_then}
use Rattle.std.proofs.lemmas.Bool.{and_parts, and_from, or_left, eqb-true, eq-eqb, leb-true, cases_Bool, cond-true, cond-false}
use Rattle.std.proofs.lemmas.List.Folds.{Any-from_list_any}
use Rattle.std.proofs.lemmas.List.Elements.{Contains-get_or}
use Rattle.sym_terms.specs.Plain.{PlainSum}
use Rattle.sym_terms.specs.Value.{Valuation, value}
use Rattle.sym_terms.specs.Normal.{IsNormal}
use Rattle.mem_forest.specs.Plain.{PlainForest, none, cell, PlainNode}
use Rattle.mem_forest.specs.Search.{has_name, is_here, count_at}
use Rattle.mem_forest.specs.Shape.{shaped, is_size, are_names, is_formed, precedes}
use Rattle.predicates.specs.declared.bound.FlagFact.{FlagFact}
use Rattle.predicates.specs.declared.bound.Values.{Values}
use Rattle.predicates.specs.declared.bound.Values.TheVariants.{Range, OneOf}
use Rattle.predicates.specs.declared.bound.Bound.{Bound}
use Rattle.predicates.specs.Holding.{same_term, holds_term, is_among, are_within, holds_bound}
use Rattle.predicates.specs.Places.{comes_first, sibling, node_under, holds_node}
use Rattle.predicates.proofs.TermLemmas.{same_from, same_itself, term_known}
use Rattle.predicates.proofs.AmongLemmas.{passed_at}
use Rattle.predicates.proofs.PlaceLemmas.{is_keyed, node_of, chosen, IsSingle, single_under, single_rest, node_beside}
use Rattle.predicates.proofs.CellLemmas.{HoldsAll}
use Rattle.x86_machine.specs.State.{State, reg}
use Rattle.x86_machine.specs.Memory.{loaded}
use Rattle.forest_meaning.specs.Separate.{Separate, Within}
use Rattle.forest_meaning.specs.Holds.{AllAre, address, Tells, EachNode, Holds}
use Rattle.predicate_meaning.specs.Sat.{register, FactHolds, IsIn, BoundHolds}
use Rattle.graph_runs.specs.Laws.{EntailsLaw}
use Rattle.graph_runs.proofs.NodeLemmas.{separate_sym, any_named}

-- ---- bounds

within_in : (a b : Values) (n : ℕ) → are_within a b ≡ true → IsIn a n → IsIn b n
within_in (Range low high) (Range least most) n e h =
    let p = and_parts (nat_le least low) (nat_le high most) e in
    (omega (arith, h.0, leb-true least low p.0), omega (arith, h.1, leb-true high most p.1))
within_in (Range low high) (OneOf numbers) n e h = absurd (cc)
within_in (OneOf numbers) (Range least most) n e h =
    let t : (nat_le least n && nat_le n most) ≡ true = subst (λ x. (nat_le least x && nat_le x most) ≡ true) h.2 (passed_at (λ x. nat_le least x && nat_le x most) numbers h.0 n e h.1) in
    let p = and_parts (nat_le least n) (nat_le n most) t in
    (leb-true least n p.0, leb-true n most p.1)
within_in (OneOf numbers) (OneOf others) n e h =
    let t : is_among n others ≡ true = subst (λ x. is_among x others ≡ true) h.2 (passed_at (λ x. is_among x others) numbers h.0 n e h.1) in
    let k = Any-from_list_any (λ m. m == n) others t in
    subst (Contains others) (eqb-true k.1 n k.4) (k.0, k.2, k.3)

bound_holds : (u : Valuation) (bs : List Bound) (b : Bound) → All (λ b. BoundHolds u b) bs → holds_bound bs b ≡ true → BoundHolds u b
bound_holds u bs b h e =
    let k = Any-from_list_any (λ h. same_term h.key b.key && are_within h.set b.set) bs e in
    let held : BoundHolds u k.1 = subst (λ b. BoundHolds u b) k.3 (h k.0 k.1 k.2) in
    let both = and_parts (same_term k.1.key b.key) (are_within k.1.set b.set) k.4 in
    let key : k.1.key ≡ b.key = same_from k.1.key b.key both.0 in
    record {
      key = subst (λ t. IsNormal t) key held.key;
      within = within_in k.1.set b.set (value u b.key) both.1 (subst (λ t. IsIn k.1.set (value u t)) key held.within);
    }

-- ---- nodes

first_has : (at : PlainSum) (ns : List PlainSum) → comes_first at ns ≡ true → has_name at ns ≡ true
first_has at [] e = absurd (cc)
first_has at (n ∷ ns) e = or_left (same_term n at) (has_name at ns) e

keyed_here : (at : PlainSum) (bytes : ℕ) (ns : List PlainSum) (b : ℕ) → is_keyed at bytes ns b ≡ true → is_here at bytes ns b ≡ true
keyed_here at bytes ns b e =
    let both = and_parts (b == bytes) (comes_first at ns) e in
    and_from (b == bytes) (has_name at ns) both.0 (first_has at ns both.1)

sibling_counts : (at : PlainSum) (bytes : ℕ) (f : PlainForest) → is_some (sibling at bytes f) ≡ true → 1 ≤ count_at at bytes f
sibling_counts at bytes none e = absurd (cc)
sibling_counts at bytes (cell ns b v under rest) e =
    elim (cases_Bool (is_keyed at bytes ns b)) as (λ w. 1 ≤ count_at at bytes (cell ns b v under rest)) [
      | inl q ↦ let one : from_bool (is_here at bytes ns b) ≡ 1 = ap from_bool (keyed_here at bytes ns b q) in omega (arith, one)
      | inr q ↦
          let f = ap is_some (cond-false (is_keyed at bytes ns b) (Some (node_of ns b v under)) (sibling at bytes rest) q) in
          let r = sibling_counts at bytes rest (sym f ∙ e) in
          omega (arith, r)
    ]

own_key : (n : PlainSum) (ns : List PlainSum) (b : ℕ) → is_keyed n b (n ∷ ns) b ≡ true
own_key n ns b = and_from (b == b) (same_term n n) (eq-eqb b b refl) (same_itself n)

-- a node of a level is found there
own_sibling : (n : PlainSum) (ns : List PlainSum) (b : ℕ) (v : Option PlainSum) (under rest : PlainForest) → sibling n b (cell (n ∷ ns) b v under rest) ≡ Some (node_of (n ∷ ns) b v under)
own_sibling n ns b v under rest = cond-true (is_keyed n b (n ∷ ns) b) (Some (node_of (n ∷ ns) b v under)) (sibling n b rest) (own_key n ns b)

first_name : (at : PlainSum) (ns : List PlainSum) (u : Valuation) → comes_first at ns ≡ true → address u ns ≡ value u at
first_name at [] u e = absurd (cc)
first_name at (n ∷ ns) u e = ap (value u) (same_from n at e)

two_firsts : (a b : PlainSum) (ns : List PlainSum) → comes_first a ns ≡ true → comes_first b ns ≡ true → a ≡ b
two_firsts a b [] e f = absurd (cc)
two_firsts a b (n ∷ ns) e f = sym (same_from n a e) ∙ same_from n b f

some_and : {R : Type 0} (o : Option PlainNode) (P : PlainNode → Type 0) → IsSomeAnd o P → ((d : PlainNode) → o ≡ Some d → P d → R) → R
some_and None P h k = absurd h
some_and (Some d) P h k = k d refl h

-- a node in form has_name a name
unnamed : (b : ℕ) (v : Option PlainSum) (under rest : PlainForest) → shaped (cell [] b v under rest) ≡ true → ⊥
unnamed b v under rest e =
    let own = and_parts (is_formed [] b && precedes [] b rest) (shaped under && shaped rest) e in
    let formed = and_parts (is_formed [] b) (precedes [] b rest) own.0 in
    let named = and_parts (is_size b) (are_names []) formed.0 in
    no named.1
  where
    no : are_names [] ≡ true → ⊥
    no e = cc

-- what is true of the node that is found at a place
record Found (m : ℕ → ℕ) (u : Valuation) (at : PlainSum) (bytes : ℕ) (d : PlainNode) : Type 0 where
  sized : IsTrue (is_size d.bytes)
  named : AllAre u (address u d.names) d.names
  valued : Tells u d.value (loaded m d.bytes (address u d.names))
  inside : EachNode u (λ y c. Within y c (address u d.names) d.bytes) d.under
  below : Holds m u d.under
  first : address u d.names ≡ value u at
  size : d.bytes ≡ bytes

module _ (m : ℕ → ℕ) (u : Valuation) where
  found_facts : (f : PlainForest) (at : PlainSum) (bytes : ℕ) (d : PlainNode) → Holds m u f → sibling at bytes f ≡ Some d → Found m u at bytes d
  found_facts none at bytes d h e = absurd (cc)
  found_facts (cell ns b v under rest) at bytes d h e = elim (chosen (is_keyed at bytes ns b) (node_of ns b v under) (sibling at bytes rest) d e) as (λ w. Found m u at bytes d) [
    | inl q ↦
        let both = and_parts (b == bytes) (comes_first at ns) q.0 in
        subst (λ d. Found m u at bytes d) q.1 (record {
          sized = h.0.sized;
          named = h.0.named;
          valued = h.0.valued;
          inside = h.0.inside;
          below = h.1;
          first = first_name at ns u both.1;
          size = eqb-true b bytes both.0;
        })
    | inr q ↦ found_facts rest at bytes d h.2 q.1
  ]

  each_found : (P : ℕ → ℕ → Type 0) (f : PlainForest) (at : PlainSum) (bytes : ℕ) (d : PlainNode) → EachNode u P f → sibling at bytes f ≡ Some d → P (address u d.names) d.bytes
  each_found P none at bytes d h e = absurd (cc)
  each_found P (cell ns b v under rest) at bytes d h e = elim (chosen (is_keyed at bytes ns b) (node_of ns b v under) (sibling at bytes rest) d e) as (λ w. P (address u d.names) d.bytes) [
    | inl q ↦ subst (λ d. P (address u d.names) d.bytes) q.1 h.0
    | inr q ↦ each_found P rest at bytes d h.1 q.1
  ]

  -- two nodes at different places are apart
  apart_found : (f : PlainForest) (a : PlainSum) (x : ℕ) (b : PlainSum) (y : ℕ) (d e : PlainNode) → ((a ≡ b) → (x ≡ y) → ⊥) → Holds m u f → sibling a x f ≡ Some d → sibling b y f ≡ Some e
      → Separate (address u d.names) d.bytes (address u e.names) e.bytes
  apart_found none a x b y d e ne h p q = absurd (cc)
  apart_found (cell ns k v under rest) a x b y d e ne h p q =
      elim (chosen (is_keyed a x ns k) (node_of ns k v under) (sibling a x rest) d p) as (λ w. Separate (address u d.names) d.bytes (address u e.names) e.bytes) [
        | inl i ↦ elim (chosen (is_keyed b y ns k) (node_of ns k v under) (sibling b y rest) e q) as (λ w. Separate (address u d.names) d.bytes (address u e.names) e.bytes) [
          | inl j ↦
              let r = and_parts (k == x) (comes_first a ns) i.0 in
              let s = and_parts (k == y) (comes_first b ns) j.0 in
              absurd (ne (two_firsts a b ns r.1 s.1) (sym (eqb-true k x r.0) ∙ eqb-true k y s.0))
          | inr j ↦ subst (λ d. Separate (address u d.names) d.bytes (address u e.names) e.bytes) i.1 (each_found (λ z c. Separate (address u ns) k z c) rest b y e h.0.separate j.1)
        ]
        | inr i ↦ elim (chosen (is_keyed b y ns k) (node_of ns k v under) (sibling b y rest) e q) as (λ w. Separate (address u d.names) d.bytes (address u e.names) e.bytes) [
          | inl j ↦ subst (λ e. Separate (address u d.names) d.bytes (address u e.names) e.bytes) j.1 (separate_sym _ _ _ _ (each_found (λ z c. Separate (address u ns) k z c) rest a x d h.0.separate i.1))
          | inr j ↦ apart_found rest a x b y d e ne h.2 i.1 j.1
        ]
      ]

  -- the like of a node of the second level, in the first
  record Like (f : PlainForest) (n : PlainSum) (ns : List PlainSum) (b : ℕ) (v : Option PlainSum) : Type 0 where
    node : PlainNode
    is : sibling n b f ≡ Some node
    holds : holds_node node (n ∷ ns) v ≡ true

  like : (f : PlainForest) (n : PlainSum) (ns : List PlainSum) (b : ℕ) (v : Option PlainSum) (under rest : PlainForest) → HoldsAll f (cell (n ∷ ns) b v under rest) → Like f n ns b v
  like f n ns b v under rest h =
      some_and (sibling n b f) (λ d. holds_node d (n ∷ ns) v ≡ true) (h [] n b (node_of (n ∷ ns) b v under) (own_sibling n ns b v under rest)) (λ d q k. record { node = d; is = q; holds = k })

  like_rest : (f : PlainForest) (ns : List PlainSum) (b : ℕ) (v : Option PlainSum) (under rest : PlainForest) → IsSingle (cell ns b v under rest) → HoldsAll f (cell ns b v under rest) → HoldsAll f rest
  like_rest f ns b v under rest s h = λ ks at bytes c k. h ks at bytes c (node_beside ks at bytes ns b v under rest c s k)

  like_under : (f : PlainForest) (n : PlainSum) (ns : List PlainSum) (b : ℕ) (v : Option PlainSum) (under rest : PlainForest) (d : PlainNode) → sibling n b f ≡ Some d → HoldsAll f (cell (n ∷ ns) b v under rest) → HoldsAll d.under under
  like_under f n ns b v under rest d q h = λ ks at bytes c k.
      let deeper : PlainNode → Option PlainNode = λ x. node_under ks at bytes x.under in
      subst (λ o. IsSomeAnd (option_and_then deeper o) (λ x. holds_node x c.names c.value ≡ true)) q
      (h ((n, b) ∷ ks) at bytes c (ap (option_and_then deeper) (own_sibling n ns b v under rest) ∙ k))

  each_level : (P : ℕ → ℕ → Type 0) (f g : PlainForest) → shaped g ≡ true → IsSingle g → HoldsAll f g → Holds m u f → EachNode u P f → EachNode u P g
  each_level P f none t s k h e = tt
  each_level P f (cell [] b v under rest) t s k h e = absurd (unnamed b v under rest t)
  each_level P f (cell (n ∷ ns) b v under rest) t s k h e =
      let own = and_parts (is_formed (n ∷ ns) b && precedes (n ∷ ns) b rest) (shaped under && shaped rest) t in
      let levels = and_parts (shaped under) (shaped rest) own.1 in
      let l = like f n ns b v under rest k in
      let facts = found_facts f n b l.node h l.is in (
        subst (λ x. P x b) facts.first (subst (λ c. P (address u l.node.names) c) facts.size (each_found P f n b l.node e l.is)),
        each_level P f rest levels.1 (single_rest (n ∷ ns) b v under rest s) (like_rest f (n ∷ ns) b v under rest s k) h e,
      )

  -- those after a node are apart from it
  apart_level : (f : PlainForest) (n : PlainSum) (b : ℕ) (d : PlainNode) → sibling n b f ≡ Some d → Holds m u f → (g : PlainForest) → shaped g ≡ true → IsSingle g → HoldsAll f g
      → ((at : PlainSum) (bytes : ℕ) → is_some (sibling at bytes g) ≡ true → n ≡ at → b ≡ bytes → ⊥) → EachNode u (λ y c. Separate (address u d.names) d.bytes y c) g
  apart_level f n b d q h none t s k ne = tt
  apart_level f n b d q h (cell [] c v under rest) t s k ne = absurd (unnamed c v under rest t)
  apart_level f n b d q h (cell (a ∷ ns) c v under rest) t s k ne =
      let own = and_parts (is_formed (a ∷ ns) c && precedes (a ∷ ns) c rest) (shaped under && shaped rest) t in
      let levels = and_parts (shaped under) (shaped rest) own.1 in
      let l = like f a ns c v under rest k in
      let facts = found_facts f a c l.node h l.is in
      let here : is_some (sibling a c (cell (a ∷ ns) c v under rest)) ≡ true = ap is_some (own_sibling a ns c v under rest) in (
        subst (λ x. Separate (address u d.names) d.bytes x c) facts.first (subst (λ z. Separate (address u d.names) d.bytes (address u l.node.names) z) facts.size (apart_found f n b a c d l.node (ne a c here) h q l.is)),
        apart_level f n b d q h rest levels.1 (single_rest (a ∷ ns) c v under rest s) (like_rest f (a ∷ ns) c v under rest s k)
            (λ at bytes e. ne at bytes (beside at bytes (sibling at bytes rest) refl e)),
      )
    where
      beside : (at : PlainSum) (bytes : ℕ) (o : Option PlainNode) → sibling at bytes rest ≡ o → is_some o ≡ true → is_some (sibling at bytes (cell (a ∷ ns) c v under rest)) ≡ true
      beside at bytes None e i = absurd (cc)
      beside at bytes (Some x) e i = ap is_some (node_beside [] at bytes (a ∷ ns) c v under rest x s e)

  all_named : (x : ℕ) (ms ns : List PlainSum) → AllAre u x ms → list_all (λ n. has_name n ms) ns ≡ true → AllAre u x ns
  all_named x ms [] h e = tt
  all_named x ms (n ∷ ns) h e =
      let both = and_parts (has_name n ms) (list_all (λ n. has_name n ms) ns) e in
      (sym (any_named u x n ms h both.0), all_named x ms ns h both.1)

  value_held : (held wanted : Option PlainSum) (n : ℕ) → holds_term held wanted ≡ true → Tells u held n → Tells u wanted n
  value_held held None n e h = tt
  value_held held (Some t) n e h = subst (λ o. Tells u o n) (term_known held (Some t) t e refl) h

  level_holds : (f g : PlainForest) → shaped g ≡ true → IsSingle g → HoldsAll f g → Holds m u f → Holds m u g
  level_holds f none t s k h = tt
  level_holds f (cell [] b v under rest) t s k h = absurd (unnamed b v under rest t)
  level_holds f (cell (n ∷ ns) b v under rest) t s k h =
      let own = and_parts (is_formed (n ∷ ns) b && precedes (n ∷ ns) b rest) (shaped under && shaped rest) t in
      let levels = and_parts (shaped under) (shaped rest) own.1 in
      let l = like f n ns b v under rest k in
      let d = l.node in
      let facts = found_facts f n b l.node h l.is in
      let says = and_parts (list_all (λ n. has_name n l.node.names) (n ∷ ns)) (holds_term l.node.value v) l.holds in
      let rest_like = like_rest f (n ∷ ns) b v under rest s k in
      let under_like = like_under f n ns b v under rest l.node l.is k in (
        record {
          sized = subst (λ c. IsTrue (is_size c)) facts.size facts.sized;
          named = subst (λ x. AllAre u x (n ∷ ns)) facts.first (all_named (address u l.node.names) l.node.names (n ∷ ns) facts.named says.0);
          valued = subst (λ x. Tells u v (loaded m b x)) facts.first (subst (λ c. Tells u v (loaded m c (address u l.node.names))) facts.size (value_held l.node.value v _ says.1 facts.valued));
          inside = subst (λ x. EachNode u (λ y c. Within y c x b) under) facts.first (subst (λ z. EachNode u (λ y c. Within y c (address u l.node.names) z) under) facts.size
              (each_level (λ y c. Within y c (address u l.node.names) l.node.bytes) l.node.under under levels.0 (single_under (n ∷ ns) b v under rest s) under_like facts.below facts.inside));
          separate = subst (λ x. EachNode u (λ y c. Separate x b y c) rest) facts.first (subst (λ z. EachNode u (λ y c. Separate (address u l.node.names) z y c) rest) facts.size
              (apart_level f n b l.node l.is h rest levels.1 (single_rest (n ∷ ns) b v under rest s) rest_like (λ at bytes e i j. twice at bytes e i j)));
        },
        level_holds l.node.under under levels.0 (single_under (n ∷ ns) b v under rest s) under_like facts.below,
        level_holds f rest levels.1 (single_rest (n ∷ ns) b v under rest s) rest_like h,
      )
    where
      twice : (at : PlainSum) (bytes : ℕ) → is_some (sibling at bytes rest) ≡ true → n ≡ at → b ≡ bytes → ⊥
      twice at bytes e i j =
          let key : is_keyed at bytes (n ∷ ns) b ≡ true = and_from (b == bytes) (same_term n at) (eq-eqb b bytes j) (subst (λ x. same_term n x ≡ true) i (same_itself n)) in
          let one : from_bool (is_here at bytes (n ∷ ns) b) ≡ 1 = ap from_bool (keyed_here at bytes (n ∷ ns) b key) in
          let more = sibling_counts at bytes rest e in
          let most = s at bytes in
          omega (arith, one, more, most)

-- ---- registers

known_get : (ts : List (Option PlainSum)) (r : ℕ) (t : PlainSum) → get_or ts r None ≡ Some t → slice_get ts r ≡ Some (Some t)
known_get [] r t e = absurd (cc)
known_get (x ∷ ts) zero t e = ap Some e
known_get (x ∷ ts) (suc r) t e = known_get ts r t e

get_known : (ts : List (Option PlainSum)) (r : ℕ) (t : PlainSum) → slice_get ts r ≡ Some (Some t) → get_or ts r None ≡ Some t
get_known [] r t e = absurd (cc)
get_known (x ∷ ts) zero t e = let f : x ≡ Some t = cc in f
get_known (x ∷ ts) (suc r) t e = get_known ts r t e

tells_entailed : (u : Valuation) (held wanted : Option PlainSum) (n : ℕ) → ((t : PlainSum) → wanted ≡ Some t → held ≡ Some t) → Tells u held n → Tells u wanted n
tells_entailed u held None n k h = tt
tells_entailed u held (Some t) n k h = subst (λ o. Tells u o n) (k t refl) h

fact_entailed : (s : State) (u : Valuation) (held wanted : Option FlagFact) → ((f : FlagFact) → wanted ≡ Some f → held ≡ Some f) → IfSome held (λ f. FactHolds s.flags u f) → IfSome wanted (λ f. FactHolds s.flags u f)
fact_entailed s u held None k h = tt
fact_entailed s u held (Some f) k h = subst (λ o. IfSome o (λ f. FactHolds s.flags u f)) (k f refl) h

pub entails_holds : EntailsLaw
unfolding register
entails_holds p q s u formed e h = record {
  range = h.range;
  fs_base = h.fs_base;
  registers = λ r. tells_entailed u (get_or p.regs r None) (get_or q.regs r None) (reg s r) (λ t k. get_known p.regs r t (e.registers r t (known_get q.regs r t k))) (h.registers r);
  flags = fact_entailed s u p.flags q.flags e.flags h.flags;
  bounds = λ k d lt. bound_holds u p.bounds (get_or q.bounds k d) h.bounds (e.bounds _ (Contains-get_or q.bounds k d lt));
  forest = level_holds s.memory u p.forest q.forest formed.in_form formed.single e.cells h.forest;
}
