-- What is read through a list of terms stays when the list grows.
use Rattle.std.proofs.Common.{◌≡◌, ℕ, ◌<◌, ◌≤◌, Option, Some, None, List, length, map, refl, sym, ap, subst, ◌∙◌, arith}
use Rattle.std.specs.Prelude.{All, IfSome}
use Rattle.std.specs.Option.{option_map}
use Rattle.bits_core.specs.declared.width.Width.{Width}
use Rattle.predicates.specs.Predicate.{Predicate}
use Rattle.mem_forest.specs.Plain.{PlainNode, cell, cells}
use Rattle.sym_terms.specs.Plain.{PlainSum}
use Rattle.term_bank.specs.Terms.{Grows, term_at}
use Rattle.bank_values.specs.Numbered.{NumberForest, empty, spot, NumberNode, level}
use Rattle.bank_values.specs.ReadBack.{known_at, fact_at, bound_at, forest_at, node_at, predicate_at, IsKnownBelow, AreBelow, IsNodeBelow, IsBelow, IsPred}
use Rattle.bank_values.specs.declared.pred.BankPred.{BankPred}
use Rattle.bank_values.proofs.GrowLemmas.{IsStable, all_from, map_same, grows_trans}
use Rattle.bank_values.proofs.LevelLemmas.{level_at, level_below}

-- the term of a number
pub stable_term : IsStable term_at (λ n m. m < n)
stable_term = record { same = λ old new g n h. g.same n h; more = λ m n l a h. omega (arith, l, h) }

known_same : (old new : List PlainSum) → Grows old new → (r : Option ℕ) → IsKnownBelow (length old) r → known_at new r ≡ known_at old r
known_same old new g None h = refl
known_same old new g (Some n) h = ap Some (g.same n h)

known_more : (m n : ℕ) → m ≤ n → (r : Option ℕ) → IsKnownBelow m r → IsKnownBelow n r
known_more m n l None h = h
known_more m n l (Some k) h = omega (arith, l, h)

-- the same, where there is one
pub stable_known : IsStable known_at IsKnownBelow
stable_known = record { same = known_same; more = known_more }

-- a bound
pub stable_bound : IsStable bound_at (λ n b. b.0 < n)
stable_bound = record { same = λ old new g b h i. record { key = g.same b.0 h i; set = b.1 }; more = λ m n l b h. omega (arith, l, h) }

names_same : (old new : List PlainSum) → Grows old new → (ns : List ℕ) → All (λ m. m < length old) ns → map (term_at new) ns ≡ map (term_at old) ns
names_same old new g ns h = map_same (λ m. m < length old) (term_at new) (term_at old) (λ n l. g.same n l) ns h

names_more : (m n : ℕ) → m ≤ n → (ns : List ℕ) → All (λ k. k < m) ns → All (λ k. k < n) ns
names_more m n l ns h = all_from (λ k. k < m) (λ k. k < n) (λ k i. omega (arith, l, i)) ns h

-- a forest is read the same
pub forest_same : (old new : List PlainSum) → Grows old new → (f : NumberForest) → AreBelow (length old) f → forest_at new f ≡ forest_at old f
forest_same old new g empty h = refl
forest_same old new g (spot ns b v under rest) h = λ i.
    cell (names_same old new g ns h.0.0 i) b (known_same old new g v h.0.1 i) (forest_same old new g under h.1.0 i) (forest_same old new g rest h.1.1 i)

-- its numbers stay those of terms
pub forest_more : (m n : ℕ) → m ≤ n → (f : NumberForest) → AreBelow m f → AreBelow n f
forest_more m n l empty h = h
forest_more m n l (spot ns b v under rest) h =
    ((names_more m n l ns h.0.0, known_more m n l v h.0.1), (forest_more m n l under h.1.0, forest_more m n l rest h.1.1))

-- a node
pub stable_node : IsStable node_at IsNodeBelow
stable_node = record {
  same = λ old new g c h i. record { names = names_same old new g c.names h.0.0 i; bytes = c.bytes; value = known_same old new g c.value h.0.1 i; under = forest_same old new g c.under h.1 i };
  more = λ m n l c h. ((names_more m n l c.names h.0.0, known_more m n l c.value h.0.1), forest_more m n l c.under h.1);
}

-- a node whose names, value and nodes under it were put one after another
pub node_put : (a b c : List PlainSum) → Grows a b → Grows b c → (ns : List ℕ) (bytes : ℕ) (v : Option ℕ) (cs : List NumberNode) (names : List PlainSum) (value : Option PlainSum) (under : List PlainNode)
    → All (λ m. m < length a) ns → map (term_at a) ns ≡ names → IsKnownBelow (length b) v → known_at b v ≡ value → All (IsNodeBelow (length c)) cs → map (node_at c) cs ≡ under
    → IsNodeBelow (length c) (record { names = ns; bytes = bytes; value = v; under = level cs })
    × (node_at c (record { names = ns; bytes = bytes; value = v; under = level cs }) ≡ record { names = names; bytes = bytes; value = value; under = cells under })
node_put a b c g h ns bytes v cs names value under ns_in ns_are v_in v_is cs_in cs_are =
    let k = grows_trans a b c g h in
    let e = names_same a c k ns ns_in ∙ ns_are in
    let d = known_same b c h v v_in ∙ v_is in
    let u = sym (level_at c cs) ∙ ap cells cs_are in
    (((names_more (length a) (length c) k.longer ns ns_in, known_more (length b) (length c) h.longer v v_in), level_below (length c) cs cs_in), λ i. record { names = e i; bytes = bytes; value = d i; under = u i })

-- a flag fact
pub facts_same : (old new : List PlainSum) → Grows old new → (f : Option (Width × ℕ × ℕ)) → IfSome f (λ f. (f.1 < length old) × (f.2 < length old)) → option_map (fact_at new) f ≡ option_map (fact_at old) f
facts_same old new g None h = refl
facts_same old new g (Some f) h = λ i. Some (record { width = f.0; left = g.same f.1 h.0 i; right = g.same f.2 h.1 i })

facts_more : (m n : ℕ) → m ≤ n → (f : Option (Width × ℕ × ℕ)) → IfSome f (λ f. (f.1 < m) × (f.2 < m)) → IfSome f (λ f. (f.1 < n) × (f.2 < n))
facts_more m n l None h = h
facts_more m n l (Some f) h = (omega (arith, l, h.0), omega (arith, l, h.1))

predicate_same : (old new : List PlainSum) → Grows old new → (p : BankPred) → IsBelow (length old) p → predicate_at new p ≡ predicate_at old p
predicate_same old new g p h =
    let regs = map_same (IsKnownBelow (length old)) (known_at new) (known_at old) (known_same old new g) p.regs.items h.regs in
    let flags = facts_same old new g p.flags h.flags in
    let bounds = map_same (λ b. b.0 < length old) (bound_at new) (bound_at old) (stable_bound.same old new g) p.bounds.items h.bounds in
    let forest = forest_same old new g (level p.nodes.items) h.nodes in
    λ i. record { regs = regs i; flags = flags i; bounds = bounds i; forest = forest i }

predicate_more : (m n : ℕ) → m ≤ n → (p : BankPred) → IsBelow m p → IsBelow n p
predicate_more m n l p h = record {
  regs = all_from (IsKnownBelow m) (IsKnownBelow n) (known_more m n l) p.regs.items h.regs;
  flags = facts_more m n l p.flags h.flags;
  bounds = all_from (λ b. b.0 < m) (λ b. b.0 < n) (stable_bound.more m n l) p.bounds.items h.bounds;
  nodes = forest_more m n l (level p.nodes.items) h.nodes;
}

-- a predicate
pub stable_predicate : IsStable predicate_at IsBelow
stable_predicate = record { same = predicate_same; more = predicate_more }

-- a predicate whose parts were put one after another
pub predicate_put : (a b c d : List PlainSum) → Grows a b → Grows b c → Grows c d → (q : BankPred) (p : Predicate)
    → All (IsKnownBelow (length a)) q.regs.items → map (known_at a) q.regs.items ≡ p.regs
    → IfSome q.flags (λ f. (f.1 < length b) × (f.2 < length b)) → option_map (fact_at b) q.flags ≡ p.flags
    → All (λ k. k.0 < length c) q.bounds.items → map (bound_at c) q.bounds.items ≡ p.bounds
    → AreBelow (length d) (level q.nodes.items) → forest_at d (level q.nodes.items) ≡ p.forest
    → IsBelow (length d) q × (predicate_at d q ≡ p)
predicate_put a b c d ab bc cd q p regs_in regs_are flags_in flags_are bounds_in bounds_are nodes_in nodes_are =
    let bd = grows_trans b c d bc cd in
    let ad = grows_trans a b d ab bd in
    let regs = map_same (IsKnownBelow (length a)) (known_at d) (known_at a) (known_same a d ad) q.regs.items regs_in ∙ regs_are in
    let flags = facts_same b d bd q.flags flags_in ∙ flags_are in
    let bounds = map_same (λ k. k.0 < length c) (bound_at d) (bound_at c) (stable_bound.same c d cd) q.bounds.items bounds_in ∙ bounds_are in (
      record {
        regs = all_from (IsKnownBelow (length a)) (IsKnownBelow (length d)) (known_more (length a) (length d) ad.longer) q.regs.items regs_in;
        flags = facts_more (length b) (length d) bd.longer q.flags flags_in;
        bounds = all_from (λ k. k.0 < length c) (λ k. k.0 < length d) (stable_bound.more (length c) (length d) cd.longer) q.bounds.items bounds_in;
        nodes = nodes_in;
      },
      λ i. record { regs = regs i; flags = flags i; bounds = bounds i; forest = nodes_are i },
    )

-- its numbers stay those of terms when more are put
pub below_after : (old new : List PlainSum) → Grows old new → (p : BankPred) → IsBelow (length old) p → IsBelow (length new) p
below_after old new g p h = predicate_more (length old) (length new) g.longer p h

-- and it stays one in form
pub formed_after : (old new : List PlainSum) → Grows old new → (p : BankPred) → IsBelow (length old) p → IsPred (predicate_at old p) → IsPred (predicate_at new p)
formed_after old new g p h f = subst IsPred (sym (predicate_same old new g p h)) f
