-- The lines of a site are in order, no more than there may be, and of written sizes.
use Rattle.std.proofs.Common.{◌≡◌, ℕ, zero, suc, Bool, true, false, cond, ◌&&◌, List, [], ◌∷◌, ◌++◌, map, take, Option, Some, None, find, filter, refl, ap, ap₂, ◌∙◌, inl, inr}
use Rattle.std.specs.Prelude.{if◌then◌else◌}
use Rattle.std.specs.List.{list_all, flat_map}
use Rattle.std.specs.Option.{option_map, option_to_list}
use Rattle.std.specs.Ordering.{is_lt, nat_cmp, ordering_then, ordering_reverse}
use Rattle.std.specs.declared.cmp.Ordering.{Ordering}
use Rattle.std.specs.declared.cmp.Ordering.TheVariants.{Less, Equal, Greater}
use Rattle.std.proofs.lemmas.Bool.{and_parts, and_from}
use Rattle.std.proofs.lemmas.Cmp.{nat_cmp_total}
use Rattle.sym_terms.specs.Plain.{PlainSum}
use Rattle.sym_terms.specs.Codes.{sum_total}
use Rattle.sym_terms.specs.Order.{sum_cmp}
use Rattle.memory_regions.specs.declared.region.Region.{Region}
use Rattle.memory_regions.specs.Relate.{Known, relate}
use Rattle.mem_forest.specs.Plain.{PlainForest, none, cell}
use Rattle.mem_forest.specs.Shape.{is_size, are_names, shaped, IsForest}
use Rattle.mem_forest.proofs.ShapeLemmas.{shaped_parts}
use Rattle.mem_forest.proofs.ForgetFormLemmas.{forget_forest}
use Rattle.mem_forest.proofs.FormLemmas.{store_forest}
use Rattle.predicates.specs.Bounds.{in_order}
use Rattle.predicates.specs.Predicate.{Predicate}
use Rattle.graph_data.specs.Limits.{most_pairs, most_keeps}
use Rattle.graph_data.specs.Order.{region_cmp, pair_cmp, region_before, pair_before}
use Rattle.x86_instr.specs.declared.class.Class.{Class}
use Rattle.x86_instr.specs.declared.class.Class.TheVariants as class
use Rattle.x86_instr.specs.declared.instr.Instr.{Instr}
use Rattle.x86_instr.specs.Classes.{class_of}
use Rattle.x86_machine.specs.Next.{next_address}
use Rattle.step_rules.specs.View.{View}
use Rattle.step_rules.specs.Terms.{number}
use Rattle.step_rules.specs.Names.{name}
use Rattle.step_rules.specs.Drop.{dropped}
use Rattle.step_rules.specs.Moves.{below_top}
use Rattle.step_rules.specs.Access.{with_bytes}
use Rattle.step_rules.specs.Calls.{begin, begun}
use Rattle.step_rules.specs.Site.{region_of, store_region}
use Rattle.site_lines.specs.Ordered.{ordered}
use Rattle.site_lines.specs.Critical.{critical_cells, critical_region, is_needed, is_on_stack}
use Rattle.site_lines.specs.Pairs.{is_threat, stored_to, threatened, pairs_at, pairs_of}
use Rattle.site_lines.specs.Saved.{has_region, shared, saved_at, saved_of}
use Rattle.site_lines.proofs.OrderedLemmas.{TurnsRound, all_with_items, order_all, order_take}
use Rattle.site_lines.proofs.SizeLemmas.{store_sized}
use Rattle.lift_graph.specs.Search.{IsMember}
use Rattle.lifted_parts.specs.Rest.{HasForm}

-- ---- sizes

abbrev pub sized : Region → Bool
sized r = is_size r.bytes

abbrev pub pair_sized : Region × Region → Bool
pair_sized p = is_size p.0.bytes && is_size p.1.bytes

pub all_both : {X : Type 0} (p : X → Bool) (xs ys : List X) → list_all p xs ≡ true → list_all p ys ≡ true → list_all p (xs ++ ys) ≡ true
all_both p [] ys h k = k
all_both p (x ∷ xs) ys h k = let a = and_parts (p x) (list_all p xs) h in and_from (p x) (list_all p (xs ++ ys)) a.0 (all_both p xs ys a.1 k)

all_filter : {X : Type 0} (p q : X → Bool) (xs : List X) → list_all p xs ≡ true → list_all p (filter q xs) ≡ true
all_filter p q [] h = refl
all_filter p q (x ∷ xs) h =
    let a = and_parts (p x) (list_all p xs) h in
    let rest = all_filter p q xs a.1 in
    elim (q x) as (λ b. list_all p (cond b (x ∷ filter q xs) (filter q xs)) ≡ true) [
      | true ↦ and_from (p x) (list_all p (filter q xs)) a.0 rest
      | false ↦ rest
    ]

all_take : {X : Type 0} (p : X → Bool) (n : ℕ) (xs : List X) → list_all p xs ≡ true → list_all p (take n xs) ≡ true
all_take p zero xs h = refl
all_take p (suc n) [] h = refl
all_take p (suc n) (x ∷ xs) h = let a = and_parts (p x) (list_all p xs) h in and_from (p x) (list_all p (take n xs)) a.0 (all_take p n xs a.1)

all_flat : {X Y : Type 0} (p : Y → Bool) (f : X → List Y) (xs : List X) → ((x : X) → IsMember x xs → list_all p (f x) ≡ true) → list_all p (flat_map f xs) ≡ true
all_flat p f [] h = refl
all_flat p f (x ∷ xs) h = all_both p (f x) (flat_map f xs) (h x (inl refl)) (all_flat p f xs (λ y m. h y (inr m)))

named_sized : (b : ℕ) (o : Option PlainSum) → is_size b ≡ true → list_all sized (option_to_list (option_map (region_of b) o)) ≡ true
named_sized b None h = refl
named_sized b (Some t) h = and_from (is_size b) true h refl

critical_sized : (ns : List PlainSum) (b : ℕ) (v : Option PlainSum) → is_size b ≡ true → list_all sized (option_to_list (critical_region ns b v)) ≡ true
critical_sized ns b v h = elim (is_needed v) as (λ t. list_all sized (option_to_list (if t then option_map (region_of b) (find is_on_stack ns) else None)) ≡ true) [
  | true ↦ named_sized b (find is_on_stack ns) h
  | false ↦ refl
]

-- the regions of critical cells have written sizes
cells_sized : (f : PlainForest) → shaped f ≡ true → list_all sized (critical_cells f) ≡ true
cells_sized none h = refl
cells_sized (cell ns b v under rest) h =
    let parts = shaped_parts ns b v under rest h in
    let size = (and_parts (is_size b) (are_names ns) parts.formed).0 in
    all_both sized (option_to_list (critical_region ns b v)) (critical_cells under ++ critical_cells rest) (critical_sized ns b v size)
    (all_both sized (critical_cells under) (critical_cells rest) (cells_sized under parts.below) (cells_sized rest parts.others))

pairs_sized : (r : Region) (rs : List Region) → is_size r.bytes ≡ true → list_all sized rs ≡ true → list_all pair_sized (map (λ a. (r, a)) rs) ≡ true
pairs_sized r [] h k = refl
pairs_sized r (a ∷ rs) h k =
    let p = and_parts (sized a) (list_all sized rs) k in
    and_from (pair_sized (r, a)) (list_all pair_sized (map (λ b. (r, b)) rs)) (and_from (is_size r.bytes) (is_size a.bytes) h p.0) (pairs_sized r rs h p.1)

dropped_shaped : (i : Instr) (p : Predicate) → HasForm p → IsForest (dropped i p).forest
dropped_shaped i p h = forget_forest (name i) p.forest h.forest

threats_sized : (known : Known) (f : PlainForest) (o : Option Region) → shaped f ≡ true → ((r : Region) → o ≡ Some r → is_size r.bytes ≡ true) → list_all pair_sized (threatened known f o) ≡ true
threats_sized known f None h k = refl
threats_sized known f (Some r) h k = pairs_sized r (filter (is_threat known (stored_to known r f) r) (critical_cells f)) (k r refl) (all_filter sized (is_threat known (stored_to known r f) r) (critical_cells f) (cells_sized f h))

pairs_at_sized : (known : Known) (i : Instr) (p : Predicate) → HasForm p → list_all pair_sized (pairs_at known i p) ≡ true
pairs_at_sized known i p h = threats_sized known (dropped i p).forest (store_region i p) (dropped_shaped i p h).in_form (λ r e. store_sized i p r e)

pub pairs_of_sized : (known : Known) (i : Instr) (preds : List Predicate) → ((p : Predicate) → IsMember p preds → HasForm p) → list_all pair_sized (pairs_of known i preds) ≡ true
pairs_of_sized known i preds h =
    let all = flat_map (pairs_at known i) preds in
    all_take pair_sized most_pairs (ordered pair_cmp all) (all_with_items pair_cmp pair_sized [] all refl (all_flat pair_sized (pairs_at known i) preds (λ p m. pairs_at_sized known i p (h p m))))

pushed_forest : (v : View) (p : Predicate) (at value : Option PlainSum) → IsForest p.forest → shaped (with_bytes v p 8 at value).forest ≡ true
unfolding with_bytes
pushed_forest v p None value h = refl
pushed_forest v p (Some at) value h = (store_forest (relate v.known at 8) at 8 value p.forest refl h).in_form

begun_shaped : (c : Class) (v : View) (i : Instr) (p : Predicate) → IsForest p.forest → shaped (begun c v i p).forest ≡ true
begun_shaped class.Calculation v i p h = h.in_form
begun_shaped class.Transfer v i p h = h.in_form
begun_shaped class.Division v i p h = h.in_form
begun_shaped class.Jump v i p h = h.in_form
begun_shaped class.Call v i p h = pushed_forest v p (below_top p) (Some (number (next_address i))) h
begun_shaped class.Return v i p h = h.in_form
begun_shaped class.SystemCall v i p h = h.in_form
begun_shaped class.Stop v i p h = h.in_form

saved_at_sized : (v : View) (i : Instr) (p : Predicate) → HasForm p → list_all sized (saved_at v i p) ≡ true
saved_at_sized v i p h = cells_sized (begin v i p).forest (begun_shaped (class_of i.op) v i (dropped i p) (dropped_shaped i p h))

shared_sized : (regions : List Region) (more : List (List Region)) → list_all sized regions ≡ true → list_all sized (shared regions more) ≡ true
shared_sized regions [] h = h
shared_sized regions (m ∷ more) h = shared_sized (filter (has_region m) regions) more (all_filter sized (has_region m) regions h)

pub saved_of_sized : (v : View) (i : Instr) (preds : List Predicate) → ((p : Predicate) → IsMember p preds → HasForm p) → list_all sized (saved_of v i preds) ≡ true
saved_of_sized v i [] h = refl
saved_of_sized v i (p ∷ preds) h =
    let all = shared (saved_at v i p) (map (saved_at v i) preds) in
    all_take sized most_keeps (ordered region_cmp all) (all_with_items region_cmp sized [] all refl (shared_sized (saved_at v i p) (map (saved_at v i) preds) (saved_at_sized v i p (h p (inl refl)))))

-- ---- orders

reversed : (a b : Ordering) → ordering_then (ordering_reverse a) (ordering_reverse b) ≡ ordering_reverse (ordering_then a b)
reversed Less b = refl
reversed Equal b = refl
reversed Greater b = refl

region_turned : (r s : Region) → region_cmp r s ≡ ordering_reverse (region_cmp s r)
region_turned r s =
    ap₂ ordering_then (sum_total.antisymm r.at s.at) (nat_cmp_total.antisymm r.bytes s.bytes) ∙ reversed (sum_cmp s.at r.at) (nat_cmp s.bytes r.bytes)

pair_turned : (p q : Region × Region) → pair_cmp p q ≡ ordering_reverse (pair_cmp q p)
pair_turned p q = ap₂ ordering_then (region_turned p.0 q.0) (region_turned p.1 q.1) ∙ reversed (region_cmp q.0 p.0) (region_cmp q.1 p.1)

turns : {X : Type 0} (cmp : X → X → Ordering) → ((x y : X) → cmp x y ≡ ordering_reverse (cmp y x)) → TurnsRound cmp
turns cmp h x y e = ap is_lt (h y x ∙ ap ordering_reverse e)

pub pairs_ordered : (known : Known) (i : Instr) (preds : List Predicate) → in_order pair_before (pairs_of known i preds) ≡ true
pairs_ordered known i preds =
    let all = flat_map (pairs_at known i) preds in
    order_take pair_cmp most_pairs (ordered pair_cmp all) (order_all pair_cmp (turns pair_cmp pair_turned) [] all refl)

pub saved_ordered : (v : View) (i : Instr) (preds : List Predicate) → in_order region_before (saved_of v i preds) ≡ true
saved_ordered v i [] = refl
saved_ordered v i (p ∷ preds) =
    let all = shared (saved_at v i p) (map (saved_at v i) preds) in
    order_take region_cmp most_keeps (ordered region_cmp all) (order_all region_cmp (turns region_cmp region_turned) [] all refl)
