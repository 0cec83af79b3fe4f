-- Each region that a callee keeps is a cell with a value, in each vertex.
use Rattle.std.proofs.Common.{◌≡◌, ◌||◌, true, false, cond, List, [], ◌∷◌, map, filter, Some, None, Option, refl, sym, ap, subst, inl, inr, arith}
use Rattle.std.specs.Prelude.{IsSome}
use Rattle.std.specs.List.{All}
use Rattle.std.specs.Ordering.{is_eq, nat_cmp, ordering_then}
use Rattle.std.specs.declared.cmp.Ordering.{Ordering}
use Rattle.std.specs.declared.cmp.Ordering.TheVariants.{Less, Equal, Greater}
use Rattle.std.proofs.lemmas.Map.Lookups.{exact_unsigned}
use Rattle.std.proofs.lemmas.List.Elements.{All-nil, All-head, All-tail, All-take, All-weaker, All-filter, filter_passes}
use Rattle.elf_image.specs.declared.image.Image.{Image}
use Rattle.sym_terms.specs.Plain.{PlainSum}
use Rattle.sym_terms.specs.Order.{sum_cmp}
use Rattle.sym_terms.specs.Codes.{sum_same}
use Rattle.memory_regions.specs.declared.region.Region.{Region}
use Rattle.memory_regions.specs.Relate.{relate}
use Rattle.mem_forest.specs.Plain.{none}
use Rattle.mem_forest.specs.Search.{value_at}
use Rattle.mem_forest.specs.Shape.{IsForest}
use Rattle.mem_forest.proofs.FormLemmas.{store_forest}
use Rattle.mem_forest.proofs.ForgetFormLemmas.{forget_forest}
use Rattle.predicates.specs.Predicate.{Predicate}
use Rattle.predicates.specs.Kinds.{may_keep}
use Rattle.predicates.specs.declared.site.Kind.{Kind}
use Rattle.graph_data.specs.Limits.{most_keeps}
use Rattle.graph_data.specs.Order.{region_cmp}
use Rattle.x86_instr.specs.declared.class.Class.{Class}
use Rattle.x86_instr.specs.declared.class.Class.TheVariants as class
use Rattle.x86_instr.specs.declared.instr.Instr.{Instr}
use Rattle.x86_instr.specs.Classes.{class_of}
use Rattle.x86_machine.specs.Next.{next_address}
use Rattle.step_rules.specs.View.{View}
use Rattle.step_rules.specs.Names.{name}
use Rattle.step_rules.specs.Terms.{number}
use Rattle.step_rules.specs.Drop.{dropped}
use Rattle.step_rules.specs.Moves.{below_top}
use Rattle.step_rules.specs.Access.{with_bytes}
use Rattle.step_rules.specs.Calls.{begin, begun, KeepsHold}
use Rattle.lift_graph.specs.Search.{IsMember}
use Rattle.site_lines.specs.declared.lines.Lines.{Lines}
use Rattle.site_lines.specs.Ordered.{ordered}
use Rattle.site_lines.specs.Saved.{has_region, shared, saved_at, saved_of}
use Rattle.site_lines.specs.Lines.{view_with, with_pairs, with_saved}
use Rattle.lifted_rules.proofs.ListLemmas.{all_ordered, member_map}
use Rattle.lifted_rules.proofs.CriticalLemmas.{critical_needed, needed_some, HasNeeded}

-- ---- the forest where a callee begins

none_forest : IsForest none
none_forest = record { few = omega arith; in_form = refl; single = λ at bytes. omega arith }

stored_forest : (v : View) (p : Predicate) (at t : Option PlainSum) → IsForest p.forest → IsForest (with_bytes v p 8 at t).forest
unfolding with_bytes
stored_forest v p None t h = none_forest
stored_forest v p (Some at) t h = store_forest (relate v.known at 8) at 8 t p.forest refl h

begun_forest : (c : Class) (v : View) (i : Instr) (p : Predicate) → IsForest p.forest → IsForest (begun c v i p).forest
begun_forest class.Calculation v i p h = h
begun_forest class.Transfer v i p h = h
begun_forest class.Division v i p h = h
begun_forest class.Jump v i p h = h
begun_forest class.Call v i p h = stored_forest v p (below_top p) (Some (number (next_address i))) h
begun_forest class.Return v i p h = h
begun_forest class.SystemCall v i p h = h
begun_forest class.Stop v i p h = h

-- it is one where the vertex has one
pub begin_forest : (v : View) (i : Instr) (p : Predicate) → IsForest p.forest → IsForest (begin v i p).forest
begin_forest v i p h = begun_forest (class_of i.op) v i (dropped i p) (forget_forest (name i) p.forest h)

stored_alike : (v w : View) (p : Predicate) (at t : Option PlainSum) → v.known ≡ w.known → with_bytes v p 8 at t ≡ with_bytes w p 8 at t
unfolding with_bytes
stored_alike v w p None t e = refl
stored_alike v w p (Some at) t e = ap (λ k. with_bytes (record v { known = k }) p 8 (Some at) t) e

begun_alike : (c : Class) (v w : View) (i : Instr) (p : Predicate) → v.known ≡ w.known → begun c v i p ≡ begun c w i p
begun_alike class.Calculation v w i p e = refl
begun_alike class.Transfer v w i p e = refl
begun_alike class.Division v w i p e = refl
begun_alike class.Jump v w i p e = refl
begun_alike class.Call v w i p e = stored_alike v w p (below_top p) (Some (number (next_address i))) e
begun_alike class.Return v w i p e = refl
begun_alike class.SystemCall v w i p e = refl
begun_alike class.Stop v w i p e = refl

-- ---- the regions that every vertex has

is_equal : (o : Ordering) → is_eq o ≡ true → o ≡ Equal
is_equal Equal h = refl
is_equal Less h = absurd (let z : ⊥ = cc in z)
is_equal Greater h = absurd (let z : ⊥ = cc in z)

both_equal : (o p : Ordering) → ordering_then o p ≡ Equal → (o ≡ Equal) × (p ≡ Equal)
both_equal Equal p h = (refl, h)
both_equal Less p h = absurd (let z : ⊥ = cc in z)
both_equal Greater p h = absurd (let z : ⊥ = cc in z)

same_region : (r s : Region) → is_eq (region_cmp r s) ≡ true → r ≡ s
same_region r s h =
    let b = both_equal (sum_cmp r.at s.at) (nat_cmp r.bytes s.bytes) (is_equal (region_cmp r s) h) in
    let e = sum_same r.at s.at b.0 in
    let f = exact_unsigned r.bytes s.bytes b.1 in
    λ j. record { at = e j; bytes = f j }

-- a region that is in a list has what each there has
in_list : (P : Region → Type 0) (more : List Region) (r : Region) → has_region more r ≡ true → All P more → P r
in_list P [] r h all = absurd (let z : ⊥ = cc in z)
in_list P (s ∷ more) r h all =
    elim (is_eq (region_cmp s r)) as (λ t. is_eq (region_cmp s r) ≡ t → (t || has_region more r) ≡ true → P r) [
      | true ↦ λ e k. subst P (same_region s r e) (All-head P s more all)
      | false ↦ λ e k. in_list P more r k (All-tail P s more all)
    ] refl h

shared_all : (P : Region → Type 0) (regions : List Region) (lists : List (List Region)) → All P regions → All P (shared regions lists)
shared_all P regions [] h = h
shared_all P regions (more ∷ rest) h = shared_all P (filter (has_region more) regions) rest (All-filter (has_region more) P regions h)

-- what is shared has what each of one of the lists has
shared_in : (P : Region → Type 0) (regions : List Region) (lists : List (List Region)) (l : List Region) → IsMember l lists → All P l → All P (shared regions lists)
shared_in P regions [] l m h = absurd m
shared_in P regions (more ∷ rest) l m h =
    let kept = filter (has_region more) regions in
    elim m as (λ _. All P (shared kept rest)) [
      | inl e ↦ shared_all P kept rest (All-weaker (λ r. has_region more r ≡ true) P (λ r k. in_list P more r k (subst (λ xs. All P xs) (sym e) h)) kept (filter_passes (has_region more) regions))
      | inr later ↦ shared_in P kept rest l later h
    ]

-- a region is a cell with a value where the callee begins
abbrev pub IsKept : View → Instr → Predicate → Region → Type 0
IsKept v i p r = IsSome (value_at r.at r.bytes (begin v i p).forest)

saved_each : (v : View) (i : Instr) (p : Predicate) → IsForest p.forest → All (IsKept v i p) (saved_at v i p)
saved_each v i p h =
    let f = (begin v i p).forest in
    All-weaker (HasNeeded f) (IsKept v i p) (λ r k. needed_some (value_at r.at r.bytes f) k) (saved_at v i p) (critical_needed f (begin_forest v i p h).single)

-- so is each region that is saved, in each vertex
pub saved_kept : (v : View) (i : Instr) (preds : List Predicate) (p : Predicate) → IsMember p preds → IsForest p.forest → All (IsKept v i p) (saved_of v i preds)
saved_kept v i [] p m h = absurd m
saved_kept v i (q ∷ preds) p m h =
    let P = IsKept v i p in
    let all = shared (saved_at v i q) (map (saved_at v i) preds) in
    let each = saved_each v i p h in
    let fact : All P all = elim m as (λ _. All P all) [
      | inl e ↦ shared_all P (saved_at v i q) (map (saved_at v i) preds) (subst (λ x. All P (saved_at v i x)) (sym e) each)
      | inr later ↦ shared_in P (saved_at v i q) (map (saved_at v i) preds) (saved_at v i p) (member_map (saved_at v i) preds p later) each
    ] in
    All-take P most_keeps (ordered region_cmp all) (all_ordered P region_cmp all fact)

saved_lines : (image : Image) (lines : Lines) (i : Instr) (preds : List Predicate) (p : Predicate) → IsMember p preds → IsForest p.forest → All (IsKept (view_with image lines) i p) (with_saved image lines i preds).keeps
saved_lines image lines i preds p m h =
    let P = IsKept (view_with image lines) i p in
    elim (may_keep lines.kind) as (λ b. All P (cond b (saved_of (view_with image lines) i preds) [])) [
      | true ↦ saved_kept (view_with image lines) i preds p m h
      | false ↦ All-nil P
    ]

-- the regions of a site's lines are kept
pub keeps_hold : (image : Image) (lines : Lines) (k : Kind) (i : Instr) (preds : List Predicate) (p : Predicate) → lines ≡ with_saved image (with_pairs image k i preds) i preds → IsMember p preds → IsForest p.forest → KeepsHold (view_with image lines) i p
keeps_hold image lines k i preds p e m h =
    let paired = with_pairs image k i preds in
    let saved = with_saved image paired i preds in
    let alike : begin (view_with image paired) i p ≡ begin (view_with image saved) i p = begun_alike (class_of i.op) (view_with image paired) (view_with image saved) i (dropped i p) refl in
    let here : KeepsHold (view_with image saved) i p =
    subst (λ (q : Predicate). All (λ r. IsSome (value_at r.at r.bytes q.forest)) saved.keeps) alike (saved_lines image paired i preds p m h) in
    subst (λ l. KeepsHold (view_with image l) i p) (sym e) here
