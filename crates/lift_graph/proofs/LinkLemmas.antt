-- The edges of a vertex, made anew.
use Rattle.std.proofs.Common.{◌≡◌, ◌≢◌, ◌<◌, ◌+◌, ◌^◌, ◌⊎◌, ℕ, zero, suc, Bool, Some, List, [], ◌∷◌, ◌++◌, length, get_or, take, drop, map, slice_get, refl, sym, ap, ◌∙◌, subst, inl, inr, arith, append_assoc, drop-cons}
use Rattle.std.specs.List.{All, Contains}
use Rattle.std.proofs.lemmas.Bool.{cases_eq, cases_lt}
use Rattle.std.proofs.lemmas.List.{map-append, take_more}
use Rattle.std.proofs.lemmas.List.Elements.{All-head, All-tail, All-nil, All-cons, All-weaker}
use Rattle.lift_graph.specs.Rows.{is_set, items_at}
use Rattle.lift_graph.specs.Graph.{IsGraph, IsListed, IsSquare, IsExtended, IsIndex}
use Rattle.lift_graph.specs.Links.{tag_after, keys_after, IsRow, KeepsEdges, IsLinked, HasRow}
use Rattle.lift_graph.specs.Search.{IsMember}
use Rattle.lift_graph.specs.declared.graph.Key.{Key}
use Rattle.lift_graph.specs.declared.graph.Graph.{Graph}
use Rattle.lift_graph.proofs.IndexLemmas.{get_within}
use Rattle.lift_graph.proofs.MemberLemmas.{contains_from, member_from, contains_more, contains_last}
use Rattle.lift_graph.proofs.SublistLemmas.{sublist_member}

-- one key more
pub keys_next : (forks : Bool) (tag : ℕ) (case : ℕ) (addresses : List ℕ) (keys : List Key) → case < length addresses → keys ++ keys_after forks tag case (drop case addresses) ≡ (keys ++ record { address = get_or addresses case 0; tag = tag_after forks tag case } ∷ []) ++ keys_after forks tag (case + 1) (drop (case + 1) addresses)
keys_next forks tag case addresses keys l =
    let last : suc case ≡ case + 1 = omega arith in
    let k : Key = record { address = get_or addresses case 0; tag = tag_after forks tag case } in
    ap (λ xs. keys ++ keys_after forks tag case xs) (drop-cons addresses case 0 l) ∙ ap (λ n. keys ++ k ∷ keys_after forks tag (case + 1) (drop n addresses)) last ∙ sym (append_assoc keys (k ∷ []) (keys_after forks tag (case + 1) (drop (case + 1) addresses)))

-- what was found stays found
pub found_kept : (old new : List Key) (row : List ℕ) (wanted : List Key) → ((v : ℕ) (k : Key) → slice_get old v ≡ Some k → slice_get new v ≡ Some k) → map (slice_get old) row ≡ map Some wanted → map (slice_get new) row ≡ map Some wanted
found_kept old new [] [] kept e = refl
found_kept old new [] (w ∷ ws) kept e = absurd (let f : ⊥ = cc in f)
found_kept old new (r ∷ rs) [] kept e = absurd (let f : ⊥ = cc in f)
found_kept old new (r ∷ rs) (w ∷ ws) kept e =
    let here : slice_get old r ≡ Some w = cc in
    let rest : map (slice_get old) rs ≡ map Some ws = cc in
    let now = kept r w here in
    let later = found_kept old new rs ws kept rest in
    cc

pub row_none : (g : Graph) (wanted : List Key) → IsRow g g (take 0 wanted) []
row_none g wanted = record { extended = record { more = omega arith; keys = λ v k h. h; targets = λ u. refl; inward = λ u. refl; keeps = λ u. refl }; found = refl; fresh = λ v a b. absurd (omega arith) }

pub row_more : (old mid new : Graph) (wanted : List Key) (i : ℕ) (d : Key) (row : List ℕ) (v : ℕ) → i < length wanted → IsRow old mid (take i wanted) row → IsExtended mid new → slice_get new.keys.items v ≡ Some (get_or wanted i d) → (length new.keys.items ≡ length mid.keys.items) ⊎ ((v ≡ length mid.keys.items) × (length new.keys.items ≡ length mid.keys.items + 1)) → IsRow old new (take (i + 1) wanted) (row ++ v ∷ [])
row_more old mid new wanted i d row v l r x found fresh =
    let more = x.more in
    let before = r.extended.more in
    record {
      extended = record { more = omega arith; keys = λ u k h. x.keys u k (r.extended.keys u k h); targets = λ u. x.targets u ∙ r.extended.targets u; inward = λ u. x.inward u ∙ r.extended.inward u; keeps = λ u. x.keeps u ∙ r.extended.keeps u };
      found =
          let w = get_or wanted i d in
          map-append (slice_get new.keys.items) row (v ∷ []) ∙ ap (λ xs. xs ++ slice_get new.keys.items v ∷ []) (found_kept mid.keys.items new.keys.items row (take i wanted) x.keys r.found) ∙ ap (λ o. map Some (take i wanted) ++ o ∷ []) found ∙ sym (map-append Some (take i wanted) (w ∷ [])) ∙ ap (map Some) (sym (take_more wanted i d l));
      fresh = λ u a b. elim (cases_lt u (length mid.keys.items)) as (λ _. Contains (row ++ v ∷ []) u) [
        | inl s ↦ contains_more row v u (r.fresh u a s)
        | inr g ↦ elim fresh as (λ _. Contains (row ++ v ∷ []) u) [
          | inl same ↦ absurd (omega arith)
          | inr w ↦ (let here : v ≡ u = (let p = w.0 in let q = w.1 in omega arith) in subst (λ y. Contains (row ++ v ∷ []) y) here (contains_last row v))
        ]
      ];
    }

member_map : {A B : Type 0} (f : A → B) (x : A) (xs : List A) → IsMember x xs → IsMember (f x) (map f xs)
member_map f x [] h = absurd h
member_map f x (y ∷ ys) h = elim h as (λ _. IsMember (f x) (map f (y ∷ ys))) [ inl e ↦ inl (ap f e) | inr r ↦ inr (member_map f x ys r) ]

member_of_map : {A B : Type 0} (f : A → B) (y : B) (xs : List A) → IsMember y (map f xs) → (x : A) × IsMember x xs × (f x ≡ y)
member_of_map f y [] h = absurd h
member_of_map f y (x ∷ xs) h = elim h as (λ _. (z : _) × IsMember z (x ∷ xs) × (f z ≡ y)) [ inl e ↦ (x, inl refl, e) | inr r ↦ (let m = member_of_map f y xs r in (m.0, inr m.1, m.2)) ]

-- the vertices of a row are there
pub row_within : (keys : List Key) (row : List ℕ) (wanted : List Key) → map (slice_get keys) row ≡ map Some wanted → All (λ v. v < length keys) row
row_within keys [] ws e = All-nil (λ v. v < length keys)
row_within keys (r ∷ rs) [] e = absurd (let f : ⊥ = cc in f)
row_within keys (r ∷ rs) (w ∷ ws) e =
    let here : slice_get keys r ≡ Some w = cc in
    let rest : map (slice_get keys) rs ≡ map Some ws = cc in
    All-cons (λ v. v < length keys) r rs (get_within keys r w here) (row_within keys rs ws rest)

pub row_above : (keys : List Key) (address : ℕ) (row : List ℕ) (wanted : List Key) → slice_get keys 0 ≡ Some (record { address = address; tag = 0 }) → All (λ k. (0 < k.tag) × (k.tag + 1 < 2 ^ 64)) wanted → map (slice_get keys) row ≡ map Some wanted → All (λ v. (0 < v) × (v < length keys)) row
row_above keys address [] ws first above e = All-nil (λ v. (0 < v) × (v < length keys))
row_above keys address (r ∷ rs) [] first above e = absurd (let f : ⊥ = cc in f)
row_above keys address (r ∷ rs) (w ∷ ws) first above e =
    let here : slice_get keys r ≡ Some w = cc in
    let rest : map (slice_get keys) rs ≡ map Some ws = cc in
    let positive : 0 < r = elim (cases_eq r 0) as (λ _. 0 < r) [
      | inl z ↦ absurd (let s : Some (record { address = address; tag = 0 }) ≡ Some w = sym first ∙ ap (slice_get keys) (sym z) ∙ here in let k : record { address = address; tag = 0 } ≡ w = cc in let t = (All-head (λ k. (0 < k.tag) × (k.tag + 1 < 2 ^ 64)) w ws above).0 in let q : 0 ≡ w.tag = ap (λ (x : Key). x.tag) k in omega arith)
      | inr n ↦ omega arith
    ] in
    All-cons (λ v. (0 < v) × (v < length keys)) r rs (positive, get_within keys r w here) (row_above keys address rs ws first (All-tail (λ k. (0 < k.tag) × (k.tag + 1 < 2 ^ 64)) w ws above) rest)

get_some : {A : Type 0} (xs : List A) (v : ℕ) → v < length xs → (x : A) × (slice_get xs v ≡ Some x)
get_some [] v h = absurd (omega arith)
get_some (x ∷ xs) zero h = (x, refl)
get_some (x ∷ xs) (suc v) h = get_some xs v (omega arith)

-- a vertex whose edges were made anew: the graph stays one, and what was born of its edges still is
pub linked_graph : (old mid new : Graph) (vertex : ℕ) (wanted : List Key) (row : List ℕ) → vertex < length old.keys.items → IsGraph old → KeepsEdges old vertex wanted → All (λ k. (0 < k.tag) × (k.tag + 1 < 2 ^ 64)) wanted → IsListed mid → IsRow old mid wanted row → HasRow mid new vertex row → IsSquare new → IsGraph new
linked_graph old mid new vertex wanted row l g kept tagged listed made has square =
    let keys : mid.keys.items ≡ new.keys.items = sym (ap (λ x. x.items) has.keys) in
    let others : (u : ℕ) → u ≢ vertex → items_at new.targets.items u ≡ items_at old.targets.items u = λ u n. has.others u n ∙ made.extended.targets u in
    let fits = made.extended.more in
    let born : (v : ℕ) → 0 < v → v < length mid.keys.items → (u : ℕ) × (u < v) × Contains (items_at new.targets.items u) v = λ v a b.
    elim (cases_lt v (length old.keys.items)) as (λ _. (u : ℕ) × (u < v) × Contains (items_at new.targets.items u) v) [
      | inr fresh ↦ (vertex, omega arith, subst (λ xs. Contains xs v) (sym has.here) (made.fresh v fresh b))
      | inl before ↦
          (let w = g.born v a before in
          elim (cases_eq w.0 vertex) as (λ _. (u : ℕ) × (u < v) × Contains (items_at new.targets.items u) v) [
            | inr n ↦ (w.0, w.1, subst (λ xs. Contains xs v) (sym (others w.0 n)) w.2)
            | inl e ↦
                (let found = get_some old.keys.items v before in
                let row_old = items_at old.targets.items vertex in
                let inside : IsMember v row_old = subst (λ u. IsMember v (items_at old.targets.items u)) e (member_from v (items_at old.targets.items w.0) w.2.0 w.2.1 w.2.2) in
                let key_in : IsMember (slice_get old.keys.items v) (map Some wanted) = sublist_member (slice_get old.keys.items v) (map (slice_get old.keys.items) row_old) (map Some wanted) kept (member_map (slice_get old.keys.items) v row_old inside) in
                let there = member_of_map (slice_get mid.keys.items) (slice_get old.keys.items v) row (subst (IsMember (slice_get old.keys.items v)) (sym made.found) key_in) in
                let one : slice_get mid.keys.items there.0 ≡ Some found.0 = there.2 ∙ found.1 in
                let two : slice_get mid.keys.items v ≡ Some found.0 = made.extended.keys v found.0 found.1 in
                let index = sym ((listed.index found.0 there.0).1 one) ∙ (listed.index found.0 v).1 two in
                let same : there.0 ≡ v = cc in
                (w.0, w.1, subst (λ u. Contains (items_at new.targets.items u) v) (sym e) (subst (λ xs. Contains xs v) (sym has.here) (contains_from v row (subst (λ x. IsMember x row) same there.1)))))
          ])
    ] in
    record {
      listed = record {
        square = square;
        index = subst (λ x. IsIndex new.index x.items) (sym has.keys) (subst (λ i. IsIndex i mid.keys.items) (sym has.index) listed.index);
        tags = subst (λ x. All (λ k. k.tag < new.tags) x.items) (sym has.keys) (subst (λ t. All (λ k. k.tag < t) mid.keys.items) (sym has.tags) listed.tags);
      };
      entry = (g.entry.0, subst (λ ks. slice_get ks 0 ≡ Some (record { address = g.entry.0; tag = 0 })) keys (made.extended.keys 0 (record { address = g.entry.0; tag = 0 }) g.entry.1));
      within = λ u. subst (λ ks. All (λ v. (0 < v) × (v < length ks)) (items_at new.targets.items u)) keys
          (elim (cases_eq u vertex) as (λ _. All (λ v. (0 < v) × (v < length mid.keys.items)) (items_at new.targets.items u)) [
            | inl e ↦ subst (λ x. All (λ v. (0 < v) × (v < length mid.keys.items)) (items_at new.targets.items x)) (sym e) (subst (All (λ v. (0 < v) × (v < length mid.keys.items))) (sym has.here) (row_above mid.keys.items g.entry.0 row wanted (made.extended.keys 0 (record { address = g.entry.0; tag = 0 }) g.entry.1) tagged made.found))
            | inr n ↦ subst (All (λ v. (0 < v) × (v < length mid.keys.items))) (sym (others u n)) (All-weaker (λ v. (0 < v) × (v < length old.keys.items)) (λ v. (0 < v) × (v < length mid.keys.items)) (λ v h. let p = h.1 in (h.0, omega arith)) (items_at old.targets.items u) (g.within u))
          ]);
      born = λ v a b. born v a (subst (λ ks. v < length ks) (sym keys) b);
    }

pub linked_row : (old mid new : Graph) (vertex : ℕ) (wanted : List Key) (row : List ℕ) → IsRow old mid wanted row → HasRow mid new vertex row → IsLinked old new vertex wanted
linked_row old mid new vertex wanted row made has =
    record {
      kept = λ v k h. subst (λ x. slice_get x.items v ≡ Some k) (sym has.keys) (made.extended.keys v k h);
      led = ap (map (slice_get new.keys.items)) has.here ∙ ap (λ x. map (slice_get x.items) row) has.keys ∙ made.found;
      others = λ u n. has.others u n ∙ made.extended.targets u;
      entry = has.entry ∙ made.extended.inward 0;
      keeps = ap (λ x. is_set x.items 0) has.keeps ∙ made.extended.keeps 0;
    }
