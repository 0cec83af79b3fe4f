-- Edges that lead to some of a list of keys, one key more.
use Rattle.std.proofs.Common.{◌≡◌, ◌≢◌, ◌<◌, ◌≤◌, ◌+◌, ◌↔◌, ℕ, zero, suc, Option, Some, List, [], ◌∷◌, length, get_or, drop, map, slice_get, nat_eq, IsTrue, ◌-◌, length-drop, eq-eqb, refl, sym, ap, ◌∙◌, subst, inl, inr, arith, drop-cons}
use Rattle.std.proofs.lemmas.Bool.{eqb-true}
use Rattle.std.proofs.lemmas.List.{drop_all}
use Rattle.lift_graph.specs.Links.{IsSublist}
use Rattle.lift_graph.specs.Search.{IsMember}
use Rattle.lift_graph.specs.declared.graph.Key.{Key}

sublist_tail : {A : Type 0} (x : A) (xs ys : List A) → IsSublist (x ∷ xs) ys → IsSublist xs ys
sublist_tail x [] ys h = tt
sublist_tail x (y ∷ xs) [] h = absurd h
sublist_tail x (y ∷ xs) (z ∷ ys) h = elim h as (λ _. IsSublist (y ∷ xs) (z ∷ ys)) [ inl w ↦ inr w.1 | inr r ↦ inr (sublist_tail x (y ∷ xs) ys r) ]

pub sublist_skip : {A : Type 0} (xs : List A) (y : A) (ys : List A) → IsSublist xs ys → IsSublist xs (y ∷ ys)
sublist_skip [] y ys h = tt
sublist_skip (x ∷ xs) y ys h = inr h

-- what stands in a part stands in the whole
pub sublist_member : {A : Type 0} (x : A) (xs ys : List A) → IsSublist xs ys → IsMember x xs → IsMember x ys
sublist_member x [] ys h m = absurd m
sublist_member x (z ∷ xs) [] h m = absurd h
sublist_member x (z ∷ xs) (y ∷ ys) h m = elim h as (λ _. IsMember x (y ∷ ys)) [
  | inl w ↦ elim m as (λ _. IsMember x (y ∷ ys)) [ inl e ↦ inl (sym w.0 ∙ e) | inr r ↦ inr (sublist_member x xs ys w.1 r) ]
  | inr r ↦ inr (sublist_member x (z ∷ xs) ys r m)
]

-- no edge is left
pub kept_end : (keys : List Key) (row : List ℕ) (kept : ℕ) (key : Key) (more : List (Option Key)) → length row ≤ kept → IsSublist (map (slice_get keys) (drop kept row)) (Some key ∷ more) ↔ IsSublist (map (slice_get keys) (drop kept row)) more
kept_end keys row kept key more h = rw (drop_all kept row h) (λ _. tt, λ _. tt)

-- the next edge leads elsewhere
pub kept_other : (keys : List Key) (row : List ℕ) (kept : ℕ) (key : Key) (more : List (Option Key)) → kept < length row → slice_get keys (get_or row kept 0) ≢ Some key → IsSublist (map (slice_get keys) (drop kept row)) (Some key ∷ more) ↔ IsSublist (map (slice_get keys) (drop kept row)) more
kept_other keys row kept key more l n = rw (drop-cons row kept 0 l) (
  λ h. elim h as (λ _. IsSublist (slice_get keys (get_or row kept 0) ∷ map (slice_get keys) (drop (suc kept) row)) more) [ inl w ↦ absurd (n w.0) | inr r ↦ r ],
  λ h. inr h,
)

-- the next edge leads there
pub kept_same : (keys : List Key) (row : List ℕ) (kept : ℕ) (key : Key) (more : List (Option Key)) → kept < length row → slice_get keys (get_or row kept 0) ≡ Some key → IsSublist (map (slice_get keys) (drop kept row)) (Some key ∷ more) ↔ IsSublist (map (slice_get keys) (drop (kept + 1) row)) more
kept_same keys row kept key more l e =
    let rest = map (slice_get keys) (drop (suc kept) row) in
    let both : IsSublist (slice_get keys (get_or row kept 0) ∷ rest) (Some key ∷ more) ↔ IsSublist rest more = (
      λ h. elim h as (λ _. IsSublist rest more) [ inl w ↦ w.1 | inr r ↦ sublist_tail (slice_get keys (get_or row kept 0)) rest more r ],
      λ h. inl (e, h),
    ) in
    let last : kept + 1 ≡ suc kept = omega arith in
    subst (λ n. IsSublist (map (slice_get keys) (drop kept row)) (Some key ∷ more) ↔ IsSublist (map (slice_get keys) (drop n row)) more) (sym last)
    (subst (λ xs. IsSublist (map (slice_get keys) xs) (Some key ∷ more) ↔ IsSublist rest more) (sym (drop-cons row kept 0 l)) both)

sublist_nil : {A : Type 0} (xs : List A) → IsSublist xs [] → xs ≡ []
sublist_nil [] h = refl
sublist_nil (x ∷ xs) h = absurd h

reads : (keys : List Key) (v : ℕ) (d : Key) → v < length keys → slice_get keys v ≡ Some (get_or keys v d)
reads [] v d h = absurd (omega arith)
reads (k ∷ ks) zero d h = refl
reads (k ∷ ks) (suc v) d h = reads ks v d (omega arith)

pub address_differs : (keys : List Key) (v : ℕ) (d key : Key) → v < length keys → (get_or keys v d).address ≢ key.address → slice_get keys v ≢ Some key
address_differs keys v d key l n e = let s : Some (get_or keys v d) ≡ Some key = sym (reads keys v d l) ∙ e in let k : get_or keys v d ≡ key = cc in n (ap (λ (x : Key). x.address) k)

pub tag_differs : (keys : List Key) (v : ℕ) (d key : Key) → v < length keys → (get_or keys v d).tag ≢ key.tag → slice_get keys v ≢ Some key
tag_differs keys v d key l n e = let s : Some (get_or keys v d) ≡ Some key = sym (reads keys v d l) ∙ e in let k : get_or keys v d ≡ key = cc in n (ap (λ (x : Key). x.tag) k)

pub same_key_at : (keys : List Key) (v : ℕ) (d key : Key) → v < length keys → (get_or keys v d).address ≡ key.address → (get_or keys v d).tag ≡ key.tag → slice_get keys v ≡ Some key
same_key_at keys v d key l a t =
    let x = get_or keys v d in
    let e : x ≡ key = ap {B = Key} (λ b. record { address = b; tag = x.tag }) a ∙ ap {B = Key} (λ b. record { address = key.address; tag = b }) t in
    reads keys v d l ∙ ap Some e

-- one key more
pub kept_step : (P : Type 0) (keys : List Key) (row : List ℕ) (wanted : List Key) (i before after : ℕ) (d : Key) → i < length wanted → (P ↔ IsSublist (map (slice_get keys) (drop before row)) (map Some (drop i wanted))) → ((more : List (Option Key)) → IsSublist (map (slice_get keys) (drop before row)) (Some (get_or wanted i d) ∷ more) ↔ IsSublist (map (slice_get keys) (drop after row)) more) → P ↔ IsSublist (map (slice_get keys) (drop after row)) (map Some (drop (i + 1) wanted))
kept_step P keys row wanted i before after d l same next =
    let rest = map Some (drop (i + 1) wanted) in
    let last : suc i ≡ i + 1 = omega arith in
    let e : map Some (drop i wanted) ≡ Some (get_or wanted i d) ∷ rest = ap (map Some) (drop-cons wanted i d l) ∙ ap (λ n. Some (get_or wanted i d) ∷ map Some (drop n wanted)) last in
    let both = next rest in (
      λ p. both.0 (subst (IsSublist (map (slice_get keys) (drop before row))) e (same.0 p)),
      λ h. same.1 (subst (IsSublist (map (slice_get keys) (drop before row))) (sym e) (both.1 h)),
    )

map_nil : {A B : Type 0} (f : A → B) (xs : List A) → map f xs ≡ [] → xs ≡ []
map_nil f [] h = refl
map_nil f (x ∷ xs) h = absurd (let z : ⊥ = cc in z)

-- no key is left
pub kept_all : (P : Type 0) (keys : List Key) (row : List ℕ) (wanted : List Key) (i kept : ℕ) → length wanted ≤ i → kept ≤ length row → (P ↔ IsSublist (map (slice_get keys) (drop kept row)) (map Some (drop i wanted))) → IsTrue (nat_eq kept (length row)) ↔ P
kept_all P keys row wanted i kept l w same =
    let none : map Some (drop i wanted) ≡ [] = ap (map Some) (drop_all i wanted l) in (
      λ t. same.1 (subst (λ xs. IsSublist xs (map Some (drop i wanted))) (sym (ap (map (slice_get keys)) (drop_all kept row (let e = eqb-true kept (length row) t in omega arith)))) tt),
      λ p. let e : drop kept row ≡ [] = map_nil (slice_get keys) (drop kept row) (sublist_nil (map (slice_get keys) (drop kept row)) (subst (IsSublist (map (slice_get keys) (drop kept row))) none (same.0 p))) in
          let n : length row - kept ≡ 0 = sym (length-drop kept row) ∙ ap length e in
          eq-eqb kept (length row) (omega arith),
    )
