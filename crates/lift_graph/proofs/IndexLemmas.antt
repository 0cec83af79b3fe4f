-- One key more in the index.
use Rattle.std.proofs.Common.{◌≡◌, ◌<◌, ◌+◌, ◌⊎◌, ℕ, zero, suc, true, false, cond, Some, None, List, [], ◌∷◌, ◌++◌, length, slice_get, get_or, max, refl, sym, ap, ◌∙◌, subst, inl, inr, arith}
use Rattle.std.specs.List.{All}
use Rattle.std.specs.Ordering.{nat_cmp, ordering_then, is_eq}
use Rattle.std.specs.declared.cmp.Ordering.{Ordering}
use Rattle.std.specs.declared.cmp.Ordering.TheVariants.{Equal, Less, Greater}
use Rattle.std.specs.BTreeMap.{BTreeMap, get, Updates}
use Rattle.std.proofs.lemmas.Bool.{false≢true}
use Rattle.std.proofs.lemmas.Map.Lookups.{exact_unsigned}
use Rattle.std.proofs.lemmas.List.Elements.{All-append, All-weaker, All-cons, All-nil, All-head, All-tail}
use Rattle.lift_graph.specs.Graph.{key_cmp, IsIndex, address_at, tag_at}
use Rattle.lift_graph.specs.declared.graph.Key.{Key}

is_equal : (o : Ordering) → is_eq o ≡ true → o ≡ Equal
is_equal Equal h = refl
is_equal Less h = absurd (false≢true h)
is_equal Greater h = absurd (false≢true h)

both_equal : (o p : Ordering) → ordering_then o p ≡ Equal → (o ≡ Equal) × (p ≡ Equal)
both_equal Equal p h = (refl, h)
both_equal Less p h = absurd (let f : ⊥ = cc in f)
both_equal Greater p h = absurd (let f : ⊥ = cc in f)

-- keys that compare as equal are the same
same_key : (x y : Key) → is_eq (key_cmp x y) ≡ true → x ≡ y
same_key x y h =
    let b = both_equal (nat_cmp x.address y.address) (nat_cmp x.tag y.tag) (is_equal (key_cmp x y) h) in
    let e = exact_unsigned x.address y.address b.0 in
    let f = exact_unsigned x.tag y.tag b.1 in
    ap {B = Key} (λ a. record { address = a; tag = x.tag }) e ∙ ap {B = Key} (λ t. record { address = y.address; tag = t }) f

pub get_within : {A : Type 0} (xs : List A) (v : ℕ) (x : A) → slice_get xs v ≡ Some x → v < length xs
get_within [] v x h = absurd (let f : ⊥ = cc in f)
get_within (y ∷ ys) zero x h = omega arith
get_within (y ∷ ys) (suc v) x h = let t = get_within ys v x h in omega arith

get_front : {A : Type 0} (xs : List A) (y : A) (v : ℕ) → v < length xs → slice_get (xs ++ y ∷ []) v ≡ slice_get xs v
get_front [] y v h = absurd (omega arith)
get_front (x ∷ xs) y zero h = refl
get_front (x ∷ xs) y (suc v) h = get_front xs y v (omega arith)

-- a key that was there stays
pub key_kept : {A : Type 0} (xs : List A) (y : A) (v : ℕ) (x : A) → slice_get xs v ≡ Some x → slice_get (xs ++ y ∷ []) v ≡ Some x
key_kept xs y v x h = get_front xs y v (get_within xs v x h) ∙ h

pub key_last : {A : Type 0} (xs : List A) (y : A) (n : ℕ) → n ≡ length xs → slice_get (xs ++ y ∷ []) n ≡ Some y
key_last [] y zero h = refl
key_last [] y (suc n) h = absurd (omega arith)
key_last (x ∷ xs) y zero h = absurd (omega arith)
key_last (x ∷ xs) y (suc n) h = key_last xs y n (omega arith)

key_of_more : {A : Type 0} (xs : List A) (y : A) (v : ℕ) (x : A) → slice_get (xs ++ y ∷ []) v ≡ Some x → (slice_get xs v ≡ Some x) ⊎ ((v ≡ length xs) × (y ≡ x))
key_of_more [] y zero x h = inr (refl, let f : y ≡ x = cc in f)
key_of_more [] y (suc v) x h = absurd (let f : ⊥ = cc in f)
key_of_more (z ∷ zs) y zero x h = inl h
key_of_more (z ∷ zs) y (suc v) x h = elim (key_of_more zs y v x h) as (λ _. (slice_get (z ∷ zs) (suc v) ≡ Some x) ⊎ ((suc v ≡ length (z ∷ zs)) × (y ≡ x))) [ inl e ↦ inl e | inr w ↦ inr (omega (arith, w.0), w.1) ]

pub index_more : (before after : BTreeMap Key ℕ) (keys : List Key) (key : Key) (n : ℕ) → n ≡ length keys → IsIndex before keys → get key_cmp before key ≡ None → Updates key_cmp before after key (Some n) → IsIndex after (keys ++ key ∷ [])
index_more before after keys key n l i none u q v = (
  λ h. elim (is_eq (key_cmp key q)) as (λ b. is_eq (key_cmp key q) ≡ b → slice_get (keys ++ key ∷ []) v ≡ Some q) [
    | true ↦ (λ e. let s : key ≡ q = same_key key q e in
        let w : Some n ≡ Some v = sym (ap (λ b. cond b (Some n) (get key_cmp before q)) e) ∙ sym (u.0 q) ∙ h in
        let k : n ≡ v = cc in
        key_last keys key v (omega arith) ∙ ap Some s)
    | false ↦ (λ e. key_kept keys key v q ((i q v).0 (sym (u.2 q e) ∙ h)))
  ] refl,
  λ h. elim (key_of_more keys key v q h) as (λ _. get key_cmp after q ≡ Some v) [
    | inl old ↦ elim (is_eq (key_cmp key q)) as (λ b. is_eq (key_cmp key q) ≡ b → get key_cmp after q ≡ Some v) [
      | true ↦ (λ e. let s : key ≡ q = same_key key q e in absurd (let f : None ≡ Some v = sym (subst (λ k. get key_cmp before k ≡ None) s none) ∙ (i q v).1 old in let g : ⊥ = cc in g))
      | false ↦ (λ e. u.2 q e ∙ (i q v).1 old)
    ] refl
    | inr w ↦ subst (λ k. get key_cmp after k ≡ Some v) w.1 (u.1 ∙ ap Some (l ∙ sym w.0))
  ],
)

pub tags_more : (keys : List Key) (key : Key) (tags : ℕ) → All (λ k. k.tag < tags) keys → All (λ k. k.tag < max tags (key.tag + 1)) (keys ++ key ∷ [])
tags_more keys key tags all =
    All-append (λ k. k.tag < max tags (key.tag + 1)) keys (key ∷ []) (All-weaker (λ k. k.tag < tags) (λ k. k.tag < max tags (key.tag + 1)) (λ k h. omega arith) keys all) (All-cons (λ k. k.tag < max tags (key.tag + 1)) key [] (omega arith) (All-nil (λ k. k.tag < max tags (key.tag + 1))))

pub tag_at_read : (keys : List Key) (v : ℕ) (k : Key) → v < length keys → k ≡ get_or keys v k → tag_at keys v ≡ k.tag
tag_at_read [] v k h e = absurd (omega arith)
tag_at_read (x ∷ xs) zero k h e = ap (λ (y : Key). y.tag) (sym e)
tag_at_read (x ∷ xs) (suc v) k h e = tag_at_read xs v k (omega arith) e

pub tag_at_below : (keys : List Key) (v top : ℕ) → v < length keys → All (λ k. k.tag < top) keys → tag_at keys v < top
tag_at_below [] v top h all = absurd (omega arith)
tag_at_below (x ∷ xs) zero top h all = All-head (λ k. k.tag < top) x xs all
tag_at_below (x ∷ xs) (suc v) top h all = tag_at_below xs v top (omega arith) (All-tail (λ k. k.tag < top) x xs all)

pub address_at_read : (keys : List Key) (v : ℕ) (k : Key) → v < length keys → k ≡ get_or keys v k → address_at keys v ≡ k.address
address_at_read [] v k h e = absurd (omega arith)
address_at_read (x ∷ xs) zero k h e = ap (λ (y : Key). y.address) (sym e)
address_at_read (x ∷ xs) (suc v) k h e = address_at_read xs v k (omega arith) e

pub address_at_get : (keys : List Key) (v : ℕ) (d : Key) → v < length keys → address_at keys v ≡ (get_or keys v d).address
address_at_get [] v d h = absurd (omega arith)
address_at_get (x ∷ xs) zero d h = refl
address_at_get (x ∷ xs) (suc v) d h = address_at_get xs v d (omega arith)
