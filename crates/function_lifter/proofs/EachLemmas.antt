-- What is seen of the items of a list one by one.
use Rattle.std.proofs.Common.{◌≡◌, ◌<◌, ◌≤◌, ◌+◌, ℕ, zero, suc, List, [], ◌∷◌, ◌++◌, take, get_or, length, map, refl, sym, ap, ◌∙◌, subst, arith}
use Rattle.std.proofs.lemmas.List.{take_more, take_all, map_more, take-map}
use Rattle.mem_forest.specs.Plain.{PlainNode, cell, cells, none}
use Rattle.graph_data.specs.Parts.{Each}
use Rattle.graph_data.specs.WellFormed.{HasTerms}

pub each_push : {A : Type 0} (P : A → Type 0) (xs : List A) (x : A) → Each P xs → P x → Each P (xs ++ x ∷ [])
each_push P [] x h p = (p, tt)
each_push P (y ∷ xs) x h p = (h.0, each_push P xs x h.1 p)

-- one item more
pub each_more : {A : Type 0} (P : A → Type 0) (xs : List A) (n : ℕ) (x : A) → n < length xs → x ≡ get_or xs n x → Each P (take n xs) → P x → Each P (take (n + 1) xs)
each_more P xs n x l e h p = subst (Each P) (sym (take_more xs n x l ∙ ap (λ y. take n xs ++ y ∷ []) (sym e))) (each_push P (take n xs) x h p)

-- all items
pub each_all : {A : Type 0} (P : A → Type 0) (xs : List A) (n : ℕ) → length xs ≡ n → Each P (take n xs) → Each P xs
each_all P xs n l h = subst (Each P) (take_all n xs (let e = l in omega (arith, e))) h

terms_push : (xs : List PlainNode) (x : PlainNode) → HasTerms (cells xs) → HasTerms (cell x.names x.bytes x.value x.under none) → HasTerms (cells (xs ++ x ∷ []))
terms_push [] x h p = p
terms_push (y ∷ xs) x h p = (h.0, (h.1.0, (h.1.1.0, terms_push xs x h.1.1.1 p)))

-- one node more
pub terms_more : (xs : List PlainNode) (n : ℕ) (x : PlainNode) → n < length xs → x ≡ get_or xs n x → HasTerms (cells (take n xs)) → HasTerms (cell x.names x.bytes x.value x.under none) → HasTerms (cells (take (n + 1) xs))
terms_more xs n x l e h p = subst (λ ys. HasTerms (cells ys)) (sym (take_more xs n x l ∙ ap (λ y. take n xs ++ y ∷ []) (sym e))) (terms_push (take n xs) x h p)

-- one more of what is made of the items
pub mapped_more : {A B : Type 0} (f : A → B) (xs : List A) (n : ℕ) (d : A) (ys zs : List B) (y : B) → n < length xs → ys ≡ take n (map f xs) → y ≡ f (get_or xs n d) → zs ≡ ys ++ y ∷ [] → zs ≡ take (n + 1) (map f xs)
mapped_more f xs n d ys zs y l h same more =
    more ∙ ap (λ bs. bs ++ y ∷ []) (h ∙ take-map f n xs) ∙ ap (λ b. map f (take n xs) ++ b ∷ []) same
    ∙ sym (map_more f xs n d l) ∙ sym (take-map f (n + 1) xs)

-- all that is made of them
pub mapped_all : {A B : Type 0} (f : A → B) (xs : List A) (n : ℕ) (ys : List B) → length xs ≤ n → ys ≡ take n (map f xs) → ys ≡ map f xs
mapped_all f xs n ys l h = h ∙ take-map f n xs ∙ ap (map f) (take_all n xs l)

pub each_one_more : {A : Type 0} (P : A → Type 0) (xs zs : List A) (x : A) → zs ≡ xs ++ x ∷ [] → Each P xs → P x → Each P zs
each_one_more P xs zs x e h p = subst (Each P) (sym e) (each_push P xs x h p)
