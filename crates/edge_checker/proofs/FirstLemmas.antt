-- The first element of lists that are joined.
use Rattle.std.proofs.Common.{◌≡◌, ℕ, ◌+◌, ◌<◌, ◌≤◌, suc, Bool, true, false, List, [], ◌∷◌, ◌++◌, map, Some, None, Option, length, get_or, drop, refl, sym, ◌∙◌, ap, add-one, drop-cons, is_some, IfSome}
use Rattle.std.specs.List.{flat_map}
use Rattle.std.proofs.Math.ListN.{drop_of_length-le}
use Rattle.edge_checker.specs.Breaks.{first}

-- a list whose first element is there hides what is behind it
pub first-append-Some : {A : Type 0} (xs ys : List A) (a : A) → first xs ≡ Some a → first (xs ++ ys) ≡ Some a
first-append-Some [] ys a e = cc
first-append-Some (x ∷ xs) ys a e = e

-- an empty list hides nothing
pub first-append-None : {A : Type 0} (xs ys : List A) → first xs ≡ None → first (xs ++ ys) ≡ first ys
first-append-None [] ys e = refl
first-append-None (x ∷ xs) ys e = cc

-- what is the first of the whole is the first from the place i on
pub record IsFirstFrom {X A : Type 0} (f : X → List A) (xs : List X) (i : ℕ) (whole : Option A) : Type 0 where
  pub same : whole ≡ first (flat_map f (drop i xs))

-- before the first place it is the first of all
pub starts : {X A : Type 0} (f : X → List A) (xs : List X) → IsFirstFrom f xs 0 (first (flat_map f xs))
starts f xs = record { same = refl }

-- the rest from a place that is there on
rest_at : {X A : Type 0} (f : X → List A) (xs : List X) (i : ℕ) (x : X) → i < length xs → x ≡ get_or xs i x → flat_map f (drop i xs) ≡ f x ++ flat_map f (drop (i + 1) xs)
rest_at f xs i x h is = ap (flat_map f) (drop-cons xs i x h) ∙ ap (λ y. f y ++ flat_map f (drop (suc i) xs)) (sym is) ∙ ap (λ n. f x ++ flat_map f (drop n xs)) (sym (add-one i))

-- where the place has one, that is the first
pub stops : {X A : Type 0} {f : X → List A} {xs ys : List X} {i : ℕ} {whole : Option A} {x : X} {r : Option A} {b : Bool} → IsFirstFrom f xs i whole → ys ≡ xs → i < length ys → x ≡ get_or ys i x → r ≡ first (f x) → b ≡ is_some r → b ≡ true → r ≡ whole
stops {r = None} from same h is e some there = cc
stops {f = f} {xs = xs} {ys = ys} {i = i} {whole = whole} {x = x} {r = Some a} from same h is e some there =
    let here : first (f x ++ flat_map f (drop (i + 1) ys)) ≡ Some a = first-append-Some (f x) (flat_map f (drop (i + 1) ys)) a (sym e) in
    sym (from.same ∙ ap (λ zs. first (flat_map f (drop i zs))) (sym same) ∙ ap first (rest_at f ys i x h is) ∙ here)

-- where it has none, the next place goes on
pub goes_on : {X A : Type 0} {f : X → List A} {xs ys : List X} {i : ℕ} {whole : Option A} {x : X} {r : Option A} {b : Bool} → IsFirstFrom f xs i whole → ys ≡ xs → i < length ys → x ≡ get_or ys i x → r ≡ first (f x) → b ≡ is_some r → b ≡ false → IsFirstFrom f xs (i + 1) whole
goes_on {r = Some a} from same h is e some absent = cc
goes_on {f = f} {xs = xs} {ys = ys} {i = i} {whole = whole} {x = x} {r = None} from same h is e some absent = record {
  same = from.same ∙ ap (λ zs. first (flat_map f (drop i zs))) (sym same) ∙ ap first (rest_at f ys i x h is)
      ∙ first-append-None (f x) (flat_map f (drop (i + 1) ys)) (sym e) ∙ ap (λ zs. first (flat_map f (drop (i + 1) zs))) same;
}

-- behind the last place there is none
pub ends : {X A : Type 0} {f : X → List A} {xs ys : List X} {i : ℕ} {whole : Option A} → IsFirstFrom f xs i whole → ys ≡ xs → length ys ≤ i → None ≡ whole
ends {f = f} {ys = ys} {i = i} from same h =
    sym (from.same ∙ ap (λ zs. first (flat_map f (drop i zs))) (sym same) ∙ ap (λ zs. first (flat_map f zs)) (drop_of_length-le ys h))

-- ---- rules before others

-- a rule that is broken hides what is behind it
pub first-rule : {A B : Type 0} (place : A → B) (rules : List A) (rest : List B) (rule : A) → Some rule ≡ first rules → Some (place rule) ≡ first (map place rules ++ rest)
first-rule place [] rest rule e = absurd (cc)
first-rule place (x ∷ rules) rest rule e = let same : rule ≡ x = cc in ap (λ y. Some (place y)) same

-- rules that are not broken hide nothing
pub no-rule : {A B : Type 0} (place : A → B) (rules : List A) (rest : List B) → None ≡ first rules → first rest ≡ first (map place rules ++ rest)
no-rule place [] rest e = refl
no-rule place (x ∷ rules) rest e = absurd (cc)

-- the first of the images is the image of the first
pub first-image : {A B : Type 0} (place : A → B) (rules : List A) (rule : A) → Some rule ≡ first rules → Some (place rule) ≡ first (map place rules)
first-image place [] rule e = absurd (cc)
first-image place (x ∷ rules) rule e = let same : rule ≡ x = cc in ap (λ y. Some (place y)) same

pub no-image : {A B : Type 0} (place : A → B) (rules : List A) → None ≡ first rules → None ≡ first (map place rules)
no-image place [] e = refl
no-image place (x ∷ rules) e = absurd (cc)

-- the same, of the rules of what is there
pub image_of : {X A B : Type 0} (place : A → B) (rules : X → List A) (o : Option X) {r : Option A} {rule : A} {b : B}
    → IfSome o (λ x. r ≡ first (rules x)) → r ≡ Some rule → b ≡ place rule → IfSome o (λ x. Some b ≡ first (map place (rules x)))
image_of place rules None some is e = tt
image_of place rules (Some x) {rule = rule} some is e = ap Some e ∙ first-image place (rules x) rule (sym is ∙ some)
