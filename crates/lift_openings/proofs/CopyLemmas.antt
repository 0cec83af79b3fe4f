-- What a copy keeps.
use Rattle.std.proofs.Common.{◌≡◌, ◌<◌, ◌+◌, ℕ, zero, suc, List, [], ◌∷◌, ◌++◌, map, take, get_or, length, refl, sym, ap, ◌∙◌, subst}
use Rattle.std.specs.List.{All}
use Rattle.std.proofs.lemmas.List.{map_more, map_push, take-map}
use Rattle.std.proofs.lemmas.List.Elements.{All-push}
use Rattle.std.specs.declared.vec.Vec.{Vec}
use Rattle.std.specs.declared.alloc.Global.{Global}
use Rattle.lift_graph.specs.Rows.{items_at}
use Rattle.lift_graph.specs.Graph.{address_at}
use Rattle.lift_graph.specs.declared.graph.Graph.{Graph}
use Rattle.lift_rounds.specs.Meaning.{Meaning}
use Rattle.lift_rounds.specs.Known.{Known}
use Rattle.lift_rounds.specs.Settled.{IsLed}
use Rattle.lift_openings.specs.Copies.{IsCopy, rows_of}

-- equal rows have the same items
pub items_same : {A : Type 0} (xs ys : List (Vec A Global)) → rows_of xs ≡ rows_of ys → (u : ℕ) → items_at xs u ≡ items_at ys u
items_same [] [] e u = refl
items_same [] (y ∷ ys) e u = absurd (let f : ⊥ = cc in f)
items_same (x ∷ xs) [] e u = absurd (let f : ⊥ = cc in f)
items_same (x ∷ xs) (y ∷ ys) e zero = let h : x.items ≡ y.items = cc in h
items_same (x ∷ xs) (y ∷ ys) e (suc u) = let t : rows_of xs ≡ rows_of ys = cc in items_same xs ys t u

-- the edges of a copy lead to the keys of the same cases
pub led_copy : {R : Type 0} (m : Meaning R) (g h : Graph) (known copied : List (Known R)) → IsCopy g h → copied ≡ known → IsLed m g known → IsLed m h copied
led_copy m g h known copied c e l v =
    let t = items_same h.targets.items g.targets.items c.targets v in
    rw c.keys (rw t (rw e (l v)))

-- edges lead to the keys of the cases by another step that forks at the same addresses
pub led_by : {R : Type 0} (m n : Meaning R) (g : Graph) (known : List (Known R)) → ((a : ℕ) → n.forks a ≡ m.forks a) → IsLed m g known → IsLed n g known
led_by m n g known f l v = rw (f (address_at g.keys.items v)) (l v)

-- one more item of a copy
pub copied_more : {A B C : Type 0} (f : A → C) (g : B → C) (xs : List A) (n : ℕ) (x : A) (ys zs : List B) (y : B) → n < length xs → x ≡ get_or xs n x → map g ys ≡ take n (map f xs) → g y ≡ f x → zs ≡ ys ++ y ∷ [] → map g zs ≡ take (n + 1) (map f xs)
copied_more f g xs n x ys zs y l e h same more =
    ap (map g) more ∙ map_push g ys y ∙ ap (λ cs. cs ++ g y ∷ []) (h ∙ take-map f n xs) ∙ ap (λ c. map f (take n xs) ++ c ∷ []) (same ∙ ap f e)
    ∙ sym (map_more f xs n x l) ∙ sym (take-map f (n + 1) xs)

-- and all of them have a property
pub all_more : {B : Type 0} (P : B → Type 0) (ys zs : List B) (y : B) → All P ys → P y → zs ≡ ys ++ y ∷ [] → All P zs
all_more P ys zs y all h more = subst (All P) (sym more) (All-push P ys y all h)
