-- Vertices of which nothing is known come at the end.
use Rattle.std.proofs.Common.{◌≡◌, ◌≢◌, ◌<◌, ◌≤◌, ℕ, zero, suc, Bool, List, [], ◌∷◌, ◌++◌, Some, None, map, length, slice_get, refl, sym, ap, ◌∙◌, subst, inl, inr, arith}
use Rattle.std.specs.List.{All}
use Rattle.std.specs.Option.{option_map}
use Rattle.std.proofs.lemmas.Bool.{cases_eq, cases_lt}
use Rattle.std.proofs.lemmas.List.Elements.{All-append, All-cons, All-nil}
use Rattle.lift_graph.specs.Rows.{items_at}
use Rattle.lift_graph.specs.Graph.{IsGraph, address_at, tag_at}
use Rattle.lift_graph.specs.Links.{IsLinked, keys_after}
use Rattle.lift_graph.specs.declared.graph.Key.{Key}
use Rattle.lift_graph.specs.declared.graph.Graph.{Graph}
use Rattle.lift_graph.proofs.LinkLemmas.{found_kept}
use Rattle.lift_graph.proofs.RowLemmas.{items_at_past}
use Rattle.lift_rounds.specs.Meaning.{Meaning}
use Rattle.lift_rounds.specs.Known.{Known, IsHeld, cases_at, pred_at, addresses, reading}
use Rattle.lift_rounds.specs.Settled.{IsLed, IsLedAt}
use Rattle.lift_rounds.specs.declared.data.Made.{Made}

pub cases_at_push : {P R : Type 0} (read : P → R) (xs : List (Made P)) (x : Made P) (u : ℕ) → x.cases.items ≡ [] → cases_at (reading read (xs ++ x ∷ [])) u ≡ cases_at (reading read xs) u
cases_at_push read [] x zero e = ap (map (λ c. record { address = c.address; pred = read c.pred })) e
cases_at_push read [] x (suc u) e = refl
cases_at_push read (y ∷ ys) x zero e = refl
cases_at_push read (y ∷ ys) x (suc u) e = cases_at_push read ys x u e

pub pred_at_push : {P R : Type 0} (read : P → R) (xs : List (Made P)) (x : Made P) (u : ℕ) → x.pred ≡ None → pred_at (reading read (xs ++ x ∷ [])) u ≡ pred_at (reading read xs) u
pred_at_push read [] x zero e = ap (option_map read) e
pred_at_push read [] x (suc u) e = refl
pred_at_push read (y ∷ ys) x zero e = refl
pred_at_push read (y ∷ ys) x (suc u) e = pred_at_push read ys x u e

pub held_push : {P : Type 0} (has : P → Type 0) (xs : List (Made P)) (x : Made P) → All (λ m. IsHeld has m) xs → x.pred ≡ None → x.cases.items ≡ [] → All (λ m. IsHeld has m) (xs ++ x ∷ [])
held_push {P = P} has xs x all e f =
    All-append (λ (m : Made P). IsHeld has m) xs (x ∷ []) all (All-cons (λ (m : Made P). IsHeld has m) x [] (record { pred = rw e tt; cases = rw f (All-nil (λ c. has c.pred)) }) (All-nil (λ (m : Made P). IsHeld has m)))

pub same_address : (old new : List Key) (v : ℕ) → v < length old → ((u : ℕ) (k : Key) → slice_get old u ≡ Some k → slice_get new u ≡ Some k) → (address_at new v ≡ address_at old v) × (tag_at new v ≡ tag_at old v)
same_address [] new v l h = absurd (omega arith)
same_address (x ∷ xs) [] v l h = absurd (let f = h 0 x refl in let z : ⊥ = cc in z)
same_address (x ∷ xs) (y ∷ ys) zero l h = let f : Some y ≡ Some x = h 0 x refl in let e : y ≡ x = cc in (ap (λ (k : Key). k.address) e, ap (λ (k : Key). k.tag) e)
same_address (x ∷ xs) (y ∷ ys) (suc v) l h = same_address xs ys v (omega arith) (λ u k e. h (suc u) k e)

none_after : (forks forks' : Bool) (tag tag' : ℕ) (as' : List ℕ) → [] ≡ map Some (keys_after forks tag 0 as') → [] ≡ map Some (keys_after forks' tag' 0 as')
none_after forks forks' tag tag' [] e = refl
none_after forks forks' tag tag' (a ∷ as') e = absurd (let f : ⊥ = cc in f)

-- after a link all edges lead to the keys of their cases
pub linked_led : {R : Type 0} (m : Meaning R) (old new : Graph) (vertex : ℕ) (made : List (Known R)) → IsGraph old → vertex < length old.keys.items → IsLinked old new vertex (keys_after (m.forks (address_at old.keys.items vertex)) (tag_at old.keys.items vertex) 0 (addresses (cases_at made vertex))) → ((u : ℕ) → u ≢ vertex → IsLedAt m old made u) → IsLed m new made
linked_led m old new vertex made g within l others = λ u.
    elim (cases_eq u vertex) as (λ _. IsLedAt m new made u) [
      | inl e ↦
          subst (IsLedAt m new made) (sym e)
          (let same = same_address old.keys.items new.keys.items vertex within l.kept in
          l.led ∙ ap (λ a. map Some (keys_after (m.forks a) (tag_at old.keys.items vertex) 0 (addresses (cases_at made vertex)))) (sym same.0) ∙ ap (λ t. map Some (keys_after (m.forks (address_at new.keys.items vertex)) t 0 (addresses (cases_at made vertex)))) (sym same.1))
      | inr n ↦
          (elim (cases_lt u (length old.keys.items)) as (λ _. IsLedAt m new made u) [
            | inl s ↦
                (let same = same_address old.keys.items new.keys.items u s l.kept in
                ap (map (slice_get new.keys.items)) (l.others u n) ∙ found_kept old.keys.items new.keys.items (items_at old.targets.items u) (keys_after (m.forks (address_at old.keys.items u)) (tag_at old.keys.items u) 0 (addresses (cases_at made u))) l.kept (others u n) ∙ ap (λ a. map Some (keys_after (m.forks a) (tag_at old.keys.items u) 0 (addresses (cases_at made u)))) (sym same.0) ∙ ap (λ t. map Some (keys_after (m.forks (address_at new.keys.items u)) t 0 (addresses (cases_at made u)))) (sym same.1))
            | inr p ↦
                (let square = g.listed.square.targets in
                let none : items_at old.targets.items u ≡ [] = items_at_past old.targets.items u (omega arith) in
                ap (map (slice_get new.keys.items)) (l.others u n ∙ none) ∙ none_after (m.forks (address_at old.keys.items u)) (m.forks (address_at new.keys.items u)) (tag_at old.keys.items u) (tag_at new.keys.items u) (addresses (cases_at made u)) (sym (ap (map (slice_get old.keys.items)) none) ∙ others u n))
          ])
    ]

-- the same addresses lead to the same
pub led_same : {R : Type 0} (m : Meaning R) (g : Graph) (before after : List (Known R)) → ((u : ℕ) → addresses (cases_at after u) ≡ addresses (cases_at before u)) → IsLed m g before → IsLed m g after
led_same m g before after h led = λ u. led u ∙ ap (λ as'. map Some (keys_after (m.forks (address_at g.keys.items u)) (tag_at g.keys.items u) 0 as')) (sym (h u))

-- a vertex was visited without finding an edge: the addresses stayed
pub addresses_stay : {R : Type 0} (before after : List (Known R)) (v : ℕ) → ((u : ℕ) → u ≢ v → cases_at after u ≡ cases_at before u) → addresses (cases_at after v) ≡ addresses (cases_at before v) → (u : ℕ) → addresses (cases_at after u) ≡ addresses (cases_at before u)
addresses_stay before after v others here u = elim (cases_eq u v) as (λ _. addresses (cases_at after u) ≡ addresses (cases_at before u)) [
  | inl e ↦ subst (λ x. addresses (cases_at after x) ≡ addresses (cases_at before x)) (sym e) here
  | inr n ↦ ap addresses (others u n)
]

-- the same cases of a vertex lead to the same
pub led_at_same : {R : Type 0} (m n : Meaning R) (g : Graph) (before after : List (Known R)) (u : ℕ) → m ≡ n → cases_at after u ≡ cases_at before u → IsLedAt m g before u → IsLedAt n g after u
led_at_same m n g before after u e same led =
    subst (λ x. IsLedAt x g after u) e (led ∙ ap (λ cs. map Some (keys_after (m.forks (address_at g.keys.items u)) (tag_at g.keys.items u) 0 (addresses cs))) (sym same))

-- where the keys are kept there are no fewer
pub kept_more : (old new : List Key) → ((u : ℕ) (k : Key) → slice_get old u ≡ Some k → slice_get new u ≡ Some k) → length old ≤ length new
kept_more [] new h = omega arith
kept_more (x ∷ xs) [] h = absurd (let f = h 0 x refl in let z : ⊥ = cc in z)
kept_more (x ∷ xs) (y ∷ ys) h = let t = kept_more xs ys (λ u k e. h (suc u) k e) in omega arith
