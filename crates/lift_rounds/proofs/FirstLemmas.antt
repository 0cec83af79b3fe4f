-- What is known before the first round.
use Rattle.std.proofs.Common.{◌≡◌, ℕ, zero, suc, List, [], ◌∷◌, Some, map, slice_get, refl, sym, ap, ◌∙◌, inl}
use Rattle.std.specs.List.{All}
use Rattle.std.proofs.lemmas.List.Elements.{All-cons, All-nil}
use Rattle.lift_graph.specs.Rows.{items_at}
use Rattle.lift_graph.specs.Graph.{address_at, tag_at}
use Rattle.lift_graph.specs.Links.{keys_after}
use Rattle.lift_graph.specs.declared.graph.Key.{Key}
use Rattle.lift_graph.specs.declared.graph.Graph.{Graph}
use Rattle.lift_rounds.specs.Meaning.{Meaning}
use Rattle.lift_rounds.specs.Fixed.{IsFilled}
use Rattle.lift_rounds.specs.Known.{IsHeld, addresses, case_reading, cases_at, reading}
use Rattle.lift_rounds.specs.Settled.{IsLed}
use Rattle.lift_rounds.specs.declared.data.Made.{Made}

no_cases : {P R : Type 0} (read : P → R) (x : Made P) (u : ℕ) → x.cases.items ≡ [] → cases_at (reading read (x ∷ [])) u ≡ []
no_cases read x zero e = ap (map (case_reading read)) e
no_cases read x (suc u) e = refl

-- a vertex without cases has no edges
pub led_first : {P R : Type 0} (m : Meaning R) (g : Graph) (read : P → R) (x : Made P) → ((u : ℕ) → items_at g.targets.items u ≡ []) → x.cases.items ≡ [] → IsLed m g (reading read (x ∷ []))
led_first m g read x none e = λ u.
    ap (map (slice_get g.keys.items)) (none u) ∙ ap (λ cs. map Some (keys_after (m.forks (address_at g.keys.items u)) (tag_at g.keys.items u) 0 (addresses cs))) (sym (no_cases read x u e))

pub held_first : {P : Type 0} (has : P → Type 0) (x : Made P) (p : P) → has p → x.pred ≡ Some p → x.cases.items ≡ [] → All (λ m. IsHeld has m) (x ∷ [])
held_first {P = P} has x p h e f = All-cons (λ (m : Made P). IsHeld has m) x [] (record { pred = rw e h; cases = rw f (All-nil (λ c. has c.pred)) }) (All-nil (λ (m : Made P). IsHeld has m))

-- no vertex has cases
pub filled_first : {P R : Type 0} (m : Meaning R) (keys : List Key) (read : P → R) (x : Made P) → x.cases.items ≡ [] → IsFilled m keys (reading read (x ∷ []))
filled_first m keys read x e = λ v. inl (no_cases read x v e)
