-- What a calm state is.
use Rattle.std.proofs.Common.{◌≡◌, ◌<◌, ℕ, true, cond, List, [], ◌∷◌, Option, Some, None, length, refl, sym, ap, ◌∙◌, subst, inl, inr, arith}
use Rattle.std.specs.List.{cons_option}
use Rattle.lift_graph.specs.Rows.{is_set, items_at}
use Rattle.lift_graph.specs.Edges.{places_to, IsWoven}
use Rattle.lift_graph.specs.Search.{IsMember}
use Rattle.lift_graph.specs.declared.graph.Place.{Place}
use Rattle.lift_graph.specs.declared.graph.Graph.{Graph}
use Rattle.lift_graph.proofs.EdgeLemmas.{member_flat, member_places}
use Rattle.lift_graph.proofs.MemberLemmas.{member_from}
use Rattle.lift_rounds.specs.Meaning.{Meaning}
use Rattle.lift_rounds.specs.Known.{Known, pred_at, pred_of, case_at, incoming, gathered}
use Rattle.lift_rounds.specs.Round.{frame_of, IsCalm}
use Rattle.lift_rounds.specs.Settled.{IsLed, IsSettled}

pub record Laws {R : Type 0} (m : Meaning R) : Type 0 where
  pub itself : (p : R) → m.entails p p ≡ true
  pub through : (p q r : R) → m.entails p q ≡ true → m.entails q r ≡ true → m.entails p r ≡ true
  pub kept : (p q : R) → m.entails p (m.weakened p q) ≡ true
  pub follows : (p q : R) → m.entails q (m.weakened p q) ≡ true

-- what it was entails what is left of it
pub gathered_kept : {R : Type 0} (m : Meaning R) → Laws m → (p : R) (cs : List R) (q : R) → gathered m (Some p) cs ≡ Some q → m.entails p q ≡ true
gathered_kept m l p [] q e = let s : p ≡ q = cc in subst (λ x. m.entails p x ≡ true) s (l.itself p)
gathered_kept m l p (c ∷ cs) q e = l.through p (m.weakened p c) q (l.kept p c) (gathered_kept m l (m.weakened p c) cs q e)

step_kept : {R : Type 0} (m : Meaning R) → Laws m → (start : Option R) (c : R) (cs : List R) (q : R) → gathered m start (c ∷ cs) ≡ Some q → m.entails c q ≡ true
step_kept m l None c cs q e = gathered_kept m l c cs q e
step_kept m l (Some p) c cs q e = l.through c (m.weakened p c) q (l.follows p c) (gathered_kept m l (m.weakened p c) cs q e)

-- the start after one more
abbrev next : {R : Type 0} → Meaning R → Option R → Option R → Option R
next m start None = start
next m None (Some c) = Some c
next m (Some p) (Some c) = Some (m.weakened p c)

next_is : {R : Type 0} (m : Meaning R) (start o : Option R) (cs : List R) → gathered m start (cons_option o cs) ≡ gathered m (next m start o) cs
next_is m start None cs = refl
next_is m None (Some c) cs = refl
next_is m (Some p) (Some c) cs = refl

first_kept : {R : Type 0} (m : Meaning R) → Laws m → (start o : Option R) (cs : List R) (q : R) → gathered m (next m start o) cs ≡ Some q → (x : R) → o ≡ Some x → m.entails x q ≡ true
first_kept m l start None cs q e x f = absurd (let z : ⊥ = cc in z)
first_kept m l start (Some c) cs q e x f = let z : c ≡ x = cc in subst (λ w. m.entails w q ≡ true) z (step_kept m l start c cs q (next_is m start (Some c) cs ∙ e))

-- each case that was gathered entails what is left
pub each_follows : {R : Type 0} (m : Meaning R) → Laws m → (made : List (Known R)) (places : List Place) (start : Option R) (q : R) → gathered m start (incoming made places) ≡ Some q → (p : Place) → IsMember p places → (x : R) → case_at made p ≡ Some x → m.entails x q ≡ true
each_follows m l made [] start q e p h x f = absurd h
each_follows m l made (y ∷ ys) start q e p h x f =
    let g : gathered m (next m start (case_at made y)) (incoming made ys) ≡ Some q = sym (next_is m start (case_at made y) (incoming made ys)) ∙ e in
    elim h as (λ _. m.entails x q ≡ true) [
      | inl s ↦ first_kept m l start (case_at made y) (incoming made ys) q g x (ap (case_at made) s ∙ f)
      | inr r ↦ each_follows m l made ys (next m start (case_at made y)) q g p r x f
    ]

pub settled : {R : Type 0} (m : Meaning R) (g : Graph) (order : List ℕ) (made : List (Known R)) → Laws m → length made ≡ length g.keys.items → IsCalm (frame_of m g) made → IsWoven g order → IsLed m g made → IsSettled m g order made
settled m g order made l rows calm woven led =
    let within : (v : ℕ) → v < length made → v < length g.keys.items = λ v h. subst (λ n. v < n) rows h in
    record {
      known = calm.known;
      cases = calm.cased;
      led = led;
      exact = λ v h k. calm.merged v h k ∙ ap (λ ps. gathered m None (incoming made ps)) (woven.inward v (within v h));
      follows = λ u k v c q hu hv ec et eq.
          let p : Place = record { vertex = u; case = k } in
          let start = cond (is_set g.keeps.items v) (pred_at made v) None in
          let of = woven.all u (within u hu) in
          each_follows m l made (items_at g.inward.items v) start q (sym (calm.still v hv) ∙ eq) p
          (subst (IsMember p) (sym (woven.inward v (within v hv))) (member_flat (λ w. places_to w 0 (items_at g.targets.items w) v) p u order (member_from u order of.0 of.1 of.2) (subst (λ i. IsMember (record { vertex = u; case = i }) (places_to u 0 (items_at g.targets.items u) v)) (omega arith) (member_places u 0 k (items_at g.targets.items u) v et))))
          c.pred (ap pred_of ec);
    }

pub settled_some : {R : Type 0} (m : Meaning R) (g : Graph) (made : List (Known R)) → Laws m → length made ≡ length g.keys.items → IsCalm (frame_of m g) made → ((order : List ℕ) × IsWoven g order) → IsLed m g made → (order : List ℕ) × IsWoven g order × IsSettled m g order made
settled_some m g made l rows calm w led = (w.0, w.1, settled m g w.0 made l rows calm w.1 led)
