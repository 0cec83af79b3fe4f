-- A search backwards along edges
use Rattle.std.proofs.Common.{◌≡◌, ◌<◌, ◌+◌, ◌⊎◌, ℕ, zero, suc, Bool, true, false, List, [], ◌∷◌, ◌++◌, length, get_or, take, refl, sym, ap, ◌∙◌, subst, inl, inr, arith}
use Rattle.std.specs.List.{All}
use Rattle.std.specs.declared.vec.Vec.{Vec}
use Rattle.std.specs.declared.alloc.Global.{Global}
use Rattle.std.proofs.lemmas.Bool.{false≢true}
use Rattle.std.proofs.lemmas.List.{take_all, get_or_default}
use Rattle.std.proofs.lemmas.List.Elements.{All-weaker, All-more, All-nil}
use Rattle.lift_graph.specs.Rows.{is_set, items_at}
use Rattle.lift_graph.specs.Heads.{IsSource, Leads, Way}
use Rattle.lift_graph.specs.Search.{IsMember, IsNoted, IsNotedOne, IsSearch}
use Rattle.lift_graph.specs.declared.graph.Place.{Place}
use Rattle.lift_graph.proofs.MemberLemmas.{member_cases, member_left, member_last}

pub is_set_within : (marks : List Bool) (v : ℕ) → is_set marks v ≡ true → v < length marks
is_set_within [] v h = absurd (false≢true h)
is_set_within (b ∷ bs) zero h = omega arith
is_set_within (b ∷ bs) (suc v) h = let t = is_set_within bs v h in omega arith

-- one place more of a row, by what was noted of the places before
pub record IsNotedSoFar (places : List Place) (i : ℕ) (before : List Bool) (waiting : List ℕ) (after : List Bool) (noted : List ℕ) : Type 0 where
  pub grows : (u : ℕ) → is_set before u ≡ true → is_set after u ≡ true
  pub all : All (λ p. is_set after p.vertex ≡ true) (take i places)
  pub only : (u : ℕ) → is_set after u ≡ true → (is_set before u ≡ true) ⊎ (IsMember u noted × IsSource u places)
  pub stays : (u : ℕ) → IsMember u waiting → IsMember u noted
  pub marked : (u : ℕ) → IsMember u noted → IsMember u waiting ⊎ (is_set after u ≡ true)

pub noted_none : (places : List Place) (marks : List Bool) (waiting : List ℕ) → IsNotedSoFar places 0 marks waiting marks waiting
noted_none places marks waiting = record { grows = λ u h. h; all = All-nil (λ p. is_set marks p.vertex ≡ true); only = λ u h. inl h; stays = λ u h. h; marked = λ u h. inl h }

pub noted_more : (places : List Place) (i : ℕ) (d : Place) (before : List Bool) (waiting : List ℕ) (marks : List Bool) (noted : List ℕ) (after : List Bool) (last : List ℕ) → i < length places → IsNotedSoFar places i before waiting marks noted → IsNotedOne (get_or places i d).vertex marks noted after last → IsNotedSoFar places (i + 1) before waiting after last
noted_more places i d before waiting marks noted after last l s o = record {
  grows = λ u h. o.grows u (s.grows u h);
  all = All-more (λ p. is_set after p.vertex ≡ true) places i d l (All-weaker (λ p. is_set marks p.vertex ≡ true) (λ p. is_set after p.vertex ≡ true) (λ p h. o.grows p.vertex h) (take i places) s.all) o.here;
  only = λ u h. elim (o.only u h) as (λ _. (is_set before u ≡ true) ⊎ (IsMember u last × IsSource u places)) [
    | inl m ↦ elim (s.only u m) as (λ _. (is_set before u ≡ true) ⊎ (IsMember u last × IsSource u places)) [ inl b ↦ inl b | inr w ↦ inr (o.stays u w.0, w.1) ]
    | inr w ↦ inr (w.0, (i, l, λ c. ap (λ (p : Place). p.vertex) (get_or_default places i c d l) ∙ sym w.1))
  ];
  stays = λ u h. o.stays u (s.stays u h);
  marked = λ u h. elim (o.marked u h) as (λ _. IsMember u waiting ⊎ (is_set after u ≡ true)) [
    | inl n ↦ elim (s.marked u n) as (λ _. IsMember u waiting ⊎ (is_set after u ≡ true)) [ inl w ↦ inl w | inr m ↦ inr (o.grows u m) ]
    | inr m ↦ inr m
  ];
}

pub noted_all : (places : List Place) (i : ℕ) (before : List Bool) (waiting : List ℕ) (after : List Bool) (noted : List ℕ) → length places < i + 1 → IsNotedSoFar places i before waiting after noted → IsNoted places before waiting after noted
noted_all places i before waiting after noted l s = record { grows = s.grows; all = subst (All (λ p. is_set after p.vertex ≡ true)) (take_all i places (omega arith)) s.all; only = s.only; stays = s.stays; marked = s.marked }

-- the search begins
pub search_none : (inward : List (Vec Place Global)) (v : ℕ) (before after : List Bool) (noted : List ℕ) → ((u : ℕ) → is_set before u ≡ false) → IsNoted (items_at inward v) before [] after noted → IsSearch inward v after noted
search_none inward v before after noted none n = record {
  sound = λ u h. elim (n.only u h) as (λ _. (k : ℕ) × Way inward u v (suc k)) [ inl b ↦ absurd (false≢true (sym (none u) ∙ b)) | inr w ↦ (0, (v, w.1, refl)) ];
  first = n.all;
  closed = λ u h. elim (n.only u h) as (λ _. IsMember u noted ⊎ All (λ p. is_set after p.vertex ≡ true) (items_at inward u)) [ inl b ↦ absurd (false≢true (sym (none u) ∙ b)) | inr w ↦ inl w.0 ];
  marked = λ u h. elim (n.marked u h) as (λ _. is_set after u ≡ true) [ inl e ↦ absurd e | inr m ↦ m ];
}

-- and goes on from one that waits
pub search_more : (inward : List (Vec Place Global)) (v next : ℕ) (before : List Bool) (waiting : List ℕ) (after : List Bool) (noted : List ℕ) → IsSearch inward v before (waiting ++ next ∷ []) → IsNoted (items_at inward next) before waiting after noted → IsSearch inward v after noted
search_more inward v next before waiting after noted s n =
    let more : (u : ℕ) → All (λ p. is_set before p.vertex ≡ true) (items_at inward u) → All (λ p. is_set after p.vertex ≡ true) (items_at inward u) = λ u a. All-weaker (λ p. is_set before p.vertex ≡ true) (λ p. is_set after p.vertex ≡ true) (λ p h. n.grows p.vertex h) (items_at inward u) a in
    record {
      sound = λ u h. elim (n.only u h) as (λ _. (k : ℕ) × Way inward u v (suc k)) [
        | inl b ↦ s.sound u b
        | inr w ↦ (let from = s.sound next (s.marked next (member_last next waiting)) in (suc from.0, (next, w.1, from.1)))
      ];
      first = more v s.first;
      closed = λ u h. elim (n.only u h) as (λ _. IsMember u noted ⊎ All (λ p. is_set after p.vertex ≡ true) (items_at inward u)) [
        | inl b ↦ elim (s.closed u b) as (λ _. IsMember u noted ⊎ All (λ p. is_set after p.vertex ≡ true) (items_at inward u)) [
          | inl m ↦ elim (member_cases u next waiting m) as (λ _. IsMember u noted ⊎ All (λ p. is_set after p.vertex ≡ true) (items_at inward u)) [
            | inl w ↦ inl (n.stays u w)
            | inr e ↦ inr (subst (λ i. All (λ p. is_set after p.vertex ≡ true) (items_at inward i)) (sym e) n.all)
          ]
          | inr a ↦ inr (more u a)
        ]
        | inr w ↦ inl w.0
      ];
      marked = λ u h. elim (n.marked u h) as (λ _. is_set after u ≡ true) [ inl w ↦ n.grows u (s.marked u (member_left u waiting (next ∷ []) w)) | inr m ↦ m ];
    }

marked_source : (marks : List Bool) (places : List Place) (a : ℕ) → All (λ p. is_set marks p.vertex ≡ true) places → IsSource a places → is_set marks a ≡ true
marked_source marks places a all s = let d : Place = record { vertex = 0; case = 0 } in subst (λ i. is_set marks i ≡ true) (s.2 d) (all s.0 d s.1)

-- where none waits, whatever leads to the vertex is marked
pub search_all : (inward : List (Vec Place Global)) (v : ℕ) (marks : List Bool) → IsSearch inward v marks [] → (k a : ℕ) → Way inward a v (suc k) → is_set marks a ≡ true
search_all inward v marks s zero a w = marked_source marks (items_at inward v) a s.first (subst (Leads inward a) w.2 w.1)
search_all inward v marks s (suc k) a w =
    let on = search_all inward v marks s k w.0 w.2 in
    elim (s.closed w.0 on) as (λ _. is_set marks a ≡ true) [ inl e ↦ absurd e | inr all ↦ marked_source marks (items_at inward w.0) a all w.1 ]
