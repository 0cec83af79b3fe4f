use Rattle.std.proofs.Common.{◌≡◌, ◌<◌, ◌↔◌, ℕ, List, true, length, sym, ap, ◌∙◌, subst}
use Rattle.std.specs.declared.vec.Vec.{Vec}
use Rattle.std.specs.declared.alloc.Global.{Global}
use Rattle.lift_graph.specs.Rows.{is_set, items_at}
use Rattle.lift_graph.specs.Edges.{places_from}
use Rattle.lift_graph.specs.Heads.{IsKept, IsWithin}
use Rattle.lift_graph.specs.declared.graph.Key.{Key}
use Rattle.lift_graph.specs.declared.graph.Place.{Place}
use Rattle.lift_graph.proofs.EdgeLemmas.{woven_alone, woven_within, woven_rooted}
use Rattle.lift_graph.proofs.settled.settle_edges.Goals as goal

pub kept_vertices-requires-clause-within : goal.kept_vertices-requires-clause-within
kept_vertices-requires-clause-within c =
    let g = c.args.graph.now in
    let order = c.in_ok-order.order.items in
    let inward = c.in_ok-inward.inward.items in
    let here : (v : ℕ) → v < length g.keys.items → items_at inward v ≡ places_from g.targets.items order v = λ v l.
    subst (λ (ts : List (Vec ℕ Global)). items_at inward v ≡ places_from ts order v) c.as_slice-2.ensures.value (subst (λ (os : List ℕ). items_at inward v ≡ places_from c.as_slice-2.result.now os v) c.as_slice-3.ensures.value (c.in_ok-inward.ensures.value v (subst (λ k. v < k) (sym c.len-n.ensures) l))) in
    let rows = c.in_ok-inward.ensures.rows ∙ c.len-n.ensures in
    let within = woven_within g.targets.items inward order (length g.keys.items) c.requires.listed.square.targets here in
    subst (λ (xs : List (Vec Place Global)). IsWithin xs (length xs)) (sym c.as_slice-6.ensures.value) (subst (IsWithin inward) (sym rows) within)

pub returns-clause-kept : goal.returns-clause-kept
returns-clause-kept c = λ v l.
    let keeps = c.in_ok-keeps.keeps.items in
    let rows = ap length c.as_slice-6.ensures.value ∙ c.in_ok-inward.ensures.rows ∙ c.len-n.ensures in
    subst (λ (ks : List Key). (is_set keeps v ≡ true) ↔ IsKept ks c.in_ok-inward.inward.items v) c.as_slice-4.ensures.value
    (subst (λ (xs : List (Vec Place Global)). (is_set keeps v ≡ true) ↔ IsKept c.as_slice-4.result.now xs v) c.as_slice-6.ensures.value (c.in_ok-keeps.ensures.kept v (subst (λ k. v < k) (sym rows) l)))

pub returns-clause-rooted : goal.returns-clause-rooted
returns-clause-rooted c =
    let g = c.args.graph.now in
    let order = c.in_ok-order.order.items in
    let inward = c.in_ok-inward.inward.items in
    let keeps = c.in_ok-keeps.keeps.items in
    let here : (v : ℕ) → v < length g.keys.items → items_at inward v ≡ places_from g.targets.items order v = λ v l.
    subst (λ (ts : List (Vec ℕ Global)). items_at inward v ≡ places_from ts order v) c.as_slice-2.ensures.value (subst (λ (os : List ℕ). items_at inward v ≡ places_from c.as_slice-2.result.now os v) c.as_slice-3.ensures.value (c.in_ok-inward.ensures.value v (subst (λ k. v < k) (sym c.len-n.ensures) l))) in
    let rows = ap length c.as_slice-6.ensures.value ∙ c.in_ok-inward.ensures.rows ∙ c.len-n.ensures in
    woven_rooted g inward keeps order c.requires (λ v l. c.in_ok-order.ensures.all v (subst (λ k. v < k) (sym (ap length c.as_slice.ensures.value)) l)) here
    (woven_within g.targets.items inward order (length g.keys.items) c.requires.listed.square.targets here)
    (λ v l. subst (λ (ks : List Key). (is_set keeps v ≡ true) ↔ IsKept ks inward v) c.as_slice-4.ensures.value
    (subst (λ (xs : List (Vec Place Global)). (is_set keeps v ≡ true) ↔ IsKept c.as_slice-4.result.now xs v) c.as_slice-6.ensures.value (c.in_ok-keeps.ensures.kept v (subst (λ k. v < k) (sym rows) l))))

pub returns-clause-alone : goal.returns-clause-alone
returns-clause-alone c =
    let g = c.args.graph.now in
    let order = c.in_ok-order.order.items in
    let inward = c.in_ok-inward.inward.items in
    let here : (v : ℕ) → v < length g.keys.items → items_at inward v ≡ places_from g.targets.items order v = λ v l.
    subst (λ (ts : List (Vec ℕ Global)). items_at inward v ≡ places_from ts order v) c.as_slice-2.ensures.value (subst (λ (os : List ℕ). items_at inward v ≡ places_from c.as_slice-2.result.now os v) c.as_slice-3.ensures.value (c.in_ok-inward.ensures.value v (subst (λ k. v < k) (sym c.len-n.ensures) l))) in
    woven_alone g inward order c.requires here
