-- Rows of edges, one edge more
use Rattle.std.proofs.Common.{◌≡◌, ◌<◌, ◌+◌, ◌==◌, ℕ, zero, suc, Bool, true, false, cond, List, [], ◌∷◌, ◌++◌, length, set, refl, sym, ap, ◌∙◌, subst, inl, inr, append-nil, eq-eqb}
use Rattle.std.specs.declared.vec.Vec.{Vec}
use Rattle.std.specs.declared.alloc.Global.{Global}
use Rattle.std.proofs.lemmas.Bool.{cases_eq, ne_eqb}
use Rattle.lift_graph.specs.Rows.{items_at}
use Rattle.lift_graph.specs.Edges.{places_to}
use Rattle.lift_graph.proofs.RowLemmas.{items_at_past, items_at_set_same, items_at_set_other}
use Rattle.lift_graph.specs.declared.graph.Place.{Place}

pub items_at_push_empty : {A : Type 0} (xs : List (Vec A Global)) (x : Vec A Global) (u : ℕ) → ((v : ℕ) → items_at xs v ≡ []) → x.items ≡ [] → items_at (xs ++ x ∷ []) u ≡ []
items_at_push_empty [] x zero h e = e
items_at_push_empty [] x (suc u) h e = refl
items_at_push_empty (y ∷ ys) x zero h e = h zero
items_at_push_empty (y ∷ ys) x (suc u) h e = items_at_push_empty ys x u (λ v. h (suc v)) e

by : (b : Bool) (p : Place) (ps : List Place) → cond b (p ∷ ps) ps ≡ cond b (p ∷ []) [] ++ ps
by true p ps = refl
by false p ps = refl

-- the edges of what is left of the targets
pub places_next : (u k : ℕ) (t : ℕ) (ts : List ℕ) (v : ℕ) → places_to u k (t ∷ ts) v ≡ cond (t == v) (record { vertex = u; case = k } ∷ []) [] ++ places_to u (k + 1) ts v
places_next u k t ts v = by (t == v) (record { vertex = u; case = k }) (places_to u (k + 1) ts v)

pub add_edge_at : (rows : List (Vec Place Global)) (t v : ℕ) (new : Vec Place Global) (place : Place) → t < length rows → new.items ≡ items_at rows t ++ place ∷ [] → items_at (set rows t new) v ≡ items_at rows v ++ cond (t == v) (place ∷ []) []
add_edge_at rows t v new place h e =
    elim (cases_eq v t) as (λ _. items_at (set rows t new) v ≡ items_at rows v ++ cond (t == v) (place ∷ []) []) [
      | inl s ↦ rw (eq-eqb t v (sym s)) (subst (λ x. items_at (set rows t new) x ≡ items_at rows x ++ place ∷ []) (sym s) (items_at_set_same rows t new h ∙ e))
      | inr n ↦ items_at_set_other rows t new v n ∙ sym (append-nil (items_at rows v)) ∙ ap (λ b. items_at rows v ++ cond b (place ∷ []) []) (sym (ne_eqb t v (λ s. n (sym s))))
    ]

pub no_edges : (rows : List Place) (targets : List (Vec ℕ Global)) (source v : ℕ) → length targets < source + 1 → rows ≡ rows ++ places_to source 0 (items_at targets source) v
no_edges rows targets source v h = sym (ap (λ ts. rows ++ places_to source 0 ts v) (items_at_past targets source h) ∙ append-nil rows)
