-- Each vertex that was found stands in the function at its address and number, and no other does.
use Rattle.std.proofs.Common.{◌≡◌, ◌<◌, ℕ, zero, suc, List, [], ◌∷◌, length, map, Some, None, Option, slice_get, refl, sym, ap, ◌∙◌, subst, arith}
use Rattle.std.specs.Prelude.{◌==◌, find}
use Rattle.std.specs.Option.{option_and_then}
use Rattle.predicates.specs.Predicate.{Predicate}
use Rattle.graph_data.specs.declared.graph.Site.{Site}
use Rattle.graph_data.specs.declared.graph.Vertex.{Vertex}
use Rattle.graph_data.specs.declared.graph.Function.{Function}
use Rattle.graph_runs.specs.World.{x86}
use Rattle.simulation.specs.Graph.{site_at}
use Rattle.lift_graph.specs.Graph.{address_at, tag_at}
use Rattle.lift_graph.specs.Sites.{vertices_at}
use Rattle.lift_graph.specs.declared.graph.Key.{Key}
use Rattle.lift_graph.specs.declared.graph.Graph.{Graph}
use Rattle.lift_graph.proofs.IndexLemmas.{get_within, tag_at_below}
use Rattle.lift_graph.proofs.MemberLemmas.{member_from}
use Rattle.lift_rounds.specs.Known.{Known}
use Rattle.site_lines.specs.Subject.{Subject}
use Rattle.lifted_parts.specs.Built.{IsBuilt, vertex_of, number_of, here, site_of}
use Rattle.lifted_parts.specs.Rest.{IsAtRest}
use Rattle.lifted_parts.specs.Found.{AreFound, Stands}
use Rattle.lifted_parts.proofs.NumberLemmas.{number_tells, told_number}
use Rattle.lifted_parts.proofs.SiteLemmas.{found_at, site_only, site_there}

-- a vertex has its address and its tag
pub key_of : (keys : List Key) (v : ℕ) → v < length keys → slice_get keys v ≡ Some (record { address = address_at keys v; tag = tag_at keys v })
key_of [] v h = absurd (omega (arith, h))
key_of (k ∷ ks) zero h = refl
key_of (k ∷ ks) (suc v) h = key_of ks v (omega (arith, h))

pub key_parts : (keys : List Key) (v : ℕ) (k : Key) → slice_get keys v ≡ Some k → (address_at keys v ≡ k.address) × (tag_at keys v ≡ k.tag)
key_parts [] v k h = absurd (let f : ⊥ = cc in f)
key_parts (x ∷ xs) zero k h = let e : x ≡ k = cc in (ap (λ (y : Key). y.address) e, ap (λ (y : Key). y.tag) e)
key_parts (x ∷ xs) (suc v) k h = key_parts xs v k h

pub get_mapped : {A B : Type 0} (f : A → B) (xs : List A) (k : ℕ) (x : A) → slice_get xs k ≡ Some x → slice_get (map f xs) k ≡ Some (f x)
get_mapped f [] k x h = absurd (let z : ⊥ = cc in z)
get_mapped f (y ∷ xs) zero x h = let e : y ≡ x = cc in ap (λ z. Some (f z)) e
get_mapped f (y ∷ xs) (suc k) x h = get_mapped f xs k x h

pub got_mapped : {A B : Type 0} (f : A → B) (xs : List A) (k : ℕ) (y : B) → slice_get (map f xs) k ≡ Some y → (x : A) × (slice_get xs k ≡ Some x) × (f x ≡ y)
got_mapped f [] k y h = absurd (let z : ⊥ = cc in z)
got_mapped f (x ∷ xs) zero y h = (x, refl, let e : f x ≡ y = cc in e)
got_mapped f (x ∷ xs) (suc k) y h = got_mapped f xs k y h

module _ (s : Subject) (g : Graph) (known : List (Known Predicate)) (entry : ℕ) (f : Function) (rest : IsAtRest s g known entry) (built : IsBuilt s g known entry f) where
  -- a vertex stands at its number among those of its address
  pub stands_here : (v : ℕ) → v < length g.keys.items → slice_get (here g (address_at g.keys.items v)) (number_of g v) ≡ Some v
  stands_here v l =
      let keys = g.keys.items in
      let listed = rest.graph.listed in
      number_tells g.index (address_at keys v) (tag_at keys v) v g.tags
      ((listed.index (record { address = address_at keys v; tag = tag_at keys v }) v).1 (key_of keys v l))
      (tag_at_below keys v g.tags l listed.tags)

  -- what stands among the vertices of an address is a vertex with that address, at its number
  pub here_only : (a k v : ℕ) → slice_get (here g a) k ≡ Some v → (v < length g.keys.items) × (address_at g.keys.items v ≡ a) × (number_of g v ≡ k)
  here_only a k v h =
      let keys = g.keys.items in
      let t = told_number g.index a g.tags k v h in
      let key : Key = record { address = a; tag = t.tag } in
      let got = (rest.graph.listed.index key v).0 t.found in
      let parts = key_parts keys v key got in
      (get_within keys v key got, parts.0, ap (λ x. length (vertices_at g.index x (tag_at keys v))) parts.0 ∙ ap (λ x. length (vertices_at g.index a x)) parts.1 ∙ sym t.place)

  -- the site of each vertex's address is found
  pub site_is_found : (v : ℕ) → v < length g.keys.items → site_at (x86 s.image) f (address_at g.keys.items v) ≡ Some (site_of s g known (address_at g.keys.items v))
  site_is_found v l =
      let a = address_at g.keys.items v in
      let c = (built.all.exact a).1 (v, l, refl) in
      ap (λ sites. find (λ site. site.addr == a) sites) built.sites
      ∙ site_there s g known built.addresses a (member_from a built.addresses c.0 c.1 c.2)

  pub found : AreFound s.image g known f
  found = record {
    there = λ v l.
        let a = address_at g.keys.items v in
        ap (option_and_then (λ (site : Site). slice_get site.vertices (number_of g v))) (site_is_found v l)
        ∙ get_mapped (vertex_of g known) (here g a) (number_of g v) v (stands_here v l);
    only = λ a k x h.
        let find_in : List Site → Option Site = λ sites. find (λ site. site.addr == a) sites in
        let next : Site → Option Vertex = λ site. slice_get site.vertices k in
        let h2 : option_and_then next (found_at s g known built.addresses a) ≡ Some x = subst (λ sites. option_and_then next (find_in sites) ≡ Some x) built.sites h in
        elim (found_at s g known built.addresses a) as (λ o. found_at s g known built.addresses a ≡ o → option_and_then next o ≡ Some x → Stands g known a k x) [
          | None ↦ λ e k2. absurd (let z : ⊥ = cc in z)
          | Some site ↦ λ e k2.
              let same = (site_only s g known built.addresses a site e).0 in
              let v = got_mapped (vertex_of g known) (here g a) k x (subst (λ (y : Site). slice_get y.vertices k ≡ Some x) same k2) in
              let w = here_only a k v.0 v.1 in
              record { vertex = v.0; below = w.0; address_is = w.1; number_is = w.2; same = v.2 }
        ] refl h2;
  }
