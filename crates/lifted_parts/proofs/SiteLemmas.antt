-- Which site of a function that was built a look-up finds.
use Rattle.std.proofs.Common.{◌≡◌, ℕ, true, false, cond, List, [], ◌∷◌, map, refl, sym, ap, ◌∙◌, inl, inr}
use Rattle.std.specs.Prelude.{◌==◌, find, Option, Some}
use Rattle.std.proofs.lemmas.Bool.{eqb-true, eq-eqb}
use Rattle.predicates.specs.Predicate.{Predicate}
use Rattle.graph_data.specs.declared.graph.Site.{Site}
use Rattle.lift_graph.specs.Search.{IsMember}
use Rattle.lift_graph.specs.declared.graph.Graph.{Graph}
use Rattle.lift_rounds.specs.Known.{Known}
use Rattle.site_lines.specs.Subject.{Subject}
use Rattle.lifted_parts.specs.Built.{site_of}

module _ (s : Subject) (g : Graph) (known : List (Known Predicate)) where
  -- the sites of addresses
  abbrev pub sites_of : List ℕ → List Site
  sites_of addresses = map (site_of s g known) addresses

  -- the site at an address
  abbrev pub found_at : List ℕ → ℕ → Option Site
  found_at addresses a = find (λ site. site.addr == a) (sites_of addresses)

  -- a site that is found is that of the address, which is one of them
  pub site_only : (addresses : List ℕ) (a : ℕ) (site : Site) → found_at addresses a ≡ Some site → (site ≡ site_of s g known a) × IsMember a addresses
  site_only [] a site h = absurd (let f : ⊥ = cc in f)
  site_only (b ∷ addresses) a site h =
      let Goal : Type 0 = (site ≡ site_of s g known a) × IsMember a (b ∷ addresses) in
      elim (b == a) as (λ t. (b == a) ≡ t → cond t (Some (site_of s g known b)) (found_at addresses a) ≡ Some site → Goal) [
        | true ↦ λ e k.
            let same : site_of s g known b ≡ site = cc in
            (sym same ∙ ap (site_of s g known) (eqb-true b a e), inl (eqb-true b a e))
        | false ↦ λ e k. let w = site_only addresses a site k in (w.0, inr w.1)
      ] refl h

  -- and each of them has its site
  pub site_there : (addresses : List ℕ) (a : ℕ) → IsMember a addresses → found_at addresses a ≡ Some (site_of s g known a)
  site_there [] a h = absurd h
  site_there (b ∷ addresses) a h =
      elim (b == a) as (λ t. (b == a) ≡ t → cond t (Some (site_of s g known b)) (found_at addresses a) ≡ Some (site_of s g known a)) [
        | true ↦ λ e. ap (λ x. Some (site_of s g known x)) (eqb-true b a e)
        | false ↦ λ e. site_there addresses a (elim h as (λ _. IsMember a addresses) [
          | inl same ↦ absurd (let f : true ≡ false = sym (eq-eqb b a same) ∙ e in let z : ⊥ = cc in z)
          | inr rest ↦ rest
        ])
      ] refl
