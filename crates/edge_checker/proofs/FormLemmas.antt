-- What the parts of a well-formed graph are.
use Rattle.std.proofs.Common.{◌≡◌, ℕ, zero, suc, ◌<◌, ◌^◌, eqb, refl, Bool, true, false, cond, List, [], ◌∷◌, map, length, Option, Some, None, sym, subst, arith, slice_get}
use Rattle.std.specs.Prelude.{nat_le, option_and_then}
use Rattle.std.specs.List.{find}
use Rattle.std.proofs.lemmas.Bool.{and_parts, leb-true}
use Rattle.graph_data.specs.declared.graph.Vertex.{Vertex}
use Rattle.graph_data.specs.declared.graph.Site.{Site}
use Rattle.graph_data.specs.declared.graph.Refused.{Refused}
use Rattle.graph_data.specs.declared.graph.Function.{Function}
use Rattle.graph_data.specs.Parts.{Each, Ascends}
use Rattle.graph_data.specs.Lookup.{site_at}
use Rattle.graph_data.specs.WellFormed.{IsPred, IsVertex, IsSite, IsFunction, HasBody}
use Rattle.edge_checker.specs.Breaks.{vertex_at}

body_parts : (o : Option Refused) (f : Function) → HasBody o f → Each IsSite f.sites × Ascends (map (λ s. s.addr) f.sites)
body_parts None f body = (body.sites, body.ascending)
body_parts (Some why) f body =
    let P : List Site → Type 0 = λ sites. Each IsSite sites × Ascends (map (λ s. s.addr) sites) in
    subst P (sym body.sites) (tt, tt)

-- the sites of a function are sites, and ascend
pub sites_formed : (f : Function) → IsFunction f → Each IsSite f.sites
sites_formed f formed = (body_parts f.refused f formed.body).0

pub sites_ascend : (f : Function) → IsFunction f → Ascends (map (λ s. s.addr) f.sites)
sites_ascend f formed = (body_parts f.refused f formed.body).1

-- a site has few vertices
pub few_vertices : (s : Site) → IsSite s → length s.vertices < 2 ^ 32
few_vertices s formed =
    let most = leb-true (length s.vertices) 8 (and_parts (nat_le 1 (length s.vertices)) (nat_le (length s.vertices) 8) formed.vertices_fit).1 in
    omega (arith, most)

found_by : {X : Type 0} (P : X → Type 0) (b : Bool) (x y : X) (o : Option X) → P x → (o ≡ Some y → P y) → cond b (Some x) o ≡ Some y → P y
found_by P true x y o here there e = let same : x ≡ y = cc in subst P same here
found_by P false x y o here there e = there e

-- what is found has the fact that each has
each_found : {X : Type 0} (P : X → Type 0) (test : X → Bool) (xs : List X) (y : X) → Each P xs → find test xs ≡ Some y → P y
each_found P test [] y each e = absurd (cc)
each_found P test (x ∷ xs) y each e = found_by P (test x) x y (find test xs) each.0 (λ there. each_found P test xs y each.1 there) e

each_placed : {X : Type 0} (P : X → Type 0) (xs : List X) (n : ℕ) (y : X) → Each P xs → slice_get xs n ≡ Some y → P y
each_placed P [] n y each e = absurd (cc)
each_placed P (x ∷ xs) zero y each e = let same : x ≡ y = cc in subst P same each.0
each_placed P (x ∷ xs) (suc n) y each e = each_placed P xs n y each.1 e

vertex_formed : (n : ℕ) (o : Option Site) (v : Vertex) → ((s : Site) → o ≡ Some s → IsSite s) → option_and_then (λ s. slice_get s.vertices n) o ≡ Some v → IsPred v.pred
vertex_formed n None v formed e = absurd (cc)
vertex_formed n (Some s) v formed e = (each_placed (IsVertex s.kind) s.vertices n v (formed s refl).vertices e).pred

-- the predicate of a vertex that an edge names is one
pub named_formed : (f : Function) (edge : ℕ × ℕ) (v : Vertex) → Each IsSite f.sites → vertex_at f edge ≡ Some v → IsPred v.pred
named_formed f edge v sites e =
    vertex_formed edge.1 (site_at f edge.0) v (λ s found. each_found IsSite (λ t. eqb t.addr edge.0) f.sites s sites found) e
