-- The laws of a function that was lifted.
use Rattle.std.proofs.Common.{◌≡◌, ℕ, Bool, true, false, not, List, length, map, Some, slice_get, refl, sym, ap, ◌∙◌, subst}
use Rattle.std.specs.List.{All, Contains}
use Rattle.std.specs.Option.{IsSomeAnd}
use Rattle.std.proofs.lemmas.Bool.{and_parts}
use Rattle.std.proofs.lemmas.List.Elements.{All-contains, All-map}
use Rattle.std.proofs.lemmas.Option.{slice_get_within, get_or_from_slice_get}
use Rattle.elf_image.specs.Image.{is_code_at}
use Rattle.predicates.specs.Predicate.{Predicate}
use Rattle.predicates.specs.Entry.{entry_predicate}
use Rattle.predicates.specs.declared.site.Kind.TheVariants.{Call}
use Rattle.graph_data.specs.declared.graph.Vertex.{Vertex}
use Rattle.graph_data.specs.declared.graph.Site.{Site}
use Rattle.instr_at.specs.At.{instr_at, InstrAtLaw}
use Rattle.x86_instr.specs.Classes.{class_of}
use Rattle.graph_runs.specs.World.{x86}
use Rattle.graph_rules.specs.Rules.{rules}
use Rattle.simulation.specs.Graph.{vertex_at}
use Rattle.simulation.specs.Valid.{SiteHolds}
use Rattle.simulation.proofs.ListLemmas.{to_present}
use Rattle.lift_graph.specs.Graph.{address_at}
use Rattle.lift_graph.specs.Sites.{vertices_at}
use Rattle.lift_graph.specs.declared.graph.Key.{Key}
use Rattle.lift_graph.specs.declared.graph.Graph.{Graph}
use Rattle.lift_graph.proofs.IndexLemmas.{get_within}
use Rattle.lift_rounds.specs.Known.{Known}
use Rattle.site_lines.specs.Subject.{Subject, is_listed}
use Rattle.site_lines.specs.Kinds.{kind_at}
use Rattle.lifted_parts.specs.Built.{AreAddresses, vertex_of, number_of, preds_here, site_of, known_or_nothing}
use Rattle.lifted_parts.specs.Rest.{IsAtRest}
use Rattle.lifted_parts.specs.Whole.{IsValidFunction}
use Rattle.lifted_parts.proofs.FoundLemmas.{found, key_parts, get_mapped}
use Rattle.lifted_rules.specs.Laws.{ValidLaw, CodeLaw}
use Rattle.lifted_rules.proofs.ListLemmas.{all_by}
use Rattle.lifted_rules.proofs.KindLemmas.{stands, call_class}
use Rattle.lifted_rules.proofs.LineLemmas.{lines_kind}
use Rattle.lifted_rules.proofs.SiteLemmas.{function_of, function_built, function_is, site_holds}

contains_at : {A : Type 0} (xs : List A) (k : ℕ) (x : A) → slice_get xs k ≡ Some x → Contains xs x
contains_at xs k x e = (k, slice_get_within xs k x e, get_or_from_slice_get xs k x x e)

-- a fact of the site of each address, which stands among the sites
each_site : (P : Site → Type 0) (site : ℕ → Site) (addresses : List ℕ) → ((a : ℕ) → Contains (map site addresses) (site a) → P (site a)) → All P (map site addresses)
each_site P site addresses h = go addresses (λ k a e. h a (contains_at (map site addresses) k (site a) (get_mapped site addresses k a e)))
  where
    go : (xs : List ℕ) → ((k : ℕ) (a : ℕ) → slice_get xs k ≡ Some a → P (site a)) → All P (map site xs)
    go xs h = All-map P site xs (all_by (λ a. P (site a)) xs h)

module _ (s : Subject) (g : Graph) (known : List (Known Predicate)) (entry : ℕ) (addresses : List ℕ) (rest : IsAtRest s g known entry) (all : AreAddresses g addresses) where
  -- the entry vertex is found, with what is known there
  entry_holds : IsSomeAnd (vertex_at (x86 s.image) (function_of s g known entry addresses) entry 0) (λ (v : Vertex). v.pred ≡ entry_predicate)
  entry_holds =
      let F = function_of s g known entry addresses in
      let key : Key = record { address = entry; tag = 0 } in
      let l = get_within g.keys.items 0 key rest.begins in
      let parts = key_parts g.keys.items 0 key rest.begins in
      let number : number_of g 0 ≡ 0 = ap (λ t. length (vertices_at g.index (address_at g.keys.items 0) t)) parts.1 in
      let there = (found s g known entry F rest (function_built s g known entry addresses all)).there 0 l in
      let here : vertex_at (x86 s.image) F entry 0 ≡ Some (vertex_of g known 0) =
      subst (λ n. vertex_at (x86 s.image) F entry n ≡ Some (vertex_of g known 0)) number
      (subst (λ a. vertex_at (x86 s.image) F a (number_of g 0) ≡ Some (vertex_of g known 0)) parts.0 there) in
      to_present (λ (v : Vertex). v.pred ≡ entry_predicate) (vertex_at (x86 s.image) F entry 0) (vertex_of g known 0) here (ap known_or_nothing rest.start)

  -- each rule holds
  rules_hold : InstrAtLaw → IsValidFunction s.image (function_of s g known entry addresses)
  rules_hold law graph callees = record {
    entry = entry_holds;
    sites = each_site (SiteHolds (x86 s.image) (rules s.image) graph (function_of s g known entry addresses)) (site_of s g known) addresses
        (λ a at. site_holds s g known entry addresses rest all law graph callees a at);
  }

-- where a round changed nothing each rule holds
pub valid : InstrAtLaw → ValidLaw
valid law s g known entry f rest built =
    subst (IsValidFunction s.image) (sym (function_is s g known entry f built))
    (rules_hold s g known entry built.addresses rest built.all law)

-- each function that is called is code, and not outside
pub code : CodeLaw
code s g known entry f built site target at kind =
    All-contains (λ (x : Site). x.kind ≡ Call target → (is_code_at s.image target ≡ true) × (is_listed target s.externs ≡ false)) f.sites site
    (subst (λ sites. All (λ (x : Site). x.kind ≡ Call target → (is_code_at s.image target ≡ true) × (is_listed target s.externs ≡ false)) sites) (sym built.sites)
    (each_site (λ (x : Site). x.kind ≡ Call target → (is_code_at s.image target ≡ true) × (is_listed target s.externs ≡ false)) (site_of s g known) built.addresses (λ a here k.
    let preds = preds_here g known a in
    let o = instr_at s.image a in
    let w = stands s a o preds (Call target) (sym (lines_kind s.image (kind_at s a o preds) o preds) ∙ k) refl in
    let c = call_class s a w.0 preds target (class_of w.0.op) w.2 in
    let both = and_parts (is_code_at s.image target) (not (is_listed target s.externs)) c.2 in
    (both.0, not_true (is_listed target s.externs) both.1))))
    at kind
  where
    not_true : (b : Bool) → not b ≡ true → b ≡ false
    not_true false e = refl
    not_true true e = absurd (let z : ⊥ = cc in z)
