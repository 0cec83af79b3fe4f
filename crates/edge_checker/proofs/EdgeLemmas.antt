-- The edges of a vertex break no rule exactly where they hold, for the cases of an instruction.
use Rattle.std.proofs.Common.{◌≡◌, ◌↔◌, ℕ, ◌+◌, false, List, [], ◌∷◌, ◌++◌, ap, map, length, Some, None, Option, refl, sym, ◌∙◌, eqb, arith}
use Rattle.std.specs.Prelude.{is_some, IsSomeAnd}
use Rattle.std.specs.Option.{option_to_list, option_map}
use Rattle.std.specs.List.{flat_map, enumerate_from, zip, AllZip}
use Rattle.std.proofs.lemmas.Bool.Decides.{Decides-eqb}
use Rattle.simulation.specs.Valid.{EdgeHolds, EdgesHold}
use Rattle.elf_image.specs.declared.image.Image.{Image}
use Rattle.predicates.specs.Predicate.{Predicate}
use Rattle.predicates.specs.Entails.{Entails}
use Rattle.predicates.specs.Missing.{missing}
use Rattle.predicates.specs.declared.conjunct.Conjunct.{Conjunct}
use Rattle.predicates.proofs.DecidedLemmas.{decided}
use Rattle.graph_data.specs.declared.graph.Vertex.{Vertex}
use Rattle.graph_data.specs.declared.graph.Site.{Site}
use Rattle.graph_data.specs.declared.graph.Function.{Function}
use Rattle.graph_data.specs.Parts.{Each}
use Rattle.graph_data.specs.WellFormed.{IsPred, IsSite}
use Rattle.graph_verdict.specs.declared.verdict.Rule.{Rule}
use Rattle.step_rules.specs.Cases.{Case}
use Rattle.graph_runs.specs.World.{x86}
use Rattle.graph_rules.specs.Rules.{case_of, rules}
use Rattle.edge_checker.specs.Breaks.{vertex_at, first, unless, broken, rule_of, target_rules, edge_rules, edge_breaks, edges_break}
use Rattle.edge_checker.proofs.EmptyLemmas.{append-empty, map-empty, unless-empty, rule_then}
use Rattle.edge_checker.proofs.FormLemmas.{named_formed}
use Rattle.edge_checker.proofs.SizeLemmas.{HasSize}

rules-empty : (o : Option Conjunct) → (option_to_list (option_map rule_of o) ≡ []) ↔ (is_some o ≡ false)
rules-empty None = (λ e. refl, λ e. refl)
rules-empty (Some c) = (λ e. absurd (cc), λ e. absurd (cc))

missing-empty : (p q : Predicate) → length p.regs ≡ 16 → IsPred q → (option_to_list (option_map rule_of (missing p q)) ≡ []) ↔ Entails p q
missing-empty p q l formed =
    let rules = rules-empty (missing p q) in
    let entails = decided p q (l ∙ sym formed.formed.sixteen) formed.forest in
    (λ e. entails.0 (rules.0 e), λ h. rules.1 (entails.1 h))

-- an edge's target is there and entailed
target-empty : (p : Predicate) (o : Option Vertex) → length p.regs ≡ 16 → ((v : Vertex) → o ≡ Some v → IsPred v.pred) → (target_rules p o ≡ []) ↔ IsSomeAnd o (λ v. Entails p v.pred)
target-empty p None l formed = (λ e. absurd (cc), λ found. absurd found)
target-empty p (Some v) l formed = missing-empty p v.pred l (formed v refl)

edge-empty : (image : Image) (f : Function) (c : Case) (edge : ℕ × ℕ) → Each IsSite f.sites → length c.pred.regs ≡ 16 →
    (edge_rules f (c, edge) ≡ []) ↔ EdgeHolds (x86 image) (rules image) f (case_of c) edge
edge-empty image f c edge sites l =
    let parts = append-empty (unless (eqb edge.0 c.address) Rule.Address) (target_rules c.pred (vertex_at f edge)) in
    let address = unless-empty (eqb edge.0 c.address) Rule.Address in
    let same = Decides-eqb edge.0 c.address in
    let target = target-empty c.pred (vertex_at f edge) l (λ v e. named_formed f edge v sites e) in (
      λ e. record { address = same.0 (address.0 (parts.0 e).0); vertex = target.0 (parts.0 e).1 },
      λ holds. parts.1 (address.1 (same.1 holds.address), target.1 holds.vertex),
    )

-- one edge for each case, in order
zip-empty : (image : Image) (f : Function) (s : Site) (n k : ℕ) (cs : List Case) (out : List (ℕ × ℕ)) → Each IsSite f.sites → Each (HasSize 16) cs →
    ((length out ≡ length cs) × (flat_map (edge_breaks f s n) (enumerate_from k (zip cs out)) ≡ [])) ↔ AllZip (EdgeHolds (x86 image) (rules image) f) (map case_of cs) out
zip-empty image f s n k [] [] sites sized = (λ both. tt, λ all. (refl, refl))
zip-empty image f s n k [] (edge ∷ out) sites sized = (λ both. absurd (omega (arith, both.0)), λ all. absurd all)
zip-empty image f s n k (c ∷ cs) [] sites sized = (λ both. absurd (omega (arith, both.0)), λ all. absurd all)
zip-empty image f s n k (c ∷ cs) (edge ∷ out) sites sized =
    let parts = append-empty (map (broken f.entry s.addr n k) (edge_rules f (c, edge))) (flat_map (edge_breaks f s n) (enumerate_from (k + 1) (zip cs out))) in
    let here = map-empty (broken f.entry s.addr n k) (edge_rules f (c, edge)) in
    let holds = edge-empty image f c edge sites sized.0 in
    let rest = zip-empty image f s n (k + 1) cs out sites sized.1 in (
      λ both. (holds.0 (here.0 (parts.0 both.1).0), rest.0 (omega (arith, both.0), (parts.0 both.1).1)),
      λ all.
          let after = rest.1 all.1 in
          let longer : length (edge ∷ out) ≡ length (c ∷ cs) = omega (arith, after.0) in
          (longer, parts.1 (here.1 (holds.1 all.0), after.1)),
    )

-- the edges stand for the cases, which are known
pub edges-empty : (image : Image) (f : Function) (s : Site) (n : ℕ) (o : Option (List Case)) (out : List (ℕ × ℕ)) → Each IsSite f.sites → ((cs : List Case) → o ≡ Some cs → Each (HasSize 16) cs) →
    (edges_break f s n o out ≡ []) ↔ IsSomeAnd (option_map (map case_of) o) (λ cases. EdgesHold (x86 image) (rules image) f cases out)
edges-empty image f s n None out sites sized = (λ e. absurd (cc), λ found. absurd found)
edges-empty image f s n (Some cs) out sites sized =
    let parts = rule_then (broken f.entry s.addr n 0) (eqb (length out) (length cs)) Rule.Cases (flat_map (edge_breaks f s n) (enumerate_from 0 (zip cs out))) in
    let count = Decides-eqb (length out) (length cs) in
    let all = zip-empty image f s n 0 cs out sites (sized cs refl) in
    (λ e. all.0 (count.0 (parts.0 e).0, (parts.0 e).1), λ h. let both = all.1 h in parts.1 (count.1 both.0, both.1))

-- edges that are as many as the cases break first what the first of them breaks
pub counted : (f : Function) (s : Site) (n : ℕ) (cs : List Case) (out : List (ℕ × ℕ)) → length out ≡ length cs →
    first (flat_map (edge_breaks f s n) (enumerate_from 0 (zip cs out))) ≡ first (edges_break f s n (Some cs) out)
counted f s n cs out same =
    ap (λ b. first (map (broken f.entry s.addr n 0) (unless b Rule.Cases) ++ flat_map (edge_breaks f s n) (enumerate_from 0 (zip cs out)))) (sym ((Decides-eqb (length out) (length cs)).1 same))
