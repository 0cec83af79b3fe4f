-- How many vertices stand at an address: one or two where it is a vertex's.
use Rattle.std.proofs.Common.{◌≡◌, ◌<◌, ◌≤◌, ◌+◌, ℕ, zero, suc, true, false, List, length, Some, None, Option, refl, ap, ◌∙◌, subst, inl, inr, arith}
use Rattle.std.specs.Prelude.{is_some}
use Rattle.std.specs.Int.{from_bool}
use Rattle.std.specs.BTreeMap.{BTreeMap, get}
use Rattle.std.proofs.lemmas.Bool.{cases_lt}
use Rattle.predicates.specs.Predicate.{Predicate}
use Rattle.graph_data.specs.declared.graph.Function.{Function}
use Rattle.lift_graph.specs.Graph.{key_cmp, address_at, tag_at}
use Rattle.lift_graph.specs.Sites.{vertices_at}
use Rattle.lift_graph.specs.declared.graph.Key.{Key}
use Rattle.lift_graph.specs.declared.graph.Graph.{Graph}
use Rattle.lift_graph.proofs.IndexLemmas.{get_within}
use Rattle.lift_rounds.specs.Known.{Known}
use Rattle.site_lines.specs.Subject.{Subject}
use Rattle.image_steps.specs.Meant.{meaning_of}
use Rattle.lifted_parts.specs.Built.{IsBuilt, here, number_of}
use Rattle.lifted_parts.specs.Rest.{IsAtRest}
use Rattle.lifted_parts.proofs.NumberLemmas.{number_more}
use Rattle.lifted_parts.proofs.TagLemmas.{tags_low}
use Rattle.lifted_parts.proofs.FoundLemmas.{stands_here, key_parts}

-- the index finds nothing at a tag
abbrev NothingAt : BTreeMap Key ℕ → ℕ → ℕ → Type 0
NothingAt index a tag = get key_cmp index (record { address = a; tag = tag }) ≡ None

one_more : (index : BTreeMap Key ℕ) (a tag : ℕ) → length (vertices_at index a (suc tag)) ≤ length (vertices_at index a tag) + 1
one_more index a tag =
    let more = number_more index a tag in
    elim (is_some (get key_cmp index (record { address = a; tag = tag }))) as (λ b. length (vertices_at index a (suc tag)) ≡ length (vertices_at index a tag) + from_bool b → length (vertices_at index a (suc tag)) ≤ length (vertices_at index a tag) + 1) [
      | true ↦ λ e. omega (arith, e)
      | false ↦ λ e. omega (arith, e)
    ] more

none_more : (index : BTreeMap Key ℕ) (a tag : ℕ) → NothingAt index a tag → length (vertices_at index a (suc tag)) ≡ length (vertices_at index a tag)
none_more index a tag e =
    let more : length (vertices_at index a (suc tag)) ≡ length (vertices_at index a tag) + from_bool (is_some {T = ℕ} None) =
    subst (λ (o : Option ℕ). length (vertices_at index a (suc tag)) ≡ length (vertices_at index a tag) + from_bool (is_some o)) e (number_more index a tag) in
    omega (arith, more)

-- where each tag is below two there are at most two vertices
few : (index : BTreeMap Key ℕ) (a : ℕ) → ((tag : ℕ) → 2 ≤ tag → NothingAt index a tag) → (n : ℕ) → (length (vertices_at index a n) ≤ n) × (length (vertices_at index a n) ≤ 2)
few index a h zero = (omega arith, omega arith)
few index a h (suc n) =
    let before = few index a h n in
    let low = before.0 in
    let high = before.1 in
    let more = one_more index a n in
    elim (cases_lt n 2) as (λ _. (length (vertices_at index a (suc n)) ≤ suc n) × (length (vertices_at index a (suc n)) ≤ 2)) [
      | inl l ↦ (omega (arith, low, more), omega (arith, low, more, l))
      | inr g ↦ (let same = none_more index a n (h n (omega (arith, g))) in (omega (arith, low, same), omega (arith, high, same)))
    ]

module _ (s : Subject) (g : Graph) (known : List (Known Predicate)) (entry : ℕ) (rest : IsAtRest s g known entry) where
  -- each tag is below two
  pub tag_below : (v : ℕ) → v < length g.keys.items → tag_at g.keys.items v < 2
  tag_below v l = elim (cases_lt 0 v) as (λ _. tag_at g.keys.items v < 2) [
    | inl p ↦ (let e = tags_low (meaning_of s) g known (λ a. refl) rest.graph rest.settled.led v p l in omega (arith, e))
    | inr z ↦ (let first : v ≡ 0 = omega (arith, z) in
        let e = ap (tag_at g.keys.items) first ∙ (key_parts g.keys.items 0 (record { address = entry; tag = 0 }) rest.begins).1 in
        omega (arith, e))
  ]

  nothing_above : (a tag : ℕ) → 2 ≤ tag → NothingAt g.index a tag
  nothing_above a tag l =
      let key : Key = record { address = a; tag = tag } in
      elim (get key_cmp g.index key) as (λ o. get key_cmp g.index key ≡ o → o ≡ None) [
        | None ↦ λ e. refl
        | Some v ↦ λ e. absurd (
            let got = (rest.graph.listed.index key v).0 e in
            let t = (key_parts g.keys.items v key got).1 in
            let low = tag_below v (get_within g.keys.items v key got) in
            omega (arith, t, low, l))
      ] refl

  -- at most two vertices stand at an address
  pub here_few : (a : ℕ) → length (here g a) ≤ 2
  here_few a = (few g.index a (nothing_above a) g.tags).1

-- one at least stands at the address of a vertex
pub here_some : (s : Subject) (g : Graph) (known : List (Known Predicate)) (entry : ℕ) (f : Function) → IsAtRest s g known entry → IsBuilt s g known entry f → (v : ℕ) → v < length g.keys.items → 0 < length (here g (address_at g.keys.items v))
here_some s g known entry f rest built v l =
    let w = get_within (here g (address_at g.keys.items v)) (number_of g v) v (stands_here s g known entry f rest built v l) in
    omega (arith, w)
