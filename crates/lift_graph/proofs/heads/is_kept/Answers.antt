use Rattle.std.proofs.Common.{◌≡◌, ◌<◌, true, false, length, refl, sym, ap, ◌∙◌, inl, inr, arith}
use Rattle.std.proofs.lemmas.Bool.{false≢true}
use Rattle.lift_graph.specs.Rows.{items_at}
use Rattle.lift_graph.proofs.RowLemmas.{items_at_read}
use Rattle.lift_graph.proofs.IndexLemmas.{address_at_get}
use Rattle.lift_graph.proofs.heads.is_kept.Goals as goal

pub returns-then-keys-vertex : goal.returns-then-keys-vertex
returns-then-keys-vertex c =
    let keys = c.args.keys.now in
    let within : c.args.vertex < length keys = omega (arith, c.requires.square, c.requires.vertex) in
    let some : 0 < length keys = omega arith in
    let here = address_at_get keys c.args.vertex _ within in
    let first = address_at_get keys 0 _ some in
    (λ _. inl (here ∙ c.if-keys-vertex.true ∙ sym first), λ _. refl)

pub returns-then-places-lt2 : goal.returns-then-places-lt2
returns-then-places-lt2 c =
    let keys = c.args.keys.now in
    let within : c.args.vertex < length keys = omega (arith, c.requires.square, c.requires.vertex) in
    let some : 0 < length keys = omega arith in
    let here = address_at_get keys c.args.vertex _ within in
    let first = address_at_get keys 0 _ some in
    let row : length c.as_slice-places.result.now ≡ length (items_at c.args.inward.now c.args.vertex) = ap length (c.as_slice-places.ensures.value ∙ sym (items_at_read c.args.inward.now c.args.vertex c.index-inward-vertex.result c.requires.vertex c.index-inward-vertex.is)) in (
      λ t. absurd (false≢true t),
      λ k. elim k as (λ _. false ≡ true) [ inl e ↦ absurd (c.if-keys-vertex.false (sym here ∙ e ∙ first)) | inr h ↦ absurd (let few = c.if-places-lt2.true in let many = h.0 in omega arith) ],
    )

pub returns : goal.returns
returns c =
    let keys = c.args.keys.now in
    let within : c.args.vertex < length keys = omega (arith, c.requires.square, c.requires.vertex) in
    let some : 0 < length keys = omega arith in
    let here = address_at_get keys c.args.vertex _ within in
    let first = address_at_get keys 0 _ some in
    let row : length c.as_slice-places.result.now ≡ length (items_at c.args.inward.now c.args.vertex) = ap length (c.as_slice-places.ensures.value ∙ sym (items_at_read c.args.inward.now c.args.vertex c.index-inward-vertex.result c.requires.vertex c.index-inward-vertex.is)) in (
      λ t. inr (let many = c.if-places-lt2.false in omega arith, c.in_ok-back.ensures.found t),
      λ k. elim k as (λ _. c.in_ok-back.back ≡ true) [ inl e ↦ absurd (c.if-keys-vertex.false (sym here ∙ e ∙ first)) | inr h ↦ c.in_ok-back.ensures.only h.1 ],
    )
