use Rattle.std.proofs.Common.{◌≡◌, true, false, sym, ap, ap₂, ◌∙◌, arith}
use Rattle.std.specs.Prelude.{if◌then◌else◌, is_ok, not, slice_get}
use Rattle.std.specs.Option.{option_map_or}
use Rattle.std.specs.Ordering.{is_gt, is_eq}
use Rattle.std.specs.List.{position_or_len, insert as insert_item}
use Rattle.sym_terms.specs.Plain.{PlainSum}
use Rattle.sym_terms.specs.Order.{sum_cmp}
use Rattle.mem_forest.proofs.PlaceLemmas.{position_or_len-le}
use Rattle.mem_forest.proofs.RenameLemmas.{with_name-at}
use Rattle.mem_forest.proofs.naming.add_name.Goals as goal

pub returns-then-is_name_at-clause-ok : goal.returns-then-is_name_at-clause-ok
returns-then-is_name_at-clause-ok c =
    let t = c.args.name.now in
    let ns = c.args.names.now.items in
    let before = λ (n : PlainSum). not (is_gt (sum_cmp t n)) in
    let same = λ (n : PlainSum). is_eq (sum_cmp t n) in
    let is_place : c.name_place-place.result ≡ position_or_len before ns = c.name_place-place.ensures ∙ ap (position_or_len before) c.as_slice.ensures.value in
    let there : option_map_or same (slice_get ns (position_or_len before ns)) false ≡ true =
    ap (λ k. option_map_or same (slice_get ns k) false) (sym is_place) ∙ ap (λ ms. option_map_or same (slice_get ms c.name_place-place.result) false) (sym c.as_slice-2.ensures.value) ∙ sym c.is_name_at.ensures ∙ c.if-is_name_at.true in
    sym (with_name-at t ns ∙ ap (λ o. if o then ns else insert_item ns (position_or_len before ns) t) there)

pub insert-requires : goal.insert-requires
insert-requires c =
    let before = λ (n : PlainSum). not (is_gt (sum_cmp c.args.name.now n)) in
    let ns = c.args.names.now.items in
    let is_place : c.name_place-place.result ≡ position_or_len before ns = c.name_place-place.ensures ∙ ap (position_or_len before) c.as_slice.ensures.value in
    omega (arith, is_place, position_or_len-le before ns, c.args.names.now.ok.0)

pub returns-clause-ok : goal.returns-clause-ok
returns-clause-ok c =
    let t = c.args.name.now in
    let ns = c.args.names.now.items in
    let before = λ (n : PlainSum). not (is_gt (sum_cmp t n)) in
    let same = λ (n : PlainSum). is_eq (sum_cmp t n) in
    let is_place : c.name_place-place.result ≡ position_or_len before ns = c.name_place-place.ensures ∙ ap (position_or_len before) c.as_slice.ensures.value in
    let there : option_map_or same (slice_get ns (position_or_len before ns)) false ≡ false =
    ap (λ k. option_map_or same (slice_get ns k) false) (sym is_place) ∙ ap (λ ms. option_map_or same (slice_get ms c.name_place-place.result) false) (sym c.as_slice-2.ensures.value) ∙ sym c.is_name_at.ensures ∙ c.if-is_name_at.false in
    let added : is_ok c.insert.result ≡ true = sym c.map_err.ensures.variant ∙ ap is_ok c.in_ok-map_err.was in
    c.insert.ensures.items ∙ ap (λ r. if r then insert_item ns c.name_place-place.result c.in_ok-name.name else ns) added
    ∙ ap₂ (λ k n. insert_item ns k n) is_place c.in_ok-name.ensures
    ∙ sym (with_name-at t ns ∙ ap (λ o. if o then ns else insert_item ns (position_or_len before ns) t) there)
