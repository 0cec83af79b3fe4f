use Rattle.std.proofs.Common.{◌≡◌, true, false, sym, ap, ◌∙◌, arith}
use Rattle.std.specs.Prelude.{if◌then◌else◌, is_ok}
use Rattle.std.specs.List.{insert as insert_item}
use Rattle.site_lines.proofs.OrderedLemmas.{place_in, place_within, is_item_at, with_item_at}
use Rattle.site_lines.proofs.ranked.add.Goals as goal

pub returns-then-is_item_at : goal.returns-then-is_item_at
returns-then-is_item_at g c =
    let cmp = g.T.Ranked.order in
    let x = c.args.item in
    let ys = c.args.items.now.items in
    let is_place : c.place_of-place.result ≡ place_in cmp x ys = c.place_of-place.ensures ∙ ap (place_in cmp x) c.as_slice.ensures.value in
    let there : is_item_at cmp x ys (place_in cmp x ys) ≡ true =
    ap (is_item_at cmp x ys) (sym is_place) ∙ ap (λ zs. is_item_at cmp x zs c.place_of-place.result) (sym c.as_slice-2.ensures.value) ∙ sym c.is_item_at.ensures ∙ c.if-is_item_at.true in
    sym (with_item_at cmp x ys ∙ ap (λ o. if o then ys else insert_item ys (place_in cmp x ys) x) there)

pub insert-requires : goal.insert-requires
insert-requires g c =
    let cmp = g.T.Ranked.order in
    let x = c.args.item in
    let ys = c.args.items.now.items in
    let is_place : c.place_of-place.result ≡ place_in cmp x ys = c.place_of-place.ensures ∙ ap (place_in cmp x) c.as_slice.ensures.value in
    omega (arith, is_place, place_within cmp x ys, c.args.items.now.ok.0)

pub returns : goal.returns
returns g c =
    let cmp = g.T.Ranked.order in
    let x = c.args.item in
    let ys = c.args.items.now.items in
    let is_place : c.place_of-place.result ≡ place_in cmp x ys = c.place_of-place.ensures ∙ ap (place_in cmp x) c.as_slice.ensures.value in
    let there : is_item_at cmp x ys (place_in cmp x ys) ≡ false =
    ap (is_item_at cmp x ys) (sym is_place) ∙ ap (λ zs. is_item_at cmp x zs c.place_of-place.result) (sym c.as_slice-2.ensures.value) ∙ sym c.is_item_at.ensures ∙ c.if-is_item_at.false in
    let added : is_ok c.insert.result ≡ true = sym c.map_err.ensures.variant ∙ ap is_ok c.in_ok-map_err.was in
    c.insert.ensures.items ∙ ap (λ r. if r then insert_item ys c.place_of-place.result x else ys) added
    ∙ ap (λ k. insert_item ys k x) is_place
    ∙ sym (with_item_at cmp x ys ∙ ap (λ o. if o then ys else insert_item ys (place_in cmp x ys) x) there)
