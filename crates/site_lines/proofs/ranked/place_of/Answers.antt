use Rattle.std.proofs.Common.{◌∙◌, ap, length}
use Rattle.std.specs.Prelude.{unwrap_or, not}
use Rattle.std.specs.Ordering.{is_gt}
use Rattle.site_lines.proofs.OrderedLemmas.{place_found, place_within}
use Rattle.site_lines.proofs.ranked.place_of.Goals as goal

pub returns : goal.returns
returns g c =
    let cmp = g.T.Ranked.order in
    let x = c.args.item.now in
    c.unwrap_or.ensures ∙ ap (λ o. unwrap_or o (length c.args.items.now)) c.first_not_before.ensures
    ∙ place_found (λ y. not (is_gt (cmp x y))) c.args.items.now (place_within cmp x c.args.items.now)
