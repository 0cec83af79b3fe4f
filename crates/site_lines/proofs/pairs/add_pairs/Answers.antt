use Rattle.std.proofs.Common.{◌≡◌, ◌∙◌, Option, ap, subst}
use Rattle.std.specs.Prelude.{OnOk}
use Rattle.std.specs.Option.{option_copied}
use Rattle.memory_regions.specs.declared.region.Region.{Region}
use Rattle.memory_regions.specs.Relate.{Known}
use Rattle.mem_forest.specs.Plain.{PlainForest}
use Rattle.predicates.specs.Predicate.{Predicate}
use Rattle.graph_data.specs.Order.{pair_cmp}
use Rattle.step_rules.specs.Drop.{dropped}
use Rattle.step_rules.specs.Site.{store_region}
use Rattle.site_lines.specs.Ordered.{with_items}
use Rattle.site_lines.specs.Pairs.{threatened}
use Rattle.site_lines.specs.Subject.{bare}
use Rattle.site_lines.proofs.pairs.add_pairs.Goals as goal

pub returns : goal.returns
returns c =
    let i = c.args.i.now in
    let p = c.args.pred.now in
    let old = c.args.pairs.now.items in
    let Gives : Known → PlainForest → Option Region → Type 0 = λ k f r. OnOk c.add_where_stored.result (c.add_where_stored.new.pairs.items ≡ with_items pair_cmp old (threatened k f r)) in
    let forest : c.known.inside.forest ≡ (dropped i p).forest = ap (λ (q : Predicate). q.forest) (c.known.view_is ∙ c.in_ok-facts.ensures.dropped ∙ ap (dropped i) c.in_ok-known.ensures) in
    let region : option_copied c.as_ref-store.result ≡ store_region i p = c.as_ref-store.ensures.value ∙ c.in_ok-facts.ensures.store ∙ ap (store_region i) c.in_ok-known.ensures in
    subst (λ r. Gives (bare c.args.program.now.image.now) (dropped i p).forest r) region
    (subst (λ f. Gives (bare c.args.program.now.image.now) f (option_copied c.as_ref-store.result)) forest
    (subst (λ k. Gives k c.known.inside.forest (option_copied c.as_ref-store.result)) c.bare.ensures c.add_where_stored.ensures))
