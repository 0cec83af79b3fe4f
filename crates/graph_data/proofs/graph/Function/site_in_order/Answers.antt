use Rattle.std.proofs.Common.{rules, Ok, Err}
use Rattle.std.proofs.lemmas.List.Sorted.{answers_always}
use Rattle.graph_data.proofs.LookupLemmas.{searched_by_key}
use Rattle.graph_data.proofs.graph.Function.site_in_order.Goals as goal

pub returns-in-Ok : goal.returns-in-Ok
returns-in-Ok c =
    let found = c.in-Ok.ensures.position (λ site. site.addr) (answers_always _ _ _ (λ f a r g called. search rules)) in
    let ascends = rw (← c.as_slice-sites.ensures) at c.requires in
    rw (← c.as_slice-sites.ensures)
    (searched_by_key (λ site. site.addr) c.as_slice-sites.result.now c.args.addr (Ok c.in-Ok.at) ascends c.in-Ok.ensures.bound found c.index-sites-at.result c.index-sites-at.is)

pub returns-in-Err : goal.returns-in-Err
returns-in-Err c =
    let absent = c.in-Err.ensures.position (λ site. site.addr) (answers_always _ _ _ (λ f a r g called. search rules)) in
    let ascends = rw (← c.as_slice-sites.ensures) at c.requires in
    rw (← c.as_slice-sites.ensures)
    (searched_by_key (λ site. site.addr) c.as_slice-sites.result.now c.args.addr (Err c.in-Err.field-0) ascends c.in-Err.ensures.bound absent)
