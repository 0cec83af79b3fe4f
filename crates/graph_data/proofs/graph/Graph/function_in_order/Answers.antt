use Rattle.std.proofs.Common.{rules, Ok, Err}
use Rattle.std.proofs.lemmas.List.Sorted.{answers_always}
use Rattle.graph_data.proofs.LookupLemmas.{searched_by_key}
use Rattle.graph_data.proofs.graph.Graph.function_in_order.Goals as goal

pub returns-in-Ok : goal.returns-in-Ok
returns-in-Ok c =
    let found = c.in-Ok.ensures.position (λ function. function.entry) (answers_always _ _ _ (λ f a r g called. search rules)) in
    let ascends = rw (← c.as_slice-functions.ensures) at c.requires in
    rw (← c.as_slice-functions.ensures)
    (searched_by_key (λ function. function.entry) c.as_slice-functions.result.now c.args.entry (Ok c.in-Ok.at) ascends c.in-Ok.ensures.bound found c.index-functions-at.result c.index-functions-at.is)

pub returns-in-Err : goal.returns-in-Err
returns-in-Err c =
    let absent = c.in-Err.ensures.position (λ function. function.entry) (answers_always _ _ _ (λ f a r g called. search rules)) in
    let ascends = rw (← c.as_slice-functions.ensures) at c.requires in
    rw (← c.as_slice-functions.ensures)
    (searched_by_key (λ function. function.entry) c.as_slice-functions.result.now c.args.entry (Err c.in-Err.field-0) ascends c.in-Err.ensures.bound absent)
