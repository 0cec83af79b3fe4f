use Rattle.std.proofs.Common.{◌∙◌, ap, refl}
use Rattle.std.proofs.lemmas.List.Elements.{same_from_all_zip}
use Rattle.lift_openings.specs.Copies.{rows_of}
use Rattle.lift_openings.proofs.GraphLemmas.{graph_copied}
use Rattle.lift_openings.proofs.copies.copy_graph.Goals as goal

pub returns-clause-graph : goal.returns-clause-graph
returns-clause-graph c =
    graph_copied c.args.graph.now (record { keys = c.in_ok-keys.keys; targets = c.in_ok-targets.targets; index = c.in_ok-index.index; tags = c.args.graph.now.tags; inward = c.in_ok-inward.inward; keeps = c.in_ok-keeps.keeps })
    (c.in_ok-keys.ensures.items ∙ c.as_slice.ensures.value)
    (c.in_ok-targets.ensures ∙ ap rows_of c.as_slice-2.ensures.value)
    (c.in_ok-inward.ensures ∙ ap rows_of c.as_slice-3.ensures.value)
    (c.in_ok-keeps.ensures.items ∙ c.as_slice-4.ensures.value)
    (same_from_all_zip _ c.args.graph.now.index.entries c.in_ok-index.index.entries c.in_ok-index.ensures.cases (λ x y h. λ i. (h.0 i, h.1 i)))
    refl
    c.requires

pub returns-clause-copy : goal.returns-clause-copy
returns-clause-copy c =
    record {
      keys = c.in_ok-keys.ensures.items ∙ c.as_slice.ensures.value;
      targets = c.in_ok-targets.ensures ∙ ap rows_of c.as_slice-2.ensures.value;
      inward = c.in_ok-inward.ensures ∙ ap rows_of c.as_slice-3.ensures.value;
      keeps = c.in_ok-keeps.ensures.items ∙ c.as_slice-4.ensures.value;
      index = same_from_all_zip _ c.args.graph.now.index.entries c.in_ok-index.index.entries c.in_ok-index.ensures.cases (λ x y h. λ i. (h.0 i, h.1 i));
      tags = refl;
    }
