use Rattle.std.proofs.Common.{◌≡◌, ◌<◌, ◌∷◌, ◌++◌, [], List, ℕ, length, sym, subst, rules}
use Rattle.std.specs.List.{All}
use Rattle.lift_graph.specs.Graph.{IsIndex}
use Rattle.lift_graph.specs.declared.graph.Key.{Key}
use Rattle.lift_graph.proofs.IndexLemmas.{index_more, tags_more}
use Rattle.lift_graph.proofs.graph.find_or_add.Goals as goal

pub returns-in-Some-clause-found : goal.returns-in-Some-clause-found
returns-in-Some-clause-found c = (c.requires.listed.index c.args.key c.in-Some.vertex.now).0 (sym c.in-Some.ensures.value)

pub returns-clause-listed : goal.returns-clause-listed
returns-clause-listed c =
    let square = c.requires.listed.square in
    let keys = c.args.graph.now.keys.items in
    let key = c.args.key in
    let next : c.len-vertex.result ≡ length keys = c.len-vertex.ensures in
    record {
      square = search rules;
      index = subst (IsIndex c.insert.new.self) (sym c.in_ok-push.ensures.items) (index_more c.args.graph.now.index c.insert.new.self keys key c.len-vertex.result next c.requires.listed.index (sym c.in_default.ensures.value) c.in_ok-insert.ensures.updates);
      tags =
          subst (λ (ks : List Key). All (λ k. k.tag < c.max-graph.result) ks) (sym c.in_ok-push.ensures.items)
          (subst (λ (top : ℕ). All (λ k. k.tag < top) (keys ++ key ∷ [])) (sym c.max-graph.ensures) (tags_more keys key c.args.graph.now.tags c.requires.listed.tags));
    }
