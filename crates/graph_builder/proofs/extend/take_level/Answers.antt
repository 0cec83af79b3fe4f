use Rattle.std.proofs.Common.{◌≤◌, length, drop, ap, ◌∙◌, rules}
use Rattle.graph_builder.specs.Levels.{fold_levels}
use Rattle.graph_builder.proofs.CloseLemmas.{level_closed}
use Rattle.graph_builder.proofs.extend.take_level.Goals as goal

pub returns-in-Some-clause-nodes : goal.returns-in-Some-clause-nodes
returns-in-Some-clause-nodes c =
    let left = c.pop.new.self.items in
    let room : c.args.level ≤ length left = search rules in
    level_closed c.args.level c.args.levels.now.items left c.in-Some.deepest c.fold_below.result.items c.in-Some.ensures.items room
    (c.fold_below.ensures.nodes ∙ ap (fold_levels (drop c.args.level left)) c.into_vec.ensures)
