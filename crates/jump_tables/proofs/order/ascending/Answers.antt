use Rattle.std.proofs.Common.{eqb, ◌∙◌}
use Rattle.std.proofs.lemmas.List.Filters.{dedup_is}
use Rattle.jump_tables.proofs.OrderLemmas.{dedup-ascending}
use Rattle.jump_tables.proofs.order.ascending.Goals as goal

pub returns : goal.returns
returns c =
    dedup_is eqb _ _ c.dedup.ensures.filtered
    ∙ dedup-ascending _ _ c.sort_unstable.ensures.permutation c.sort_unstable.ensures.sorted
