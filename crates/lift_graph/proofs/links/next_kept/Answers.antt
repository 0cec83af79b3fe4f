use Rattle.std.proofs.Common.{get_or}
use Rattle.lift_graph.proofs.SublistLemmas.{kept_other, kept_same, address_differs, tag_differs, same_key_at}
use Rattle.lift_graph.proofs.links.next_kept.Goals as goal

pub returns-then-next-key-clause-same : goal.returns-then-next-key-clause-same
returns-then-next-key-clause-same c =
    let vertex = get_or c.args.row.now c.args.kept 0 in
    let within = c.requires.row c.args.kept 0 c.if-row-kept.false in
    λ more. kept_other c.args.keys.now c.args.row.now c.args.kept c.args.key more c.if-row-kept.false (address_differs c.args.keys.now vertex _ c.args.key within c.if-next-key.true)

pub returns-then-next-key-2-clause-same : goal.returns-then-next-key-2-clause-same
returns-then-next-key-2-clause-same c =
    let vertex = get_or c.args.row.now c.args.kept 0 in
    let within = c.requires.row c.args.kept 0 c.if-row-kept.false in
    λ more. kept_other c.args.keys.now c.args.row.now c.args.kept c.args.key more c.if-row-kept.false (tag_differs c.args.keys.now vertex _ c.args.key within c.if-next-key-2.true)

pub returns-clause-same : goal.returns-clause-same
returns-clause-same c =
    let vertex = get_or c.args.row.now c.args.kept 0 in
    let within = c.requires.row c.args.kept 0 c.if-row-kept.false in
    λ more. kept_same c.args.keys.now c.args.row.now c.args.kept c.args.key more c.if-row-kept.false (same_key_at c.args.keys.now vertex _ c.args.key within c.if-next-key.false c.if-next-key-2.false)
