use Rattle.std.proofs.Common.{sym, ◌∙◌}
use Rattle.jump_tables.proofs.EntryLemmas.{entries-more, entries-none}
use Rattle.jump_tables.proofs.table.Table.entries.Goals as goal

pub returns-in_default : goal.returns-in_default
returns-in_default c =
    sym (c.loop-k.invariant
    ∙ entries-none c.args.image.now c.args.self.now c.loop-k.numbers.items c.args.low c.args.high c.loop-k.k
    c.requires.ordered c.loop-k-test.true (sym c.entry.ensures ∙ c.in_default.is))

pub loop-k-preserved : goal.loop-k-preserved
loop-k-preserved c =
    c.loop-k.invariant
    ∙ entries-more c.args.image.now c.args.self.now c.loop-k.numbers.items c.args.low c.args.high c.loop-k.k
    c.requires.ordered c.loop-k-test.true c.in-Some.number c.push.new.numbers.items (sym c.entry.ensures ∙ c.in-Some.is) c.in_ok-push.ensures
