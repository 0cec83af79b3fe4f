-- Entries of a table, as the rules have them.
use Rattle.step_rules.specs.Tables.{Choice}
use Rattle.pred_moves.specs.declared.tables.Entries.{Entries}

-- where the table begins, how many bytes its entries lie apart, and the first and the last that are meant
abbrev pub plain_choice : Entries → Choice
plain_choice e = record { base = e.base; scale = e.scale; low = e.low; high = e.high }
