-- What a step chooses: bounds that it made or those before it, and entries of a table.
use Rattle.std.specs.Prelude.{Option, Some, None, List}
use Rattle.predicates.specs.declared.bound.Bound.{Bound}
use Rattle.step_rules.specs.Tables as tables
use Rattle.step_effects.specs.declared.tables.Choice.{Choice}

-- the bounds that were made, or else others
abbrev pub bounds_or : Option (List Bound) → List Bound → List Bound
bounds_or None others = others
bounds_or (Some made) others = made

-- the entries that a load may take, as the rules have them
abbrev pub plain_choice : Choice → tables.Choice
plain_choice c = record { base = c.base; scale = c.scale; low = c.low; high = c.high }
