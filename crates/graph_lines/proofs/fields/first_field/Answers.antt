use Rattle.std.proofs.Common.{sym}
use Rattle.graph_lines.proofs.WordLemmas.{fields_some, fields_none}
use Rattle.graph_lines.proofs.fields.first_field.Goals as goal

pub returns-in-Some-clause-value : goal.returns-in-Some-clause-value
returns-in-Some-clause-value c = fields_some c.args.separator c.args.bytes.now c.in-Some.field.now c.in-Some.after.now (sym c.in-Some.ensures.exact)

pub returns-in-None-clause-value : goal.returns-in-None-clause-value
returns-in-None-clause-value c = fields_none c.args.separator c.args.bytes.now (sym c.in-None.ensures.exact)
