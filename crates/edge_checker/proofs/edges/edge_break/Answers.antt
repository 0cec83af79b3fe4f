use Rattle.std.proofs.Common.{slice_get}
use Rattle.edge_checker.proofs.FirstLemmas.{image_of}
use Rattle.edge_checker.specs.Breaks.{broken, edge_rules}
use Rattle.edge_checker.proofs.edges.edge_break.Goals as goal

pub returns-in-Some : goal.returns-in-Some
returns-in-Some c = image_of (broken c.args.f.now.entry c.args.s.now.addr c.args.number c.args.case) (λ x. edge_rules c.args.f.now (x, c.args.edge)) (slice_get c.args.cases.now c.args.case) c.edge_rule.ensures c.in-Some.is c.broken_at.ensures
