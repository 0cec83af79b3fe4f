use Rattle.std.proofs.Common.{sym, arith, rules}
use Rattle.graph_lines.proofs.WordLemmas.{split_after, split_none}
use Rattle.graph_lines.proofs.words.split_at.Goals as goal

pub returns-then-byte-separator-clause-exact : goal.returns-then-byte-separator-clause-exact
returns-then-byte-separator-clause-exact c = split_after c.args.separator c.args.bytes.now c.loop-at.at (omega arith) (search rules) c.loop-at.invariant

pub returns-clause-exact : goal.returns-clause-exact
returns-clause-exact c = sym (split_none c.args.separator c.args.bytes.now (λ k lt. c.loop-at.invariant k (omega arith)))
