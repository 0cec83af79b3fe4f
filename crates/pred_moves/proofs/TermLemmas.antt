-- A term that the program has is within the limit of nodes, and so is a multiple of it.
use Rattle.std.proofs.Common.{◌≡◌, ◌≤◌, ℕ, Some, None, ap, arith}
use Rattle.std.specs.Prelude.{if◌then◌else◌}
use Rattle.std.proofs.lemmas.Bool.{le-leb}
use Rattle.sym_terms.specs.Limits.{most_nodes}
use Rattle.sym_terms.specs.Plain.{PlainSum, sum, none}
use Rattle.sym_terms.specs.Nodes.{nodes}
use Rattle.sym_terms.specs.Normal.{times, within_node_limit, IsTerm}
use Rattle.sym_terms.proofs.SumLemmas.{plus_times_nodes}

few_within : (a : PlainSum) → nodes a ≤ most_nodes → within_node_limit a ≡ Some a
unfolding within_node_limit
few_within a h = ap (λ t. if t then Some a else None) (le-leb (nodes a) most_nodes h)

pub within_itself : (a : PlainSum) → IsTerm a → within_node_limit a ≡ Some a
within_itself a h = few_within a h.small

pub multiple_within : (k : ℕ) (a : PlainSum) → IsTerm a → within_node_limit (times k a) ≡ Some (times k a)
multiple_within k a h = few_within (times k a) (omega (arith, plus_times_nodes (sum 0 none) k a, h.small))
