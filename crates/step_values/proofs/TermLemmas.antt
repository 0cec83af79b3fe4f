-- A term that the program has is within the limit of nodes.
use Rattle.std.proofs.Common.{◌≡◌, ◌≤◌, ℕ, true, Option, Some, None, refl, sym, ap}
use Rattle.std.specs.Prelude.{IfSome, nat_le, if◌then◌else◌}
use Rattle.std.proofs.lemmas.Bool.{le-leb}
use Rattle.sym_terms.specs.Limits.{most_nodes}
use Rattle.sym_terms.specs.Plain.{PlainSum}
use Rattle.sym_terms.specs.Nodes.{nodes}
use Rattle.sym_terms.specs.Normal.{within_node_limit, IsTerm}
use Rattle.step_rules.specs.Terms.{apply}

pub within_itself : (a : PlainSum) → nodes a ≤ most_nodes → Some a ≡ within_node_limit a
unfolding within_node_limit
within_itself a h = ap (λ t. if t then Some a else None) (sym (le-leb (nodes a) most_nodes h))

pub whole_term_stays : (t : Option PlainSum) → IfSome t IsTerm → t ≡ apply (λ a. a) t
whole_term_stays None h = refl
whole_term_stays (Some a) h = within_itself a h.small
