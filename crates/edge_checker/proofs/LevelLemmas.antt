-- A level of one node or more.
use Rattle.std.proofs.Common.{◌≡◌, ◌<◌, ◌≤◌, Bool, true, false, ◌&&◌, List, [], ◌∷◌, length, get_or, refl, ap, ◌∙◌, arith}
use Rattle.mem_forest.specs.Plain.{PlainNode, cells}
use Rattle.edge_checker.specs.Decisions.{has_no_node, is_entry_node, is_entry_forest}

-- a level with a node
pub some_node : (xs : List PlainNode) → 1 ≤ length xs → false ≡ has_no_node (cells xs)
some_node [] some = absurd (omega arith)
some_node (x ∷ xs) some = refl

and_true : (b : Bool) → b ≡ (b && true)
and_true true = refl
and_true false = refl

and_false : (b : Bool) → false ≡ (b && false)
and_false true = refl
and_false false = refl

-- one node is that of the entry where it is, and two are not
pub one_entry : (xs : List PlainNode) (x : PlainNode) → 1 ≤ length xs → length xs < 2 → x ≡ get_or xs 0 x → is_entry_node x ≡ is_entry_forest (cells xs)
one_entry [] x some few is = absurd (omega arith)
one_entry (y ∷ []) x some few is = ap is_entry_node is ∙ and_true (is_entry_node y)
one_entry (y ∷ z ∷ xs) x some few is = absurd (omega arith)

pub two_entry : (xs : List PlainNode) → 2 ≤ length xs → false ≡ is_entry_forest (cells xs)
two_entry [] long = absurd (omega arith)
two_entry (x ∷ []) long = absurd (omega arith)
two_entry (x ∷ y ∷ xs) long = and_false (is_entry_node x)
