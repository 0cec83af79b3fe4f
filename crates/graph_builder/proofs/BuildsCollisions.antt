-- Where a node has a name and size of another, and the order of a level.
use Rattle.std.proofs.Common.{◌≡◌, Bool, true, false, ◌&&◌, ◌||◌, List, [], ◌∷◌, ◌++◌, length, refl, ap, ◌∙◌, arith}
use Rattle.std.specs.Prelude.{◌==◌, ⊤}
use Rattle.std.specs.List.{list_any}
use Rattle.std.specs.Ordering.{is_eq}
use Rattle.std.specs.Int.{from_bool}
use Rattle.std.specs.Cmp.{tied_itself}
use Rattle.std.proofs.lemmas.Bool.{or_from, or_left, or_right}
use Rattle.sym_terms.specs.Plain.{PlainSum}
use Rattle.sym_terms.specs.Order.{sum_cmp}
use Rattle.sym_terms.specs.Codes.{sum_total}
use Rattle.mem_forest.specs.Plain.{PlainForest, none, cell, PlainNode, cells}
use Rattle.mem_forest.specs.Search.{has_name}
use Rattle.mem_forest.specs.Shape.{comes_before, precedes}
use Rattle.graph_data.specs.Parts.{Each}
use Rattle.graph_builder.specs.Partial.{with_children, forest_of_levels}
use Rattle.graph_builder.specs.Order.{extends_order, level_at, collides}
use Rattle.graph_builder.proofs.BuildsLists.{each_from}
use Rattle.graph_builder.proofs.PartialOrder.{extends_last}
use Rattle.graph_builder.proofs.BuildsForest.{merged, leaf, weigh, weigh_all, at_region}

-- ---- no node has a name and size that another has

-- a name is among names
pub each_has : (ns : List PlainSum) → Each (λ n. has_name n ns ≡ true) ns
each_has [] = tt
each_has (x ∷ xs) =
    let itself : is_eq (sum_cmp x x) ≡ true = ap is_eq (tied_itself sum_total x) in
    (or_left (is_eq (sum_cmp x x)) (has_name x xs) itself, each_from (λ n. has_name n xs ≡ true) (λ n. has_name n (x ∷ xs) ≡ true) (λ n e. or_right (is_eq (sum_cmp x n)) (has_name n xs) e) xs (each_has xs))

from_bool_none : (t : Bool) → from_bool t ≡ 0 → t ≡ false
from_bool_none true e = absurd (omega (arith, e))
from_bool_none false e = refl

none_here : (same : Bool) (ms ns : List PlainSum) → Each (λ n. (same && has_name n ms) ≡ false) ns → (same && list_any (λ n. has_name n ms) ns) ≡ false
none_here true ms [] h = refl
none_here true ms (n ∷ ns) h = or_from (has_name n ms) (list_any (λ n. has_name n ms) ns) h.0 (none_here true ms ns h.1)
none_here false ms ns h = refl

-- where no node can stand at any of a node's regions, it collides with none
pub collides_none : (c : PlainNode) (f : PlainForest) → Each (λ n. weigh (at_region n c.bytes) f ≡ 0) c.names → collides c f ≡ false
collides_none c none h = refl
collides_none c (cell ns b v under rest) h =
    or_from ((b == c.bytes) && list_any (λ n. has_name n ns) c.names) (collides c under || collides c rest)
    (none_here (b == c.bytes) ns c.names (each_from Met (λ n. ((b == c.bytes) && has_name n ns) ≡ false) (λ n e. from_bool_none ((b == c.bytes) && has_name n ns) (omega (arith, e))) c.names h))
    (or_from (collides c under) (collides c rest)
    (collides_none c under (each_from Met (λ n. weigh (at_region n c.bytes) under ≡ 0) (λ n e. omega (arith, e)) c.names h))
    (collides_none c rest (each_from Met (λ n. weigh (at_region n c.bytes) rest ≡ 0) (λ n e. omega (arith, e)) c.names h)))
  where
    Met : PlainSum → Type 0
    Met n = weigh (at_region n c.bytes) (cell ns b v under rest) ≡ 0

pub collides_nowhere : (c : PlainNode) (levels : List (List PlainNode)) → Each (λ n. weigh_all (at_region n c.bytes) levels ≡ 0) c.names → list_any (λ nodes. collides c (cells nodes)) levels ≡ false
collides_nowhere c [] h = refl
collides_nowhere c (nodes ∷ levels) h =
    or_from (collides c (cells nodes)) (list_any (λ nodes. collides c (cells nodes)) levels)
    (collides_none c (cells nodes) (each_from (λ n. weigh_all (at_region n c.bytes) (nodes ∷ levels) ≡ 0) (λ n. weigh (at_region n c.bytes) (cells nodes) ≡ 0) (λ n e. omega (arith, e)) c.names h))
    (collides_nowhere c levels (each_from (λ n. weigh_all (at_region n c.bytes) (nodes ∷ levels) ≡ 0) (λ n. weigh_all (at_region n c.bytes) levels ≡ 0) (λ n e. omega (arith, e)) c.names h))

-- ---- the order of a level

-- whether a node comes after the last of nodes
abbrev pub before_node : PlainNode → PlainNode → Bool
before_node d e = comes_before d.names d.bytes e.names e.bytes

extends_over : (xs : List PlainNode) (f : PlainForest) (c : PlainNode) → extends_order before_node xs c ≡ extends_order before_node (with_children xs f) c
extends_over [] f c = refl
extends_over (x ∷ []) f c = refl
extends_over (x ∷ y ∷ []) f c = refl
extends_over (x ∷ y ∷ z ∷ xs) f c = extends_over (y ∷ z ∷ xs) f c

-- what follows the nodes of a level follows them with those below closed
pub extends_level : (above levels : List (List PlainNode)) (c : PlainNode) → extends_order before_node (level_at (length above) (above ++ levels)) c ≡ extends_order before_node (merged levels) c
extends_level [] [] c = refl
extends_level [] (nodes ∷ []) c = refl
extends_level [] (nodes ∷ next ∷ more) c = extends_over nodes (forest_of_levels (next ∷ more)) c
extends_level (nodes ∷ above) levels c = extends_level above levels c

-- whether a forest's first node comes after nodes
abbrev pub Comes : List PlainNode → PlainForest → Type 0
Comes nodes none = ⊤
Comes nodes (cell ns b v under rest) = extends_order before_node nodes (leaf ns b v) ≡ true

pub comes_first : (f : PlainForest) → Comes [] f
comes_first none = tt
comes_first (cell ns b v under rest) = refl

pub comes_next : (nodes : List PlainNode) (c : PlainNode) (f : PlainForest) → precedes c.names c.bytes f ≡ true → Comes (nodes ++ c ∷ []) f
comes_next nodes c none e = tt
comes_next nodes c (cell ns b v under rest) e = extends_last before_node nodes c (leaf ns b v) ∙ e
