-- What is left of a forest once a symbol is forgotten, asked of the forest as it is.
use Rattle.std.specs.Prelude.{ℕ, Bool, false, not, ◌&&◌, ◌||◌, ◌==◌, nat_lt, List, count_by}
use Rattle.std.specs.List.{list_any}
use Rattle.std.specs.Ordering.{is_eq}
use Rattle.sym_terms.specs.declared.kinds.Sym.{Sym}
use Rattle.sym_terms.specs.Plain.{PlainSum}
use Rattle.sym_terms.specs.Order.{sum_cmp}
use Rattle.sym_terms.specs.Mentions.{mentions}
use Rattle.mem_forest.specs.Plain.{PlainForest, none, cell}

-- whether a node keeps a name, and so stays
abbrev pub stays : Sym → List PlainSum → Bool
stays s ns = list_any (λ n. not (mentions s n)) ns

-- whether an address is among the names that a node keeps
abbrev pub keeps_name : Sym → PlainSum → List PlainSum → Bool
keeps_name s at ns = list_any (λ n. not (mentions s n) && is_eq (sum_cmp n at)) ns

-- whether a node that stays is at the region, and has fewer than 8 names then where that is asked
abbrev pub is_left_at : Bool → Sym → PlainSum → ℕ → List PlainSum → ℕ → Bool
is_left_at room s at b ns c =
    ((c == b) && keeps_name s at ns) && (not room || nat_lt (count_by (λ n. not (mentions s n)) ns) 8)

-- whether there is such a node, at whatever level; a node that goes takes those under it
abbrev pub has_left : Bool → Sym → PlainSum → ℕ → PlainForest → Bool
has_left room s at b none = false
has_left room s at b (cell ns c v under rest) =
    (stays s ns && (is_left_at room s at b ns c || has_left room s at b under)) || has_left room s at b rest
