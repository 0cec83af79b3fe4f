-- What is found once a symbol is forgotten: order and place among siblings don't matter where a region stands once.
use Rattle.std.proofs.Common.{◌≡◌, ℕ, ◌+◌, ◌≤◌, Bool, true, false, ◌&&◌, ◌||◌, ◌==◌, List, [], ◌∷◌, length, Option, Some, None, refl, sym, ap, ap₂, ◌∙◌, arith}
use Rattle.std.specs.Prelude.{if◌then◌else◌, not, nat_lt, count_by, cond}
use Rattle.std.specs.Int.{from_bool}
use Rattle.std.specs.Ordering.{is_eq}
use Rattle.std.proofs.lemmas.List.Sums.{length-filter}
use Rattle.sym_terms.specs.declared.kinds.Sym.{Sym}
use Rattle.sym_terms.specs.Plain.{PlainSum}
use Rattle.sym_terms.specs.Order.{sum_cmp}
use Rattle.sym_terms.specs.Mentions.{mentions}
use Rattle.mem_forest.specs.Plain.{PlainForest, none, cell, PlainNode}
use Rattle.mem_forest.specs.Search.{is_here, has_name, find, found, count_at}
use Rattle.mem_forest.specs.Shape.{IsForest, comes_before}
use Rattle.mem_forest.specs.Levels.{insert}
use Rattle.mem_forest.specs.Alias.{has_name_left, can_alias}
use Rattle.mem_forest.specs.Forget.{forget, unmentioned, unmentioned_value, insert_named}
use Rattle.mem_forest.proofs.ForgetFormLemmas.{forget_forest}
use Rattle.sym_step.specs.Left.{stays, keeps_name, is_left_at, has_left}

-- whether a node passes a test of its names and size
abbrev pub any_node : (List PlainSum → ℕ → Bool) → PlainForest → Bool
any_node t none = false
any_node t (cell ns c v under rest) = t ns c || (any_node t under || any_node t rest)

or_false : (p : Bool) → (p || false) ≡ p
or_false true = refl
or_false false = refl

or_swap : (p q r s : Bool) → (p || (q || (r || s))) ≡ (r || (s || (p || q)))
or_swap true true true true = refl
or_swap true true true false = refl
or_swap true true false true = refl
or_swap true true false false = refl
or_swap true false true true = refl
or_swap true false true false = refl
or_swap true false false true = refl
or_swap true false false false = refl
or_swap false true true true = refl
or_swap false true true false = refl
or_swap false true false true = refl
or_swap false true false false = refl
or_swap false false true true = refl
or_swap false false true false = refl
or_swap false false false true = refl
or_swap false false false false = refl

or_past : (p q r a b : Bool) → (p || (q || (a || (b || r)))) ≡ (a || (b || (p || (q || r))))
or_past true q r true b = refl
or_past true q r false true = refl
or_past true q r false false = refl
or_past false true r true b = refl
or_past false true r false true = refl
or_past false true r false false = refl
or_past false false r true b = refl
or_past false false r false true = refl
or_past false false r false false = refl

or_apart : (p q r : Bool) → (p || (q || r)) ≡ ((p || q) || r)
or_apart true q r = refl
or_apart false q r = refl

-- a node's place among its siblings doesn't matter
any_inserted : (t : List PlainSum → ℕ → Bool) (ns : List PlainSum) (c : ℕ) (v : Option PlainSum) (under rest : PlainForest) → any_node t (insert ns c v under rest) ≡ (t ns c || (any_node t under || any_node t rest))
any_inserted t ns c v under none = refl
any_inserted t ns c v under (cell ms d w below rest) =
    elim (comes_before ns c ms d) as (λ b. any_node t (if b then cell ns c v under (cell ms d w below rest) else cell ms d w below (insert ns c v under rest)) ≡ (t ns c || (any_node t under || (t ms d || (any_node t below || any_node t rest))))) [
      | true ↦ refl
      | false ↦
          ap (λ b. t ms d || (any_node t below || b)) (any_inserted t ns c v under rest)
          ∙ or_past (t ms d) (any_node t below) (any_node t rest) (t ns c) (any_node t under)
    ]

-- whether there is a name
abbrev pub has_first : List PlainSum → Bool
has_first [] = false
has_first (n ∷ ns) = true

any_named : (t : List PlainSum → ℕ → Bool) (ns : List PlainSum) (c : ℕ) (v : Option PlainSum) (under rest : PlainForest) → any_node t (insert_named ns c v under rest) ≡ ((has_first ns && (t ns c || any_node t under)) || any_node t rest)
any_named t [] c v under rest = refl
any_named t (n ∷ ns) c v under rest = any_inserted t (n ∷ ns) c v under rest ∙ or_apart (t (n ∷ ns) c) (any_node t under) (any_node t rest)

first_stays : (s : Sym) (ns : List PlainSum) → has_first (unmentioned s ns) ≡ stays s ns
first_stays s [] = refl
first_stays s (n ∷ ns) =
    elim (mentions s n) as (λ b. has_first (cond (not b) (n ∷ unmentioned s ns) (unmentioned s ns)) ≡ (not b || stays s ns)) [ true ↦ first_stays s ns | false ↦ refl ]

name_kept : (s : Sym) (at : PlainSum) (ns : List PlainSum) → has_name at (unmentioned s ns) ≡ keeps_name s at ns
name_kept s at [] = refl
name_kept s at (n ∷ ns) =
    elim (mentions s n) as (λ b. has_name at (cond (not b) (n ∷ unmentioned s ns) (unmentioned s ns)) ≡ ((not b && is_eq (sum_cmp n at)) || keeps_name s at ns)) [
      | true ↦ name_kept s at ns
      | false ↦ ap (λ b. is_eq (sum_cmp n at) || b) (name_kept s at ns)
    ]

count_kept : (s : Sym) (ns : List PlainSum) → length (unmentioned s ns) ≡ count_by (λ n. not (mentions s n)) ns
count_kept s ns = length-filter (λ n. not (mentions s n)) ns

-- what is asked of a node
abbrev pub asked : Bool → PlainSum → ℕ → List PlainSum → ℕ → Bool
asked room at b ns c = is_here at b ns c && (not room || nat_lt (length ns) 8)

asked_left : (room : Bool) (s : Sym) (at : PlainSum) (b : ℕ) (ns : List PlainSum) (c : ℕ) → asked room at b (unmentioned s ns) c ≡ is_left_at room s at b ns c
asked_left room s at b ns c =
    ap₂ (λ (k : Bool) (n : ℕ). ((c == b) && k) && (not room || nat_lt n 8)) (name_kept s at ns) (count_kept s ns)

pub any_left : (room : Bool) (s : Sym) (at : PlainSum) (b : ℕ) (f : PlainForest) → any_node (asked room at b) (forget s f) ≡ has_left room s at b f
any_left room s at b none = refl
any_left room s at b (cell ns c v under rest) =
    any_named (asked room at b) (unmentioned s ns) c (unmentioned_value s v) (forget s under) (forget s rest)
    ∙ (λ i. (first_stays s ns i && (asked_left room s at b ns c i || any_left room s at b under i)) || any_left room s at b rest i)

-- a node that is found is one that is at the region
asked_found : (p : Bool) → p ≡ (p && true)
asked_found true = refl
asked_found false = refl

found_any : (at : PlainSum) (b : ℕ) (f : PlainForest) → found at b f ≡ any_node (asked false at b) f
found_any at b none = refl
found_any at b (cell ns c v under rest) =
    λ i. asked_found (is_here at b ns c) i || (found_any at b under i || found_any at b rest i)

none_here : (at : PlainSum) (b : ℕ) (f : PlainForest) → count_at at b f ≡ 0 → any_node (asked true at b) f ≡ false
none_here at b none e = refl
none_here at b (cell ns c v under rest) e =
    (elim (is_here at b ns c) as (λ h. count_at at b under + from_bool h + count_at at b rest ≡ 0 → ((h && nat_lt (length ns) 8) || (any_node (asked true at b) under || any_node (asked true at b) rest)) ≡ false) [
      | true ↦ λ e. absurd (omega arith)
      | false ↦ λ e. ap₂ (λ (p q : Bool). p || q) (none_here at b under (omega arith)) (none_here at b rest (omega arith))
    ]) e

found_counted : (at : PlainSum) (b : ℕ) (f : PlainForest) (n : PlainNode) → find at b f ≡ Some n → 1 ≤ count_at at b f
found_counted at b none n e = absurd (cc)
found_counted at b (cell ns c v under rest) n e =
    (elim (is_here at b ns c) as (λ h. (elim h as (λ t. Option PlainNode) [
      | true ↦ Some (record { names = ns; bytes = c; value = v; under = under })
      | false ↦ elim (find at b under) as (λ o. Option PlainNode) [ Some c ↦ Some c | None ↦ find at b rest ]
    ]) ≡ Some n → 1 ≤ count_at at b under + from_bool h + count_at at b rest) [
      | true ↦ λ e. omega arith
      | false ↦ λ e.
          (elim (find at b under) as (λ o. find at b under ≡ o → (elim o as (λ o. Option PlainNode) [ Some c ↦ Some c | None ↦ find at b rest ]) ≡ Some n → 1 ≤ count_at at b under + 0 + count_at at b rest) [
            | Some m ↦ λ is e. omega (arith, found_counted at b under m is)
            | None ↦ λ is e. omega (arith, found_counted at b rest n e)
          ]) refl e
    ]) e

none_counted : (at : PlainSum) (b : ℕ) (f : PlainForest) → find at b f ≡ None → count_at at b f ≡ 0
none_counted at b none e = refl
none_counted at b (cell ns c v under rest) e =
    (elim (is_here at b ns c) as (λ h. (elim h as (λ t. Option PlainNode) [
      | true ↦ Some (record { names = ns; bytes = c; value = v; under = under })
      | false ↦ elim (find at b under) as (λ o. Option PlainNode) [ Some c ↦ Some c | None ↦ find at b rest ]
    ]) ≡ None → count_at at b under + from_bool h + count_at at b rest ≡ 0) [
      | true ↦ λ e. absurd (cc)
      | false ↦ λ e.
          (elim (find at b under) as (λ o. find at b under ≡ o → (elim o as (λ o. Option PlainNode) [ Some c ↦ Some c | None ↦ find at b rest ]) ≡ None → count_at at b under + 0 + count_at at b rest ≡ 0) [
            | Some m ↦ λ is e. absurd (cc)
            | None ↦ λ is e. omega (arith, none_counted at b under is, none_counted at b rest e)
          ]) refl e
    ]) e

-- where a region stands once, the node that is found is the only one that can have room
pub room_any : (at : PlainSum) (b : ℕ) (f : PlainForest) → count_at at b f ≤ 1 → has_name_left (find at b f) ≡ any_node (asked true at b) f
room_any at b none h = refl
room_any at b (cell ns c v under rest) h =
    (elim (is_here at b ns c) as (λ t. count_at at b under + from_bool t + count_at at b rest ≤ 1 → has_name_left (elim t as (λ t. Option PlainNode) [
      | true ↦ Some (record { names = ns; bytes = c; value = v; under = under })
      | false ↦ elim (find at b under) as (λ o. Option PlainNode) [ Some c ↦ Some c | None ↦ find at b rest ]
    ]) ≡ ((t && nat_lt (length ns) 8) || (any_node (asked true at b) under || any_node (asked true at b) rest))) [
      | true ↦ λ h.
          sym (ap (λ p. nat_lt (length ns) 8 || p) (ap₂ (λ (p q : Bool). p || q) (none_here at b under (omega arith)) (none_here at b rest (omega arith))) ∙ or_false (nat_lt (length ns) 8))
      | false ↦ λ h.
          (elim (find at b under) as (λ o. find at b under ≡ o → has_name_left (elim o as (λ o. Option PlainNode) [ Some c ↦ Some c | None ↦ find at b rest ]) ≡ (any_node (asked true at b) under || any_node (asked true at b) rest)) [
            | Some m ↦ λ is.
                let some = found_counted at b under m is in
                ap has_name_left (sym is) ∙ room_any at b under (omega arith)
                ∙ sym (ap (λ p. any_node (asked true at b) under || p) (none_here at b rest (omega arith)) ∙ or_false (any_node (asked true at b) under))
            | None ↦ λ is.
                room_any at b rest (omega arith)
                ∙ sym (ap (λ p. p || any_node (asked true at b) rest) (none_here at b under (none_counted at b under is)))
          ]) refl
    ]) h

-- whether an address can become a name, asked of the forest before
pub alias_left : (t : PlainSum) (a : ℕ) (at : PlainSum) (b : ℕ) (s : Sym) (f : PlainForest) → IsForest f → can_alias t a at b (forget s f) ≡ (has_left true s at b f && ((a == b) && not (has_left false s t a f)))
alias_left t a at b s f h =
    ap₂ (λ (p q : Bool). p && ((a == b) && not q))
    (room_any at b (forget s f) ((forget_forest s f h).single at b) ∙ any_left true s at b f)
    (found_any t a (forget s f) ∙ any_left false s t a f)
