-- The first nodes of a level, and a level behind them.
use Rattle.std.proofs.Common.{◌≡◌, ℕ, zero, suc, ◌+◌, ◌<◌, List, [], ◌∷◌, ◌++◌, take, drop, length, slice_set, slice_index_or, refl, sym, ap, arith}
use Rattle.mem_forest.specs.Plain.{PlainForest, none, cell, PlainNode, cells}

-- nodes in front of a level
abbrev pub front : List PlainNode → PlainForest → PlainForest
front [] f = f
front (x ∷ xs) f = cell x.names x.bytes x.value x.under (front xs f)

-- one node in front of a level
abbrev pub one : PlainNode → PlainForest → PlainForest
one x f = cell x.names x.bytes x.value x.under f

pub front-none : (xs : List PlainNode) → front xs none ≡ cells xs
front-none [] = refl
front-none (x ∷ xs) = ap (cell x.names x.bytes x.value x.under) (front-none xs)

pub front-cells : (xs ys : List PlainNode) → cells (xs ++ ys) ≡ front xs (cells ys)
front-cells [] ys = refl
front-cells (x ∷ xs) ys = ap (cell x.names x.bytes x.value x.under) (front-cells xs ys)

pub front-append : (xs ys : List PlainNode) (f : PlainForest) → front (xs ++ ys) f ≡ front xs (front ys f)
front-append [] ys f = refl
front-append (x ∷ xs) ys f = ap (cell x.names x.bytes x.value x.under) (front-append xs ys f)

-- a level is its first nodes in front of the others
pub front-split : (i : ℕ) (xs : List PlainNode) → front (take i xs) (cells (drop i xs)) ≡ cells xs
front-split zero xs = refl
front-split (suc i) [] = refl
front-split (suc i) (x ∷ xs) = ap (cell x.names x.bytes x.value x.under) (front-split i xs)

-- a level in which one node was changed
pub front-set : (xs : List PlainNode) (i : ℕ) (y : PlainNode) → i < length xs → cells (slice_set xs i y) ≡ front (take i xs) (one y (cells (drop (i + 1) xs)))
front-set [] i y h = absurd (omega arith)
front-set (x ∷ xs) zero y h = refl
front-set (x ∷ xs) (suc i) y h =
    let e : suc i + 1 ≡ suc (i + 1) = omega arith in
    rw e (ap (cell x.names x.bytes x.value x.under) (front-set xs i y (omega arith)))

-- what is left of a level from a node on
pub cells_from : (xs : List PlainNode) (i : ℕ) (d z : PlainNode) → z ≡ slice_index_or xs i d → i < length xs → cells (drop i xs) ≡ one z (cells (drop (i + 1) xs))
cells_from [] i d z e h = absurd (omega arith)
cells_from (x ∷ xs) zero d z e h = ap (λ n. one n (cells xs)) (sym e)
cells_from (x ∷ xs) (suc i) d z e h =
    let q : suc i + 1 ≡ suc (i + 1) = omega arith in
    rw q (cells_from xs i d z e (omega arith))
