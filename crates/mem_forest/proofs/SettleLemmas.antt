-- A node of a level that is taken out and put in its place among those after it.
use Rattle.std.proofs.Common.{◌≡◌, ℕ, zero, suc, ◌+◌, ◌<◌, List, [], ◌∷◌, take, drop, length, slice_index_or, refl, sym, ap, ◌∙◌, arith}
use Rattle.std.specs.List.{position_or_len, insert as insert_item, remove}
use Rattle.mem_forest.specs.Plain.{PlainForest, PlainNode, cells}
use Rattle.mem_forest.specs.Shape.{comes_before}
use Rattle.mem_forest.specs.Levels.{insert, inserted}
use Rattle.mem_forest.proofs.FrontLemmas.{cells_from}
use Rattle.mem_forest.proofs.PlaceLemmas.{insert-cells}

-- an item that is taken out and comes back k places after its own
pub drop-moved : (xs : List PlainNode) (i k : ℕ) (x : PlainNode) → i < length xs → drop i (insert_item (remove xs i) (i + k) x) ≡ insert_item (drop (i + 1) xs) k x
drop-moved [] i k x h = absurd (omega arith)
drop-moved (y ∷ ys) zero k x h = let e : 0 + k ≡ k = omega arith in rw e refl
drop-moved (y ∷ ys) (suc i) k x h =
    let e : suc i + k ≡ suc (i + k) = omega arith in
    let q : suc i + 1 ≡ suc (i + 1) = omega arith in
    rw (e, q) (drop-moved ys i k x (omega arith))

-- a node that is moved behind those that come before it
pub settled_moved : (xs new : List PlainNode) (i k : ℕ) (x z : PlainNode) → i < length xs → z ≡ x → k ≡ position_or_len (λ m. comes_before x.names x.bytes m.names m.bytes) (drop (i + 1) xs) → new ≡ insert_item (remove xs i) (i + k) z
    → cells (drop i new) ≡ insert x.names x.bytes x.value x.under (cells (drop (i + 1) xs))
settled_moved xs new i k x z h e is_k is_new =
    ap (λ ns. cells (drop i ns)) (is_new ∙ ap (λ n. insert_item (remove xs i) (i + k) n) e) ∙ ap cells (drop-moved xs i k x h)
    ∙ ap (λ j. cells (insert_item (drop (i + 1) xs) j x)) is_k ∙ sym (insert-cells x (drop (i + 1) xs))

-- a node that stays
pub settled_still : (xs : List PlainNode) (i : ℕ) (d x : PlainNode) → i < length xs → x ≡ slice_index_or xs i d → 0 ≡ position_or_len (λ m. comes_before x.names x.bytes m.names m.bytes) (drop (i + 1) xs)
    → cells (drop i xs) ≡ insert x.names x.bytes x.value x.under (cells (drop (i + 1) xs))
settled_still xs i d x h e is_zero =
    cells_from xs i d x e h ∙ ap (λ j. cells (insert_item (drop (i + 1) xs) j x)) is_zero ∙ sym (insert-cells x (drop (i + 1) xs))

-- an item that is there whatever stands for one that is not
pub get_or-any : (xs : List PlainNode) (i : ℕ) (d e : PlainNode) → i < length xs → slice_index_or xs i d ≡ slice_index_or xs i e
get_or-any [] i d e h = absurd (omega arith)
get_or-any (x ∷ xs) zero d e h = refl
get_or-any (x ∷ xs) (suc i) d e h = get_or-any xs i d e (omega arith)

-- one more item of the first ones that come to a level
pub inserted_more : (xs : List PlainNode) (i : ℕ) (d : PlainNode) (f : PlainForest) → i < length xs
    → inserted (take (i + 1) xs) f ≡ inserted (take i xs) (insert (slice_index_or xs i d).names (slice_index_or xs i d).bytes (slice_index_or xs i d).value (slice_index_or xs i d).under f)
inserted_more [] i d f h = absurd (omega arith)
inserted_more (x ∷ xs) zero d f h = refl
inserted_more (x ∷ xs) (suc i) d f h =
    let e : suc i + 1 ≡ suc (i + 1) = omega arith in
    rw e (ap (insert x.names x.bytes x.value x.under) (inserted_more xs i d f (omega arith)))
