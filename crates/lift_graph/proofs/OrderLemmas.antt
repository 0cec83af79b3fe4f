-- The vertices in order.
use Rattle.std.proofs.Common.{◌≡◌, ◌<◌, ◌+◌, ℕ, List, [], ◌∷◌, ◌++◌, sym, ap, ◌∙◌, subst, arith, map-id}
use Rattle.std.specs.Prelude.{IsPermutation}
use Rattle.std.specs.List.{Contains, range_with_len}
use Rattle.std.proofs.lemmas.List.FromFn.{length-range_with_len, get_or-range_with_len, map-range_with_len_more}
use Rattle.std.proofs.lemmas.List.Sorted.{Contains-permutation}

-- one number more
pub range_more : (n : ℕ) → range_with_len 0 (n + 1) ≡ range_with_len 0 n ++ n ∷ []
range_more n = sym (map-id (range_with_len 0 (n + 1))) ∙ map-range_with_len_more (λ x. x) 0 n n (omega arith) ∙ ap (λ xs. xs ++ n ∷ []) (map-id (range_with_len 0 n))

-- each number below n stands in an order of them
pub once_all : (n v : ℕ) (order : List ℕ) → IsPermutation (range_with_len 0 n) order → v < n → Contains order v
once_all n v order once l = Contains-permutation (range_with_len 0 n) order v once (v, subst (λ m. v < m) (sym (length-range_with_len 0 n)) l, get_or-range_with_len 0 n v v l ∙ omega arith)
