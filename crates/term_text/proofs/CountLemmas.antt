-- The parser counts nodes up to 33, and has the sums of the grammar up to the limit.
use Rattle.std.proofs.Common.{◌≡◌, ℕ, ◌+◌, ◌≤◌, Bool, true, false, ltb, leb, eqb, if◌then◌else◌, refl, sym, ap, ◌∙◌, arith}
use Rattle.std.proofs.lemmas.Bool.{le-leb, le-ltb, ltb-true, ltb-false, eqb-true}
use Rattle.sym_terms.specs.declared.kinds.Fit.{Fit}
use Rattle.sym_terms.specs.declared.kinds.Pair.{Pair}
use Rattle.sym_terms.specs.Plain.{PlainSum, sum, none}
use Rattle.sym_terms.specs.Nodes.{nodes}
use Rattle.sym_terms.specs.Normal.{plus, times, fit, pair, within_node_limit, IsNormal}
use Rattle.sym_terms.proofs.SumLemmas.{plus_times_nodes}
use Rattle.sym_terms.proofs.AtomLemmas.{fit_nodes, pair_nodes}
use Rattle.term_text.specs.Tree.{Sign, positive, negative, signed_number}
use Rattle.term_text.specs.Parser.{one_more, zero_term, or_zero, signed, multiple, total, fitted_of, paired_of}
use Rattle.term_text.proofs.PieceLemmas.{within_is}
use Rattle.term_text.proofs.StepLemmas.{nodes_pos}
use Rattle.term_text.proofs.TreeLemmas.{times_nodes, times_once}

-- ---- counts and sums up to the limit

-- a count that stops at 33
abbrev pub capped : ℕ → ℕ
capped n = if ltb 32 n then 33 else n

-- a sum, and 0 over the limit
abbrev pub kept : ℕ → PlainSum → PlainSum
kept n s = if ltb 32 n then zero_term else s

-- one node more
pub more_capped : (n : ℕ) → one_more (capped n) ≡ capped (n + 1)
more_capped n = by_size (ltb 32 n) (ltb 32 (n + 1)) refl refl
  where
    by_size : (a b : Bool) → ltb 32 n ≡ a → ltb 32 (n + 1) ≡ b → one_more (if a then 33 else n) ≡ (if b then 33 else n + 1)
    by_size true true e f = refl
    by_size true false e f = absurd (omega (arith, ltb-true 32 n e, ltb-false 32 (n + 1) f))
    by_size false true e f = let i : leb n 32 ≡ true = le-leb n 32 (ltb-false 32 n e) in rw i (omega (arith, ltb-false 32 n e, ltb-true 32 (n + 1) f))
    by_size false false e f = let i : leb n 32 ≡ true = le-leb n 32 (ltb-false 32 n e) in rw i refl

-- 0 stays 0
pub zero_kept : (n : ℕ) → kept n zero_term ≡ zero_term
zero_kept n = by_size (ltb 32 n)
  where
    by_size : (b : Bool) → (if b then zero_term else zero_term) ≡ zero_term
    by_size true = refl
    by_size false = refl

-- a multiple within the limit
pub multiple_is : (k : ℕ) (t : PlainSum) → IsNormal t → nodes t ≤ 32 → multiple k t ≡ times k t
multiple_is k t normal small = by_one (eqb k 1) refl
  where
    by_one : (b : Bool) → eqb k 1 ≡ b → (if b then t else or_zero (within_node_limit (times k t))) ≡ times k t
    by_one true e = sym (times_once t normal) ∙ ap (λ (j : ℕ). times j t) (sym (eqb-true k 1 e))
    by_one false e = ap or_zero (within_is (times k t) (omega (arith, times_nodes k t)))

-- a multiple is added, with m nodes then
pub total_kept : (n m : ℕ) (s : PlainSum) (k : ℕ) (made t : PlainSum) → n ≤ m → (m ≤ 32 → made ≡ t) → IsNormal t
    → nodes s + nodes t ≤ m + 1 → total (capped m) (kept n s) k made ≡ kept m (plus s (times k t))
unfolding total
total_kept n m s k made t le same normal small = by_size (ltb 32 m) refl
  where
    by_size : (b : Bool) → ltb 32 m ≡ b
        → (if ltb 32 (if b then 33 else m) then zero_term else or_zero (within_node_limit (plus (kept n s) (multiple k made)))) ≡ (if b then zero_term else plus s (times k t))
    by_size true e = refl
    by_size false e =
        let few : m ≤ 32 = ltb-false 32 m e in
        let early : ltb 32 n ≡ false = le-ltb 32 n (omega arith) in
        let bound : nodes (plus s (times k t)) ≤ 32 = omega (arith, plus_times_nodes s 1 (times k t), times_nodes k t) in
        let once : multiple k made ≡ times k t = ap (multiple k) (same few) ∙ multiple_is k t normal (omega (arith, nodes_pos s)) in
        rw (e, early, once, within_is (plus s (times k t)) bound) refl

-- a fit within the limit
pub fitted_kept : (m : ℕ) (f : Fit) (a : PlainSum) → m ≤ 32 → nodes a + 2 ≤ m → fitted_of (capped m) f (kept m a) ≡ fit f a
unfolding fitted_of
fitted_kept m f a le small =
    let few : ltb 32 m ≡ false = le-ltb 32 m le in
    let bound : nodes (fit f a) ≤ 32 = omega (arith, fit_nodes f a) in
    rw (few, few, within_is (fit f a) bound) refl

-- a pair within the limit
pub paired_kept : (l m : ℕ) (p : Pair) (a b : PlainSum) → m ≤ 32 → l ≤ m → nodes a + nodes b + 2 ≤ m
    → paired_of (capped m) p (kept l a) (kept m b) ≡ pair p a b
unfolding paired_of
paired_kept l m p a b le early small =
    let few : ltb 32 m ≡ false = le-ltb 32 m le in
    let few_before : ltb 32 l ≡ false = le-ltb 32 l (omega arith) in
    let bound : nodes (pair p a b) ≤ 32 = omega (arith, pair_nodes p a b) in
    rw (few, few, few_before, within_is (pair p a b) bound) refl

-- ---- pieces

-- whether it is a minus
abbrev pub is_minus : Sign → Bool
is_minus positive = false
is_minus negative = true

-- a number after a sign
pub signed_same : (sign : Sign) (k : ℕ) → signed (is_minus sign) k ≡ signed_number sign k
signed_same positive k = refl
signed_same negative k = refl

-- a number is added
pub number_kept : (n : ℕ) (s : PlainSum) (sign : Sign) (v : ℕ) → IsNormal (sum (signed_number sign v) none) → nodes s ≤ n
    → total (capped n) (kept n s) 1 (sum (signed (is_minus sign) v) none) ≡ kept n (plus s (sum (signed_number sign v) none))
number_kept n s sign v normal small =
    let t = sum (signed_number sign v) none in
    ap (λ (k : ℕ). total (capped n) (kept n s) 1 (sum k none)) (signed_same sign v)
    ∙ total_kept n n s 1 t t (omega arith) (λ le. refl) normal (omega arith) ∙ ap (λ y. kept n (plus s y)) (times_once t normal)

-- a multiple of an atom is added
pub atom_kept : (n m : ℕ) (s : PlainSum) (sign : Sign) (k : ℕ) (made t : PlainSum) → n ≤ m → (m ≤ 32 → made ≡ t) → IsNormal t
    → nodes s + nodes t ≤ m + 1
    → total (capped m) (kept n s) (signed (is_minus sign) k) made ≡ kept m (plus s (times (signed_number sign k) t))
atom_kept n m s sign k made t le same normal small =
    total_kept n m s (signed (is_minus sign) k) made t le same normal small ∙ ap (λ (j : ℕ). kept m (plus s (times j t))) (signed_same sign k)
