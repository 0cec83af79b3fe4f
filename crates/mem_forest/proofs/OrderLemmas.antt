-- The order of siblings: by first name, then size.
use Rattle.std.proofs.Common.{◌≡◌, ℕ, true, false, ◌||◌, List, ◌∷◌, refl, sym, ap, ◌∙◌, eq-eqb}
use Rattle.std.specs.Prelude.{◌==◌}
use Rattle.std.specs.declared.cmp.Ordering.{Ordering}
use Rattle.std.specs.declared.cmp.Ordering.TheVariants.{Less, Equal, Greater}
use Rattle.std.specs.Ordering.{is_lt, is_eq, ordering_then, ordering_reverse, nat_cmp}
use Rattle.std.specs.Cmp.{IsTotalOrder, tied_itself}
use Rattle.std.specs.FinMap.{nat_cmp-IsAntisymmetric}
use Rattle.std.proofs.lemmas.Bool.{and_from}
use Rattle.std.proofs.lemmas.Cmp.{then_total, on_total, nat_cmp_total}
use Rattle.sym_terms.specs.Plain.{PlainSum}
use Rattle.sym_terms.specs.Order.{sum_cmp}
use Rattle.sym_terms.specs.Codes.{sum_same, sum_total}
use Rattle.mem_forest.specs.Search.{has_name, is_here}
use Rattle.mem_forest.specs.Shape.{comes_before}

-- the order of keys: a first name and a size
abbrev pub key_cmp : PlainSum × ℕ → PlainSum × ℕ → Ordering
key_cmp x y = ordering_then (sum_cmp x.0 y.0) (nat_cmp x.1 y.1)

key_total : IsTotalOrder key_cmp
key_total = then_total (on_total (λ (x : PlainSum × ℕ). x.0) sum_total) (on_total (λ (x : PlainSum × ℕ). x.1) nat_cmp_total)

less_from : (r : Ordering) → is_lt r ≡ true → r ≡ Less
less_from Less e = refl
less_from Equal e = absurd (cc)
less_from Greater e = absurd (cc)

-- a node before one that is before a third is before the third
pub before_trans : (n m l : PlainSum) (ns ms ls : List PlainSum) (b c d : ℕ) → comes_before (n ∷ ns) b (m ∷ ms) c ≡ true → comes_before (m ∷ ms) c (l ∷ ls) d ≡ true → comes_before (n ∷ ns) b (l ∷ ls) d ≡ true
before_trans n m l ns ms ls b c d e g =
    ap is_lt (key_total.trans (n, b) (m, c) (l, d) (less_from (key_cmp (n, b) (m, c)) e) (less_from (key_cmp (m, c) (l, d)) g))

sum_itself : (n : PlainSum) → is_eq (sum_cmp n n) ≡ true
sum_itself n = ap is_eq (tied_itself sum_total n)

both_equal : (r s : Ordering) → ordering_then r s ≡ Equal → (r ≡ Equal) × (s ≡ Equal)
both_equal Less s e = absurd (cc)
both_equal Equal s e = (refl, e)
both_equal Greater s e = absurd (cc)

-- an equal key is a common region
same_here : (n m : PlainSum) (ms : List PlainSum) (b c : ℕ) → key_cmp (n, b) (m, c) ≡ Equal → is_here n b (m ∷ ms) c ≡ true
same_here n m ms b c e =
    let p = both_equal (sum_cmp n m) (nat_cmp b c) e in
    let name : n ≡ m = sum_same n m p.0 in
    let size : b ≡ c = nat_cmp-IsAntisymmetric b c p.1 in
    let one : is_eq (sum_cmp m n) ≡ true = ap (λ x. is_eq (sum_cmp m x)) name ∙ sum_itself m in
    and_from (c == b) (has_name n (m ∷ ms)) (eq-eqb c b (sym size)) (ap (λ t. t || has_name n ms) one)

turned : (r s : Ordering) → r ≡ ordering_reverse s → is_lt r ≡ false → (r ≡ Equal → false ≡ true) → is_lt s ≡ true
turned Less s e l q = absurd (cc)
turned Equal s e l q = let h = q refl in absurd (cc)
turned Greater Less e l q = refl
turned Greater Equal e l q = absurd (cc)
turned Greater Greater e l q = absurd (cc)

-- of two nodes with no common region one is before the other
pub before_turned : (n m : PlainSum) (ns ms : List PlainSum) (b c : ℕ) → comes_before (n ∷ ns) b (m ∷ ms) c ≡ false → is_here n b (m ∷ ms) c ≡ false → comes_before (m ∷ ms) c (n ∷ ns) b ≡ true
before_turned n m ns ms b c e h =
    turned (key_cmp (n, b) (m, c)) (key_cmp (m, c) (n, b)) (key_total.antisymm (n, b) (m, c)) e (λ q. sym h ∙ same_here n m ms b c q)
