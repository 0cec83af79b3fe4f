-- When a term is one of the symbols that a return needs.
use Rattle.std.proofs.Common.{◌≡◌, Bool, true, false, ◌==◌, ◌&&◌, ◌||◌, if◌then◌else◌, Some, None, List, [], ◌∷◌, refl, ap, ap₂, sym, subst, ◌∙◌, arith}
use Rattle.std.specs.List.{list_any}
use Rattle.std.specs.Ordering.{is_eq}
use Rattle.std.specs.Cmp.{tied_itself, Equal-is}
use Rattle.std.proofs.lemmas.Bool.{false_from_ne_true}
use Rattle.std.proofs.lemmas.Bool.Decides.{nat_tests}
use Rattle.sym_terms.specs.declared.kinds.Sym.{Sym}
use Rattle.sym_terms.specs.Plain.{PlainSum, sum, none, more, symbol, fitted, paired, single_atom, symbol_alone}
use Rattle.sym_terms.specs.Order.{sum_cmp, sym_cmp}
use Rattle.sym_terms.specs.Codes.{sum_same, sum_total, sym_same, atom_total}
use Rattle.pred_step.specs.Restored.{is_symbol}

-- nothing is no symbol, whatever the test
no_symbol : (b : Bool) (s : Sym) → (if b then None else None) ≡ Some s → true ≡ false
no_symbol true s e = absurd (cc)
no_symbol false s e = absurd (cc)

-- what is a symbol alone is that atom
symbol_from : (a : PlainSum) (s : Sym) → symbol_alone a ≡ Some s → a ≡ single_atom (symbol s)
symbol_from (sum c none) s e = absurd (cc)
symbol_from (sum c (more (symbol t) k none)) s e =
    (elim ((c == 0) && (k == 1)) as (λ b. ((c == 0) && (k == 1)) ≡ b → (if b then Some t else None) ≡ Some s → sum c (more (symbol t) k none) ≡ single_atom (symbol s)) [
      | true ↦ λ h f.
          let zero : c ≡ 0 = grind (arith, nat_tests) in
          let one : k ≡ 1 = grind (arith, nat_tests) in
          let same : t ≡ s = cc in
          λ i. sum (zero i) (more (symbol (same i)) (one i) none)
      | false ↦ λ h f. absurd (cc)
    ]) refl e
symbol_from (sum c (more (fitted f x) k none)) s e = let no : true ≡ false = no_symbol ((c == 0) && (k == 1)) s e in absurd (cc)
symbol_from (sum c (more (paired p x y) k none)) s e = let no : true ≡ false = no_symbol ((c == 0) && (k == 1)) s e in absurd (cc)
symbol_from (sum c (more x k (more y l ys))) s e = absurd (cc)

-- a symbol, by its place in the order
same_symbol : (own s : Sym) → is_eq (sum_cmp (single_atom (symbol own)) (single_atom (symbol s))) ≡ true → own ≡ s
same_symbol own s e = let same : single_atom (symbol own) ≡ single_atom (symbol s) = sum_same _ _ ((Equal-is (sum_cmp (single_atom (symbol own)) (single_atom (symbol s)))).0 e) in cc

both_tests : (x y : Bool) → (x ≡ true → y ≡ true) → (y ≡ true → x ≡ true) → x ≡ y
both_tests true y f h = sym (f refl)
both_tests false true f h = h refl
both_tests false false f h = refl

symbols_alike : (own s : Sym) → is_eq (sum_cmp (single_atom (symbol own)) (single_atom (symbol s))) ≡ is_eq (sym_cmp own s)
symbols_alike own s =
    both_tests (is_eq (sum_cmp (single_atom (symbol own)) (single_atom (symbol s)))) (is_eq (sym_cmp own s))
    (λ e. subst (λ (t : Sym). is_eq (sym_cmp own t) ≡ true) (same_symbol own s e) (ap is_eq (tied_itself atom_total (symbol own))))
    (λ e. subst (λ (t : Sym). is_eq (sum_cmp (single_atom (symbol own)) (single_atom (symbol t))) ≡ true) (sym_same own s ((Equal-is (sym_cmp own s)).0 e)) (ap is_eq (tied_itself sum_total (single_atom (symbol own)))))

-- a term that is a symbol is another exactly where that is the same
pub symbol_tested : (t : PlainSum) (own s : Sym) → symbol_alone t ≡ Some own → is_symbol s (Some t) ≡ is_eq (sym_cmp own s)
symbol_tested t own s e = ap (λ (u : PlainSum). is_eq (sum_cmp u (single_atom (symbol s)))) (symbol_from t own e) ∙ symbols_alike own s

-- a term that is no symbol is none of them
pub symbol_refused : (t : PlainSum) (s : Sym) → symbol_alone t ≡ None → is_symbol s (Some t) ≡ false
symbol_refused t s e = false_from_ne_true (is_symbol s (Some t)) (λ h.
    let same : t ≡ single_atom (symbol s) = sum_same t (single_atom (symbol s)) ((Equal-is (sum_cmp t (single_atom (symbol s)))).0 h) in
    let own : symbol_alone t ≡ Some s = ap symbol_alone same in
    let f : ⊥ = cc in f)

pub any_tested : (t : PlainSum) (own : Sym) (all : List Sym) → symbol_alone t ≡ Some own → list_any (λ s. is_symbol s (Some t)) all ≡ list_any (λ s. is_eq (sym_cmp own s)) all
any_tested t own [] e = refl
any_tested t own (s ∷ all) e = ap₂ (λ a b. a || b) (symbol_tested t own s e) (any_tested t own all e)

pub any_refused : (t : PlainSum) (all : List Sym) → symbol_alone t ≡ None → list_any (λ s. is_symbol s (Some t)) all ≡ false
any_refused t [] e = refl
any_refused t (s ∷ all) e = ap₂ (λ a b. a || b) (symbol_refused t s e) (any_refused t all e)

-- nothing is none of them
pub none_refused : (all : List Sym) → list_any (λ s. is_symbol s None) all ≡ false
none_refused [] = refl
none_refused (s ∷ all) = none_refused all
